-- What was asked for as a whole may be asked for again.
use Rattle.std.specs.Prelude.{◌≡◌, ◌++◌, ℕ, List, [], ◌∷◌, IsTrue, drop, length, map, take}
use Rattle.std.proofs.Common.{refl, sym, ap, subst, ◌∙◌}
use Rattle.std.proofs.Math.Logic.{∥∥₁_elim}
use Rattle.std.proofs.Props.{props}
use Rattle.std.proofs.lemmas.Bool.{false≢true, or_right}
use Rattle.std.proofs.lemmas.List.{length-map, map-append, take_at}
use Rattle.dita_doc.specs.declared.plan.PlanNode.{PlanNode}
use Rattle.plan_nodes.specs.Preorder.{without_end}
use Rattle.readers.specs.Documents.{AskedBy, AsksOnly, Covers, Follows, MayAsk, documents_asked, may_ask}
use Rattle.readers.specs.Founded.{AreAllowed, Grows, IsFounded, StaysFounded, homes, is_allowed, is_among, names_asked, names_given}
use Rattle.readers.specs.Told.{Told, document, kind, title, first, key, pushes, page_of, pending, pending_document}
use Rattle.readers.proofs.FoundedLaws.{among_one, stays_by, stays_grows, stays_when}
use Rattle.map_expand.specs.AskedFor.{AreAsked, asked_for}
use Rattle.readers.proofs.AmongLaws.{among_back, among_either}
use Rattle.readers.proofs.DocumentLaws.{asks_by, asks_grows, asks_when}
use Rattle.readers.proofs.GrowthLaws.{grows_trans}

-- What was asked for before

asked_behind : (more old : List Told) (m : List ℕ) → IsTrue (is_among (asked_for old) m)
    → IsTrue (is_among (asked_for (more ++ old)) m)
asked_behind [] old m asked = asked
asked_behind (t ∷ more) old m asked = among_back (documents_asked t) _ m (asked_behind more old m asked)

pub asked_before : (old new : List Told) (m : List ℕ) → Grows old new → IsTrue (is_among (asked_for old) m)
    → IsTrue (is_among (asked_for new) m)
asked_before old new m grows asked = ∥∥₁_elim grows.is (hlevel props)
    (λ p. subst (λ ts. IsTrue (is_among (asked_for ts) m)) (sym p.1) (asked_behind p.0 old m asked))

pub asked_later : (old new : List Told) (names : List (List ℕ)) → Grows old new → AreAsked old names
    → AreAsked new names
asked_later old new names grows asked =
    record { each = λ m among. asked_before old new m grows (asked.each m among) }

-- Documents in which nodes stand

pub none_asked : (told : List Told) (nodes : List PlanNode) → nodes ≡ [] → AreAsked told (homes nodes)
none_asked told nodes none = subst (λ n. AreAsked told (homes n)) (sym none)
    (record { each = λ m among. absurd (false≢true among) })

-- a node more
pub asked_node : (told : List Told) (nodes new : List PlanNode) (node : PlanNode) → new ≡ nodes ++ node ∷ []
    → AreAsked told (homes nodes) → IsTrue (is_among (asked_for told) node.doc) → AreAsked told (homes new)
asked_node told nodes new node is before here = record {
  each = λ m among. among_either (homes nodes) (node.doc ∷ []) m (IsTrue (is_among (asked_for told) m)) (before.each m)
      (λ last. subst (λ n. IsTrue (is_among (asked_for told) n)) (among_one node.doc m last) here)
      (subst (λ l. IsTrue (is_among l m)) (ap homes is ∙ map-append _ nodes (node ∷ [])) among);
}

-- their ends are set in the memory in which they stand
pub homes_kept : (len : ℕ) (before old new : List PlanNode) → old ≡ before → length old ≡ len
    → map without_end new ≡ map without_end old → homes (take len (new ++ drop (length new) old)) ≡ homes before
homes_kept len before old new is fits same =
    let many : length new ≡ length old =
    sym (length-map new without_end) ∙ ap (λ l. length l) same ∙ length-map old without_end in
    ap homes (take_at new (drop (length new) old) len (many ∙ fits))
    ∙ sym (without new) ∙ ap homes same ∙ without old ∙ ap homes is
  where
    without : (nodes : List PlanNode) → homes (map without_end nodes) ≡ homes nodes
    without [] = refl
    without (node ∷ nodes) = ap (λ l. node.doc ∷ l) (without nodes)

-- By what was told

is_about : (t : Told) (m : List ℕ) → IsTrue (is_among (documents_asked t) m) → IsTrue (is_among (names_asked t) m)
is_about (document name tree) m among = among
is_about (kind name answer) m among = absurd (false≢true among)
is_about (title name topic text) m among = absurd (false≢true among)
is_about (first name id) m among = absurd (false≢true among)
is_about (key nodes scope text answer) m among = absurd (false≢true among)
is_about (pushes documents name answer) m among = absurd (false≢true among)
is_about (page_of pages name context answer) m among = absurd (false≢true among)
is_about (pending names) m among = absurd (false≢true among)
is_about (pending_document name) m among = among

name_allowed : (roots : List (List ℕ)) (told : List Told) (m : List ℕ) → IsFounded roots told
    → IsTrue (is_among (asked_for told) m) → IsTrue (is_allowed roots told m)
name_allowed roots [] m founded asked = absurd (false≢true asked)
name_allowed roots (t ∷ told) m founded asked = or_right (is_among (names_given t) m) _
    (among_either (documents_asked t) (asked_for told) m (IsTrue (is_allowed roots told m))
    (λ here. founded.0.each m (is_about t m here)) (name_allowed roots told m founded.1) asked)

-- what was asked for is allowed where all is founded
pub asked_allowed : (roots : List (List ℕ)) (told : List Told) (names : List (List ℕ)) → IsFounded roots told
    → AreAsked told names → AreAllowed roots told names
asked_allowed roots told names founded asked =
    record { each = λ m among. name_allowed roots told m founded (asked.each m among) }

name_may : (rule : Follows) (roots : List (List ℕ)) (told : List Told) (m : List ℕ) → AskedBy rule roots told
    → IsTrue (is_among (asked_for told) m) → IsTrue (may_ask rule roots told m)
name_may rule roots [] m by asked = absurd (false≢true asked)
name_may rule roots (t ∷ told) m by asked = or_right (is_among (rule t) m) _
    (among_either (documents_asked t) (asked_for told) m (IsTrue (may_ask rule roots told m))
    (by.0.each m) (name_may rule roots told m by.1) asked)

-- what was asked for by a rule may be asked for by it
pub asked_may : (rule : Follows) (roots : List (List ℕ)) (told : List Told) (names : List (List ℕ))
    → AskedBy rule roots told → AreAsked told names → MayAsk rule roots told names
asked_may rule roots told names by asked =
    record { each = λ m among. name_may rule roots told m by (asked.each m among) }

-- One call after another, where the second is about documents that were asked for by then

pub stays_asked : (roots_names names : List (List ℕ)) (a b c : List Told) → StaysFounded roots_names a b
    → AreAsked b names → StaysFounded names b c → StaysFounded roots_names a c
stays_asked roots_names names a b c before asked next = stays_when roots_names a c
    (grows_trans a b c (stays_grows roots_names a b before) (stays_grows names b c next))
    (λ roots allowed founded. let there = stays_by roots_names a b before roots allowed founded in
    stays_by names b c next roots (asked_allowed roots b names there asked) there)

pub asks_asked : (follows less : Follows) (roots_names names : List (List ℕ)) (a b c : List Told)
    → ((rule : Follows) → Covers rule follows → Covers rule less) → AsksOnly follows roots_names a b
    → AreAsked b names → AsksOnly less names b c → AsksOnly follows roots_names a c
asks_asked follows less roots_names names a b c covered before asked next = asks_when follows roots_names a c
    (grows_trans a b c (asks_grows follows roots_names a b before) (asks_grows less names b c next))
    (λ rule roots covers may first. let there = asks_by follows roots_names a b before rule roots covers may first in
    asks_by less names b c next rule roots (covered rule covers) (asked_may rule roots b names there asked) there)
