-- Which documents are asked for by calls one after another.
use Rattle.std.proofs.Common.{◌≡◌, ◌⊎◌, ◌||◌, ◌∙◌, ℕ, List, [], ◌∷◌, ◌++◌, IsTrue, sym, ap, subst, inl, inr}
use Rattle.std.proofs.Math.Logic.{∥∥₁_elim, ⊎_elim}
use Rattle.std.proofs.Props.{props}
use Rattle.std.proofs.lemmas.Bool.{false≢true, or_cases, or_left, or_right}
use Rattle.dita_doc.specs.declared.plan.PlanNode.{PlanNode}
use Rattle.readers.specs.Documents.{AreOnly, AreSought, AskedBy, AsksOnly, Covers, Follows, MayAsk, documents_asked, is_sought, may_ask, nothing}
use Rattle.readers.specs.Founded.{Grows, homes, is_among}
use Rattle.readers.specs.Props.{AskedBy-prop}
use Rattle.readers.specs.Noted.{told_of, told_onto}
use Rattle.readers.specs.Setting.{Setting}
use Rattle.readers.specs.Told.{Told}
use Rattle.readers.specs.declared.questions.Note.{Note}
use Rattle.readers.proofs.FoundedLaws.{among_append, among_one}
use Rattle.readers.proofs.GrowthLaws.{grows_trans}

pub covers_same : (rule : Follows) → Covers rule rule
covers_same rule = record { each = λ t m among. among }

pub covers_nothing : (rule : Follows) → Covers rule nothing
covers_nothing rule = record { each = λ t m among. absurd (false≢true among) }

may_ask_behind : (rule : Follows) (roots : List (List ℕ)) (more old : List Told) (m : List ℕ)
    → IsTrue (may_ask rule roots old m) → IsTrue (may_ask rule roots (more ++ old) m)
may_ask_behind rule roots [] old m may = may
may_ask_behind rule roots (t ∷ more) old m may =
    or_right (is_among (rule t) m) _ (may_ask_behind rule roots more old m may)

-- what might be asked for before still may
pub may_ask_before : (rule : Follows) (roots : List (List ℕ)) (old new : List Told) (m : List ℕ) → Grows old new
    → IsTrue (may_ask rule roots old m) → IsTrue (may_ask rule roots new m)
may_ask_before rule roots old new m grows may = ∥∥₁_elim grows.is (hlevel props)
    (λ p. subst (λ ts. IsTrue (may_ask rule roots ts m)) (sym p.1) (may_ask_behind rule roots p.0 old m may))

pub all_before : (rule : Follows) (roots : List (List ℕ)) (old new : List Told) (names : List (List ℕ))
    → Grows old new → MayAsk rule roots old names → MayAsk rule roots new names
all_before rule roots old new names grows may =
    record { each = λ m among. may_ask_before rule roots old new m grows (may.each m among) }

pub one_may : (rule : Follows) (roots : List (List ℕ)) (ts : List Told) (name : List ℕ)
    → IsTrue (may_ask rule roots ts name) → MayAsk rule roots ts (name ∷ [])
one_may rule roots ts name may = record {
  each = λ m among. subst (λ n. IsTrue (may_ask rule roots ts n)) (among_one name m among) may;
}

pub none_may : (rule : Follows) (roots : List (List ℕ)) (ts : List Told) → MayAsk rule roots ts []
none_may rule roots ts = record { each = λ m among. absurd (false≢true among) }

-- what follows from the last answer may be asked for
pub follows_may : (rule follows : Follows) (roots : List (List ℕ)) (t : Told) (old new : List Told)
    → Covers rule follows → new ≡ t ∷ old → MayAsk rule roots new (follows t)
follows_may rule follows roots t old new covers is = record {
  each = λ m among. subst (λ ts. IsTrue (may_ask rule roots ts m)) (sym is)
      (or_left (is_among (rule t) m) _ (covers.each t m among));
}

-- a root may be asked for
pub root_may : (rule : Follows) (roots : List (List ℕ)) (ts : List Told) (m : List ℕ) → IsTrue (is_among roots m)
    → IsTrue (may_ask rule roots ts m)
root_may rule roots [] m among = among
root_may rule roots (t ∷ ts) m among = or_right (is_among (rule t) m) _ (root_may rule roots ts m among)

-- What is sought when a document is asked for

sought_root : (follows : Follows) (names : List (List ℕ)) (ts : List Told) (m : List ℕ) → IsTrue (is_among names m)
    → IsTrue (is_sought follows names ts m)
sought_root follows names [] m among = among
sought_root follows names (t ∷ ts) m among = or_right (is_among (follows t) m) _
    (or_right (is_among (documents_asked t) m) _ (sought_root follows names ts m among))

-- what was sought before still is
sought_behind : (follows : Follows) (names : List (List ℕ)) (more old : List Told) (m : List ℕ)
    → IsTrue (is_sought follows names old m) → IsTrue (is_sought follows names (more ++ old) m)
sought_behind follows names [] old m sought = sought
sought_behind follows names (t ∷ more) old m sought = or_right (is_among (follows t) m) _
    (or_right (is_among (documents_asked t) m) _ (sought_behind follows names more old m sought))

-- it is one of the list, or it was told
sought_told : (follows : Follows) (names : List (List ℕ)) (ts : List Told) (m : List ℕ)
    → IsTrue (is_sought follows names ts m) → IsTrue (is_among names m) ⊎ IsTrue (is_sought follows [] ts m)
sought_told follows names [] m sought = inl sought
sought_told follows names (t ∷ ts) m sought = ⊎_elim (λ given. inr (or_left (is_among (follows t) m) _ given))
    (λ rest. ⊎_elim (λ asked. inr (or_right (is_among (follows t) m) _ (or_left (is_among (documents_asked t) m) _ asked)))
    (λ older. ⊎_elim (λ listed. inl listed) (λ told. inr (or_right (is_among (follows t) m) _
    (or_right (is_among (documents_asked t) m) _ told))) (sought_told follows names ts m older))
    (or_cases (is_among (documents_asked t) m) (is_sought follows names ts m) rest))
    (or_cases (is_among (follows t) m) (is_among (documents_asked t) m || is_sought follows names ts m) sought)

-- what was told may be asked for, if all that was asked for might be
told_may : (rule follows : Follows) (roots : List (List ℕ)) (ts : List Told) (m : List ℕ) → Covers rule follows
    → AskedBy rule roots ts → IsTrue (is_sought follows [] ts m) → IsTrue (may_ask rule roots ts m)
told_may rule follows roots [] m covers before sought = absurd (false≢true sought)
told_may rule follows roots (t ∷ ts) m covers before sought = ⊎_elim
    (λ given. or_left (is_among (rule t) m) _ (covers.each t m given))
    (λ rest. or_right (is_among (rule t) m) _ (⊎_elim (λ asked. before.0.each m asked)
    (λ older. told_may rule follows roots ts m covers before.1 older)
    (or_cases (is_among (documents_asked t) m) (is_sought follows [] ts m) rest)))
    (or_cases (is_among (follows t) m) (is_among (documents_asked t) m || is_sought follows [] ts m) sought)

asked_more : (rule follows : Follows) (roots names : List (List ℕ)) (more old : List Told) → Covers rule follows
    → MayAsk rule roots old names → AskedBy rule roots old → AreOnly follows names more old
    → AskedBy rule roots (more ++ old)
asked_more rule follows roots names [] old covers may before only = before
asked_more rule follows roots names (t ∷ more) old covers may before only =
    let asked = asked_more rule follows roots names more old covers may before only.1 in
    let each : MayAsk rule roots (more ++ old) (documents_asked t) = record {
      each = λ m here. ⊎_elim (λ listed. may_ask_behind rule roots more old m (may.each m listed))
          (λ told. told_may rule follows roots (more ++ old) m covers asked told)
          (sought_told follows names (more ++ old) m (only.0.each m here));
    } in
    (each, asked)

-- by each rule that covers this one, if the documents of the call might be asked for, then so might all that was asked for
pub asks_by : (follows : Follows) (names : List (List ℕ)) (old new : List Told) → AsksOnly follows names old new
    → (rule : Follows) (roots : List (List ℕ)) → Covers rule follows → MayAsk rule roots old names
    → AskedBy rule roots old → AskedBy rule roots new
asks_by follows names old new asks rule roots covers may before = ∥∥₁_elim asks.is (AskedBy-prop rule roots new) (λ p.
    subst (AskedBy rule roots) (sym p.1) (asked_more rule follows roots names p.0 old covers may before p.2))

pub asks_grows : (follows : Follows) (names : List (List ℕ)) (old new : List Told) → AsksOnly follows names old new
    → Grows old new
asks_grows follows names old new asks = record { is = ∥∥₁_elim asks.is (hlevel) (λ p. ∣ (p.0, p.1) ∣₁) }

-- all documents that were asked for
abbrev all_documents : List Told → List (List ℕ)
all_documents [] = []
all_documents (t ∷ ts) = documents_asked t ++ all_documents ts

asked_before : (follows : Follows) (names : List (List ℕ)) (ts : List Told) (m : List ℕ)
    → IsTrue (is_among (all_documents ts) m) → IsTrue (is_sought follows names ts m)
asked_before follows names [] m among = absurd (false≢true among)
asked_before follows names (t ∷ ts) m among = ⊎_elim
    (λ asked. or_right (is_among (follows t) m) _ (or_left (is_among (documents_asked t) m) _ asked))
    (λ older. or_right (is_among (follows t) m) _
    (or_right (is_among (documents_asked t) m) _ (asked_before follows names ts m older)))
    (or_cases (is_among (documents_asked t) m) (is_among (all_documents ts) m)
    (sym (among_append (documents_asked t) (all_documents ts) m) ∙ among))

-- what was asked for might be, from that alone
asked_from : (rule : Follows) (roots : List (List ℕ)) (ts : List Told)
    → ((m : List ℕ) → IsTrue (is_among (all_documents ts) m) → IsTrue (is_among roots m)) → AskedBy rule roots ts
asked_from rule roots [] inside = tt
asked_from rule roots (t ∷ ts) inside =
    let split = among_append (documents_asked t) (all_documents ts) in
    let asked : MayAsk rule roots ts (documents_asked t) = record {
      each = λ m here. root_may rule roots ts m
          (inside m (split m ∙ or_left (is_among (documents_asked t) m) _ here));
    } in
    (asked, asked_from rule roots ts (λ m here. inside m (split m ∙ or_right (is_among (documents_asked t) m) _ here)))

may_sought : (follows : Follows) (roots names : List (List ℕ)) (ts : List Told) (m : List ℕ)
    → IsTrue (may_ask follows roots ts m) → IsTrue (is_among roots m) ⊎ IsTrue (is_sought follows names ts m)
may_sought follows roots names [] m may = inl may
may_sought follows roots names (t ∷ ts) m may = ⊎_elim (λ given. inr (or_left (is_among (follows t) m) _ given))
    (λ older. ⊎_elim (λ root. inl root) (λ sought. inr (or_right (is_among (follows t) m) _
    (or_right (is_among (documents_asked t) m) _ sought))) (may_sought follows roots names ts m older))
    (or_cases (is_among (follows t) m) (may_ask follows roots ts m) may)

module _ (follows : Follows) (names : List (List ℕ)) (old : List Told) where
  sought_by : (more : List Told) (m : List ℕ) → IsTrue (may_ask follows (names ++ all_documents old) (more ++ old) m)
      → IsTrue (is_sought follows names (more ++ old) m)
  sought_by more m may = ⊎_elim (λ root. ⊎_elim (λ listed. sought_root follows names (more ++ old) m listed)
      (λ asked. sought_behind follows names more old m (asked_before follows names old m asked))
      (or_cases (is_among names m) (is_among (all_documents old) m)
      (sym (among_append names (all_documents old) m) ∙ root)))
      (λ sought. sought) (may_sought follows (names ++ all_documents old) names (more ++ old) m may)

  only_by : (more : List Told) → AskedBy follows (names ++ all_documents old) (more ++ old)
      → AreOnly follows names more old
  only_by [] asked = tt
  only_by (t ∷ more) asked =
      let sought : AreSought follows names (more ++ old) (documents_asked t) =
      record { each = λ m here. sought_by more m (asked.0.each m here) } in
      (sought, only_by more asked.1)

-- a call by which only that was asked for which each rule that covers this one lets be asked for, asks for no others
pub asks_when : (follows : Follows) (names : List (List ℕ)) (old new : List Told) → Grows old new
    → ((rule : Follows) (roots : List (List ℕ)) → Covers rule follows → MayAsk rule roots old names
    → AskedBy rule roots old → AskedBy rule roots new) → AsksOnly follows names old new
asks_when follows names old new grows by =
    let roots = names ++ all_documents old in
    let may : MayAsk follows roots old names = record {
      each = λ m here. root_may follows roots old m
          (among_append names (all_documents old) m ∙ or_left (is_among names m) _ here);
    } in
    let asked = asked_from follows roots old (λ m here. among_append names (all_documents old) m
    ∙ or_right (is_among names m) _ here) in
    record {
      is = ∥∥₁_elim grows.is (hlevel) (λ p. ∣ (
        p.0,
        p.1,
        only_by follows names old p.0
            (subst (AskedBy follows roots) p.1 (by follows roots (covers_same follows) may asked)),
      ) ∣₁);
    }

-- What calls tell

pub asks_same : (follows : Follows) (names : List (List ℕ)) (old new : List Told) → new ≡ old
    → AsksOnly follows names old new
asks_same follows names old new is = record { is = ∣ ([], is, tt) ∣₁ }

-- a question is told
pub asks_told : (follows : Follows) (t : Told) (names : List (List ℕ)) (old new : List Told)
    → documents_asked t ≡ names → new ≡ t ∷ old → AsksOnly follows names old new
asks_told follows t names old new asked is =
    let sought : AreSought follows names old (documents_asked t) = record {
      each = λ m here. sought_root follows names old m (subst (λ some. IsTrue (is_among some m)) asked here);
    } in
    record { is = ∣ (t ∷ [], is, (sought, tt)) ∣₁ }

-- one call after another about the same documents
pub asks_after : (follows : Follows) (names : List (List ℕ)) (a b c : List Told) → Grows a b
    → AsksOnly follows names a b → AsksOnly follows names b c → AsksOnly follows names a c
asks_after follows names a b c grows before next = asks_when follows names a c
    (grows_trans a b c grows (asks_grows follows names b c next)) (λ rule roots covers may asked.
    asks_by follows names b c next rule roots covers (all_before rule roots a b names grows may)
    (asks_by follows names a b before rule roots covers may asked))

-- one call after another, where the second is about documents that may be asked for by then
pub asks_then : (follows less : Follows) (names more : List (List ℕ)) (a b c : List Told)
    → ((rule : Follows) → Covers rule follows → Covers rule less) → AsksOnly follows names a b
    → ((rule : Follows) (roots : List (List ℕ)) → Covers rule follows → MayAsk rule roots a names
    → MayAsk rule roots b more)
    → AsksOnly less more b c → AsksOnly follows names a c
asks_then follows less names more a b c covered before may next = asks_when follows names a c
    (grows_trans a b c (asks_grows follows names a b before) (asks_grows less more b c next))
    (λ rule roots covers first asked. asks_by less more b c next rule roots (covered rule covers)
    (may rule roots covers first) (asks_by follows names a b before rule roots covers first asked))

-- a call by a rule that gives less, about some of the documents
pub asks_among : (follows less : Follows) (some names : List (List ℕ)) (old new : List Told) → Covers follows less
    → ((m : List ℕ) → IsTrue (is_among some m) → IsTrue (is_among names m)) → AsksOnly less some old new
    → AsksOnly follows names old new
asks_among follows less some names old new covers among asks = asks_when follows names old new
    (asks_grows less some old new asks) (λ rule roots above may asked. asks_by less some old new asks rule roots
    (record { each = λ t m here. above.each t m (covers.each t m here) })
    (record { each = λ m here. may.each m (among m here) }) asked)

-- a call about one of the documents, from whose answer nothing follows
pub asks_one : (follows : Follows) (name : List ℕ) (names : List (List ℕ)) (old new : List Told)
    → IsTrue (is_among names name) → AsksOnly nothing (name ∷ []) old new → AsksOnly follows names old new
asks_one follows name names old new among = asks_among follows nothing (name ∷ []) names old new
    (covers_nothing follows) (λ m here. subst (λ n. IsTrue (is_among names n)) (among_one name m here) among)

-- a call that asks for no document
pub asks_none : (follows : Follows) (names : List (List ℕ)) (old new : List Told) → AsksOnly nothing [] old new
    → AsksOnly follows names old new
asks_none follows names old new = asks_among follows nothing [] names old new (covers_nothing follows)
    (λ m here. absurd (false≢true here))

-- the documents of nodes that are the same
pub homes_asked : (nodes all : List PlanNode) (old new : List Told) → nodes ≡ all
    → AsksOnly nothing (homes nodes) old new
    → AsksOnly nothing (homes all) old new
homes_asked nodes all old new same = subst (λ l. AsksOnly nothing (homes l) old new) same

-- what closes most claims on the documents that are asked for
pub ruleset asking = (asks_same, asks_told, asks_after, asks_one, asks_none, homes_asked)

-- the same of notes, on top of what was told before
module _ (setting : Setting) (start : List Told) where
  pub asks_kept : (follows : Follows) (names : List (List ℕ)) (old new : List Note) → new ≡ old
      → AsksOnly follows names (told_onto setting start old) (told_onto setting start new)
  asks_kept follows names old new is = asks_same follows names _ _ (ap (told_onto setting start) is)

  -- a question was put that asks for these documents
  pub asks_put : (follows : Follows) (note : Note) (names : List (List ℕ)) (old new : List Note)
      → documents_asked (told_of setting note) ≡ names → new ≡ note ∷ old
      → AsksOnly follows names (told_onto setting start old) (told_onto setting start new)
  asks_put follows note names old new asked is =
      asks_told follows (told_of setting note) names _ _ asked (ap (told_onto setting start) is)

-- what closes most claims on the documents that are asked for by a reader with notes
pub ruleset fetching = (asks_kept, asks_put)

-- nothing that the rule gives stands in front
pub may_behind : (rule : Follows) (roots : List (List ℕ)) (t : Told) (ts : List Told) (m : List ℕ) → rule t ≡ []
    → IsTrue (may_ask rule roots (t ∷ ts) m) → IsTrue (may_ask rule roots ts m)
may_behind rule roots t ts m none may =
    ⊎_elim (λ here. absurd (false≢true (subst (λ names. IsTrue (is_among names m)) none here))) (λ behind. behind)
    (or_cases (is_among (rule t) m) (may_ask rule roots ts m) may)

-- the names from which all that may be asked for is reached
abbrev pub reach : Follows → List (List ℕ) → List Told → List (List ℕ)
reach follows roots [] = roots
reach follows roots (t ∷ ts) = follows t ++ reach follows roots ts
