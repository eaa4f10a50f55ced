-- The DITAVALs of ditavalrefs that were told may be asked for.
use Rattle.std.specs.Prelude.{◌≡◌, ◌⊎◌, ◌++◌, ℕ, true, false, List, [], ◌∷◌, Option, Some, None, IsTrue, codes, map, option_map, slice_get}
use Rattle.std.specs.Option.{option_and_then, option_map_or}
use Rattle.std.proofs.Common.{refl, sym, ap, subst, ◌∙◌, append_assoc, inl, inr}
use Rattle.std.proofs.Math.Logic.{∥∥₁_elim, ⊎_elim}
use Rattle.std.proofs.lemmas.Bool.{false≢true, or_cases, or_left, or_right}
use Rattle.std.proofs.lemmas.Option.{slice_get-map}
use Rattle.dita_doc.specs.declared.plan.PlanNode.{PlanNode}
use Rattle.doc_elements.specs.Walk.{FoundElement, element_of, found_in, whole_of}
use Rattle.map_spec.specs.Branches.{is_ditavalref}
use Rattle.map_spec.specs.Cascade.{whole_at}
use Rattle.map_spec.specs.Elements.{attribute}
use Rattle.map_spec.specs.Target.{Named, Document, Elsewhere, Unreadable, named_of}
use Rattle.map_spec.specs.Written.{Element, Whole}
use Rattle.plan_nodes.specs.Given.{AreTold, FollowsElements, IsTold}
use Rattle.plan_nodes.specs.Home as home
use Rattle.plan_nodes.proofs.GivenLaws.{may_name, told_later}
use Rattle.readers.specs.Documents.{AreOnly, AskedBy, AsksOnly, Covers, Follows, MayAsk, documents_asked, is_sought, may_ask, nothing}
use Rattle.readers.specs.Founded.{AreAllowed, Grows, StaysFounded, is_allowed, is_among}
use Rattle.readers.specs.Props.{AskedBy-prop}
use Rattle.readers.specs.Told.{Told}
use Rattle.readers.proofs.DocumentLaws.{asks_when, may_ask_before}
use Rattle.readers.proofs.FoundedLaws.{among_one, none_allowed, stays_after, stays_by, stays_grows, stays_same, stays_then, stays_when}
use Rattle.readers.proofs.GrowthLaws.{growing}
use Rattle.reader_spec.specs.World.{World}
use Rattle.branch_copies.specs.BranchRead.{documents_named, targets_of}
use Rattle.branch_copies.specs.Ditavalrefs.{AreDitavalrefs, AreGiven, AreRefsOnly, AreRefsSought, AsksDitavals, IsNamedByRef, ditaval_targets, is_ref, ref_targets}
use Rattle.branch_copies.specs.Stands.{is_ditavalref_at}
use Rattle.node_filter.proofs.HomeLaws.{whole_found}

pub given_of : (world : World) (told : List Told) (nodes : List PlanNode) (homes : List (Option Whole))
    → homes ≡ map (whole_at world) nodes → AreTold told homes → AreGiven told nodes homes
given_of world told nodes homes are told_ones = record { world = world; are = are; given = told_ones }

pub given_later : (old new : List Told) (nodes : List PlanNode) (homes : List (Option Whole)) → Grows old new
    → AreGiven old nodes homes → AreGiven new nodes homes
given_later old new nodes homes grows given =
    record { world = given.world; are = given.are; given = told_later old new homes grows given.given }

-- The DITAVAL of one element

module _ (told : List Told) (element : Element) (was : IsTold told element) where
  by_named : (href : List ℕ) → attribute (codes "href") element ≡ Some href → (named : Named)
      → named_of element href ≡ named → (roots : List (List ℕ)) (m : List ℕ)
      → IsTrue (is_among (documents_named named) m) → IsTrue (is_allowed roots told m)
  by_named href written (Document name) is roots m among =
      subst (λ n. IsTrue (is_allowed roots told n)) (among_one name m among)
      (may_name told element href name was written is roots)
  by_named href written Elsewhere is roots m among = absurd (false≢true among)
  by_named href written Unreadable is roots m among = absurd (false≢true among)

  by_href : (href : Option (List ℕ)) → attribute (codes "href") element ≡ href → (roots : List (List ℕ)) (m : List ℕ)
      → IsTrue (is_among (option_map_or (λ h. documents_named (named_of element h)) href []) m)
      → IsTrue (is_allowed roots told m)
  by_href None written roots m among = absurd (false≢true among)
  by_href (Some href) written roots m among = by_named href written (named_of element href) refl roots m among

  targets_allowed : (roots : List (List ℕ)) → AreAllowed roots told (targets_of element)
  targets_allowed roots = record { each = by_href (attribute (codes "href") element) refl roots }

  ref_follows : (rule : Follows) → Covers rule ditaval_targets → FollowsElements rule ref_targets
  ref_follows rule covers = record { each = λ name tree m among. covers.each _ m among }

  targets_may : is_ref element ≡ true → (rule : Follows) (roots : List (List ℕ)) → Covers rule ditaval_targets
      → MayAsk rule roots told (targets_of element)
  targets_may is rule roots covers = record {
    each = λ m among. was.may rule ref_targets roots (ref_follows rule covers) m (rw is among);
  }

-- What is sought: one of a list, or what was asked for before

sought_split : (names : List (List ℕ)) (ts : List Told) (m : List ℕ) → IsTrue (is_sought nothing names ts m)
    → IsTrue (is_among names m) ⊎ IsTrue (is_sought nothing [] ts m)
sought_split names [] m sought = inl sought
sought_split names (t ∷ ts) m sought = ⊎_elim
    (λ asked. inr (or_left (is_among (documents_asked t) m) _ asked))
    (λ older. ⊎_elim (λ listed. inl listed) (λ told. inr (or_right (is_among (documents_asked t) m) _ told))
    (sought_split names ts m older))
    (or_cases (is_among (documents_asked t) m) (is_sought nothing names ts m) sought)

sought_more : (names : List (List ℕ)) (ts : List Told) (m : List ℕ) → IsTrue (is_sought nothing [] ts m)
    → IsTrue (is_sought nothing names ts m)
sought_more names [] m sought = absurd (false≢true sought)
sought_more names (t ∷ ts) m sought = ⊎_elim (λ asked. or_left (is_among (documents_asked t) m) _ asked)
    (λ older. or_right (is_among (documents_asked t) m) _ (sought_more names ts m older))
    (or_cases (is_among (documents_asked t) m) (is_sought nothing [] ts m) sought)

-- what was asked for may be, if all that was asked for might be
told_may : (rule : Follows) (roots names : List (List ℕ)) (ts : List Told) (m : List ℕ) → AskedBy rule roots ts
    → IsTrue (is_sought nothing names ts m) → IsTrue (is_among names m) ⊎ IsTrue (may_ask rule roots ts m)
told_may rule roots names [] m before sought = inl sought
told_may rule roots names (t ∷ ts) m before sought = ⊎_elim
    (λ asked. inr (or_right (is_among (rule t) m) _ (before.0.each m asked)))
    (λ older. ⊎_elim (λ listed. inl listed) (λ may. inr (or_right (is_among (rule t) m) _ may))
    (told_may rule roots names ts m before.1 older))
    (or_cases (is_among (documents_asked t) m) (is_sought nothing names ts m) sought)

grows_by : (more old : List Told) → Grows old (more ++ old)
grows_by more old = record { is = ∣ (more, refl) ∣₁ }

-- by a rule, the DITAVAL that each ditavalref among nodes names may be asked for, once their elements were told
record MayAskRefs (rule : Follows) (roots : List (List ℕ)) (homes : List (Option Whole)) (nodes : List PlanNode)
    (old : List Told) : Type 0 where
  pub each : (told : List Told) (at : ℕ) (node : PlanNode) (whole : Whole) → Grows old told → AreTold told homes
      → slice_get nodes at ≡ Some node → is_ditavalref node.kind ≡ true → home.whole_at homes at ≡ Some whole
      → MayAsk rule roots told (targets_of whole.0)

asked_refs : (rule : Follows) (roots : List (List ℕ)) (homes : List (Option Whole)) (nodes : List PlanNode)
    (names : List (List ℕ)) (more old : List Told) → MayAsk rule roots old names
    → MayAskRefs rule roots homes nodes old → AskedBy rule roots old → AreRefsOnly homes nodes names more old
    → AskedBy rule roots (more ++ old)
asked_refs rule roots homes nodes names [] old may refs before only = before
asked_refs rule roots homes nodes names (t ∷ more) old may refs before only =
    let asked = asked_refs rule roots homes nodes names more old may refs before only.1 in
    let all = more ++ old in
    let each : MayAsk rule roots all (documents_asked t) = record {
      each = λ m here. ⊎_elim (λ sought. ⊎_elim
          (λ listed. may_ask_before rule roots old all m (grows_by more old) (may.each m listed)) (λ told. told)
          (told_may rule roots names all m asked sought))
          (λ (named : AreTold all homes × IsNamedByRef homes nodes m). let ref = named.1 in
          (refs.each all ref.at ref.node ref.whole (grows_by more old) named.0 ref.here ref.kind ref.element).each m ref.named)
          (only.0.each m here);
    } in
    (each, asked)

module _ (homes : List (Option Whole)) (nodes : List PlanNode) where
  -- a call about these documents alone
  only_first : (names : List (List ℕ)) (more old : List Told) → AreOnly nothing names more old
      → AreRefsOnly homes nodes names more old
  only_first names [] old only = tt
  only_first names (t ∷ more) old only =
      let sought : AreRefsSought homes nodes names (more ++ old) (documents_asked t) =
      record { each = λ m here. inl (only.0.each m here) } in
      (sought, only_first names more old only.1)

  -- a call about documents that a ditavalref names, whose elements were told
  only_ref : (targets : List (List ℕ)) (old : List Told) → AreTold old homes
      → ((m : List ℕ) → IsTrue (is_among targets m) → IsNamedByRef homes nodes m) → (more : List Told)
      → AreOnly nothing targets more old → AreRefsOnly homes nodes [] more old
  only_ref targets old given named [] only = tt
  only_ref targets old given named (t ∷ more) only =
      let all = more ++ old in
      let sought : AreRefsSought homes nodes [] all (documents_asked t) = record {
        each = λ m here. ⊎_elim (λ listed. inr (told_later old all homes (grows_by more old) given, named m listed))
            (λ told. inl told) (sought_split targets all m (only.0.each m here));
      } in
      (sought, only_ref targets old given named more only.1)

  only_append : (names : List (List ℕ)) (first more old : List Told) → AreRefsOnly homes nodes names first old
      → AreRefsOnly homes nodes [] more (first ++ old) → AreRefsOnly homes nodes names (more ++ first) old
  only_append names first [] old before next = before
  only_append names first (t ∷ more) old before next =
      let all = more ++ (first ++ old) in
      let sought : AreRefsSought homes nodes names all (documents_asked t) = record {
        each = λ m here. ⊎_elim (λ told. inl (sought_more names all m told)) (λ named. inr named) (next.0.each m here);
      } in (
        subst (λ ts. AreRefsSought homes nodes names ts (documents_asked t)) (sym (append_assoc more first old)) sought,
        only_append names first more old before next.1,
      )

-- A ditavalref is read: its element was found at its node's place

some_at : (found : Option (Option Whole)) (whole : Whole) → option_and_then (λ (w : Option Whole). w) found ≡ Some whole
    → found ≡ Some (Some whole)
some_at None whole is = cc
some_at (Some other) whole is = ap (λ w. Some w) is

module _ (nodes : List PlanNode) (homes : List (Option Whole)) (at : ℕ) (node : PlanNode) (found : FoundElement)
    (here : slice_get nodes at ≡ Some node)
    (there : found_in (home.doc_of homes at) (Some found) ≡ home.whole_at homes at) where
  home_at : (world : World) → homes ≡ map (whole_at world) nodes → home.whole_at homes at ≡ whole_at world node
  home_at world are =
      ap (λ (hs : List (Option Whole)). option_and_then (λ (w : Option Whole). w) (slice_get hs at)) are
      ∙ ap (option_and_then (λ (w : Option Whole). w)) (slice_get-map (whole_at world) nodes at
      ∙ ap (option_map (whole_at world)) here)

  whole_here : (told : List Told) → AreGiven told nodes homes → home.whole_at homes at ≡ Some (whole_of node.doc found)
  whole_here told given =
      let node_is : found_in node.doc (Some found) ≡ whole_at given.world node =
      whole_found given.world homes nodes at node (Some found) given.are here there in
      home_at given.world given.are ∙ sym node_is

  was_told : (told : List Told) → AreGiven told nodes homes → IsTold told (element_of node.doc found.0.now)
  was_told told given =
      given.given.each at (whole_of node.doc found) (some_at (slice_get homes at) _ (whole_here told given))

  pub stays_ref : (old new : List Told) → AreGiven old nodes homes
      → StaysFounded (targets_of (element_of node.doc found.0.now)) old new → StaysFounded [] old new
  stays_ref old new given stays = stays_when [] old new (stays_grows _ old new stays)
      (λ roots none founded. stays_by _ old new stays roots
      (targets_allowed old (element_of node.doc found.0.now) (was_told old given) roots) founded)

  pub asks_ref : (old new : List Told) → AreGiven old nodes homes → is_ditavalref_at nodes at ≡ true
      → AsksOnly nothing (targets_of (element_of node.doc found.0.now)) old new → AsksDitavals homes nodes [] old new
  asks_ref old new given kind asks =
      let own : is_ditavalref node.kind ≡ true =
      sym (ap (λ o. option_map_or (λ (n : PlanNode). is_ditavalref n.kind) o false) here) ∙ kind in
      let targets = targets_of (element_of node.doc found.0.now) in
      record {
        is = ∥∥₁_elim asks.is (hlevel) (λ p. ∣ (
          p.0,
          p.1,
          only_ref homes nodes targets old given.given
              (λ m among. record {
                at = at;
                node = node;
                whole = whole_of node.doc found;
                here = here;
                kind = own;
                element = whole_here old given;
                named = among;
              }) p.0 p.2,
        ) ∣₁);
      }

-- One call after another

pub ditavals_same : (homes : List (Option Whole)) (nodes : List PlanNode) (names : List (List ℕ)) (old new : List Told)
    → new ≡ old → AsksDitavals homes nodes names old new
ditavals_same homes nodes names old new is = record { is = ∣ ([], is, tt) ∣₁ }

-- a call that asks for DITAVALs alone, behind one that asks for these documents too
ditavals_then : (homes : List (Option Whole)) (nodes : List PlanNode) (names : List (List ℕ)) (a b c : List Told)
    → AsksDitavals homes nodes names a b → AsksDitavals homes nodes [] b c → AsksDitavals homes nodes names a c
ditavals_then homes nodes names a b c before next = record {
  is = ∥∥₁_elim before.is (hlevel) (λ p. ∥∥₁_elim next.is (hlevel) (λ q. ∣ (
    q.0 ++ p.0,
    q.1 ∙ ap (λ ts. q.0 ++ ts) p.1 ∙ sym (append_assoc q.0 p.0 a),
    only_append homes nodes names p.0 q.0 a p.2 (subst (AreRefsOnly homes nodes [] q.0) p.1 q.2),
  ) ∣₁));
}

pub ditavals_after : (homes : List (Option Whole)) (nodes : List PlanNode) (a b c : List Told)
    → AsksDitavals homes nodes [] a b → AsksDitavals homes nodes [] b c → AsksDitavals homes nodes [] a c
ditavals_after homes nodes a b c = ditavals_then homes nodes [] a b c

ditavals_grow : (homes : List (Option Whole)) (nodes : List PlanNode) (names : List (List ℕ)) (old new : List Told)
    → AsksDitavals homes nodes names old new → Grows old new
ditavals_grow homes nodes names old new asks = record { is = ∥∥₁_elim asks.is (hlevel) (λ p. ∣ (p.0, p.1) ∣₁) }

-- by each rule, if the documents of the call might be asked for, and the DITAVALs that ditavalrefs name, then so might all
-- that was asked for
ditavals_by : (homes : List (Option Whole)) (nodes : List PlanNode) (names : List (List ℕ)) (old new : List Told)
    → AsksDitavals homes nodes names old new → (rule : Follows) (roots : List (List ℕ)) → MayAsk rule roots old names
    → MayAskRefs rule roots homes nodes old → AskedBy rule roots old → AskedBy rule roots new
ditavals_by homes nodes names old new asks rule roots may refs asked = ∥∥₁_elim asks.is (AskedBy-prop rule roots new)
    (λ p. subst (AskedBy rule roots) (sym p.1) (asked_refs rule roots homes nodes names p.0 old may refs asked p.2))

-- where the nodes of ditavalrefs stand for ditavalrefs, what they name follows from what was told
pub asks_refs : (homes : List (Option Whole)) (nodes : List PlanNode) (names : List (List ℕ)) (old new : List Told)
    → AreDitavalrefs homes nodes → AsksDitavals homes nodes names old new → AsksOnly ditaval_targets names old new
asks_refs homes nodes names old new are asks = asks_when ditaval_targets names old new
    (ditavals_grow homes nodes names old new asks) (λ rule roots covers may asked.
    ditavals_by homes nodes names old new asks rule roots may (record {
      each = λ told at node whole grows given here kind is.
          targets_may told whole.0 (given.each at whole (some_at (slice_get homes at) whole is))
          (are.each at node whole here kind is) rule roots covers;
    }) asked)

-- the nodes' own documents first, and then their DITAVALs

pub stays_both : (names : List (List ℕ)) (a b c : List Told) → StaysFounded names a b → StaysFounded [] b c
    → StaysFounded names a c
stays_both names a b c before next =
    stays_then names [] a b c before (λ roots allowed. none_allowed roots b) next

pub asks_first : (homes : List (Option Whole)) (nodes : List PlanNode) (names : List (List ℕ)) (a b : List Told)
    → AsksOnly nothing names a b → AsksDitavals homes nodes names a b
asks_first homes nodes names a b asks = record {
  is = ∥∥₁_elim asks.is (hlevel) (λ p. ∣ (p.0, p.1, only_first homes nodes names p.0 a p.2) ∣₁);
}

pub asks_both : (homes : List (Option Whole)) (nodes : List PlanNode) (names : List (List ℕ)) (a b c : List Told)
    → AsksOnly nothing names a b → AsksDitavals homes nodes [] b c → AsksDitavals homes nodes names a c
asks_both homes nodes names a b c before next =
    ditavals_then homes nodes names a b c (asks_first homes nodes names a b before) next

-- what closes most claims on a call that asks for both
pub ruleset branching = (growing, given_of, stays_both, asks_first, asks_both)

-- what closes most claims on the DITAVALs that are asked for
pub ruleset ditavals = (growing, given_of, given_later, stays_same, stays_after, ditavals_same, ditavals_after)
