-- References that are followed, one step at a time.
use Rattle.std.specs.Prelude.{◌≡◌, ◌-◌, ℕ, suc, Bool, true, false, List, [], ◌∷◌, ◌++◌, Option, Some, None, length, take, if◌then◌else◌}
use Rattle.std.specs.List.{flat_map}
use Rattle.std.proofs.Common.{refl, sym, ap, subst, ◌∙◌, arith, append-nil}
use Rattle.std.proofs.lemmas.List.Concat.{flat_map-append}
use Rattle.dita_doc.specs.declared.fault.Fault.{Fault}
use Rattle.map_spec.specs.Written.{Element, Written}
use Rattle.conref_spec.specs.Content.{Followed, Found, Place, Range, ResolveInput, Sought, followed_from, followed_to, found_by, has_reference, conkeyref_faults, merged_element, refused_by, sought_by, taken, taken_or, unchanged, value_used}
use Rattle.conref_pull.specs.Linked.{AreLinks, IsLink}
use Rattle.conref_pull.specs.Step.{FollowStep, Taken, after_step, declared_inside, followed_to_all, merged_onto, range_of_one, step_of, step_to, step_with}
use Rattle.conref_pull.specs.declared.chain.TakenTarget.{TakenTarget}
use Rattle.conref_pull.proofs.TakingLaws.{merged_last}

-- One step

module _ (follow : List Place → Element → Written → Followed) (setting : ResolveInput) (depth : ℕ) (path : List Place)
    (element : Element) (inside : Written) where
  by_refusal : (target : Found) (before : List Fault) (fault : Option Fault)
      → taken_or follow path element inside before target fault
      ≡ after_step follow path element inside (step_with path element target before fault).faults
      (step_with path element target before fault).taken
  by_refusal target before (Some fault) = refl
  by_refusal target before None = refl

  by_found : (sought : Sought) (found : Option Found)
      → followed_to follow setting depth path element inside sought found
      ≡ after_step follow path element inside (step_to setting depth path element sought found).faults
      (step_to setting depth path element sought found).taken
  by_found sought None = refl
  by_found sought (Some target) = by_refusal target (conkeyref_faults setting sought.conkeyref)
      (refused_by (value_used setting sought) depth path element target)

  abbrev step_if : Bool → Sought → Option Found → FollowStep
  step_if test sought found =
      if test then step_to setting depth path element sought found else record { taken = None; faults = [] }

  by_test : (test : Bool) (sought : Sought) (found : Option Found)
      → (if test then followed_to follow setting depth path element inside sought found
      else unchanged element inside path [])
      ≡ after_step follow path element inside (step_if test sought found).faults (step_if test sought found).taken
  by_test true sought found = by_found sought found
  by_test false sought found = refl

-- what follows from an element is its next step, and what follows from that
pub follows : (steps : ℕ) (setting : ResolveInput) (topic : List ℕ) (depth : ℕ) (path : List Place) (element : Element)
    (inside : Written) → followed_from (suc steps) setting topic depth path element inside
    ≡ after_step (followed_from steps setting topic depth) path element inside
    (step_of setting topic depth path element).faults (step_of setting topic depth path element).taken
unfolding followed_from
follows steps setting topic depth path element inside =
    by_test (followed_from steps setting topic depth) setting depth path element inside
    (has_reference (sought_by element)) (sought_by element) (found_by setting topic element (sought_by element))

-- Several steps

ranges_one_more : (all : List Taken) (one : Taken)
    → flat_map range_of_one (all ++ one ∷ []) ≡ flat_map range_of_one all ++ range_of_one one
ranges_one_more all one = flat_map-append range_of_one all (one ∷ [])
    ∙ ap (λ (more : List Range). flat_map range_of_one all ++ more) (append-nil (range_of_one one))

-- one step more, in front of those that were done from its target
pub one_more : (element : Element) (inside : Written) (path : List Place) (before faults : List Fault) (one : Taken)
    (all : List Taken)
    → taken element one.around one.element one.range one.path before (followed_to_all one.element one.inside one.path faults all)
    ≡ followed_to_all element inside path (before ++ faults) (all ++ one ∷ [])
one_more element inside path before faults one [] =
    ap (λ (ranges : List Range). (let f : Followed = record {
      element = merged_element element one.element;
      content = one.inside;
      declared = declared_inside one;
      path = one.path;
      ranges = ranges;
      has_taken = true;
      faults = before ++ faults;
    } in f)) (sym (append-nil (range_of_one one)))
one_more element inside path before faults one (first ∷ all) =
    let f = λ (label : Element) (ranges : List Range). (let made : Followed = record {
      element = merged_element element label;
      content = first.inside;
      declared = declared_inside first;
      path = first.path;
      ranges = ranges;
      has_taken = true;
      faults = before ++ faults;
    } in made) in
    ap (λ (label : Element). f label (flat_map range_of_one (first ∷ all) ++ range_of_one one))
    (sym (merged_last first.element all one))
    ∙ ap (f (merged_onto first.element (all ++ one ∷ []))) (sym (ranges_one_more (first ∷ all) one))

-- Links

pub links_one_more : (path : List Place) (end : ℕ) (all : List Taken) (links : List TakenTarget) (one : Taken)
    (link : TakenTarget)
    → AreLinks path end all links → IsLink link one → one.path ≡ take (end - length all) path
    → AreLinks path end (all ++ one ∷ []) (links ++ link ∷ [])
links_one_more path end [] [] one link are is at =
    let e : end - 0 ≡ end = omega arith in (is, subst (λ n. one.path ≡ take n path) e at, tt)
links_one_more path end [] (first ∷ links) one link are is at = absurd are
links_one_more path end (first ∷ all) [] one link are is at = absurd are
links_one_more path end (first ∷ all) (next ∷ links) one link are is at =
    let e : end - suc (length all) ≡ (end - 1) - length all = omega arith in
    (are.0, are.1, links_one_more path (end - 1) all links one link are.2 is (subst (λ n. one.path ≡ take n path) e at))
