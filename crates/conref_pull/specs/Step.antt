-- References that are followed, one step at a time (own): what a step takes, and what its steps make of an element.
use Rattle.std.specs.Prelude.{ℕ, true, List, [], ◌∷◌, ◌++◌, Option, Some, None, codes, unwrap_or, if◌then◌else◌}
use Rattle.std.specs.List.{flat_map}
use Rattle.dita_doc.specs.declared.fault.Fault.{Fault}
use Rattle.ditaval_rules.specs.Domains.{declared_by}
use Rattle.map_spec.specs.Elements.{attribute}
use Rattle.map_spec.specs.Written.{Element, Written, End}
use Rattle.conref_spec.specs.Content.{Followed, Found, Place, Range, ResolveInput, Sought, declared_around_written, found_by, has_reference, conkeyref_faults, merged_element, missing_fault, range_behind, range_by, refused_by, sought_by, taken, unchanged, value_used}

-- a target that was taken: the element, the names of conditional attributes that are declared around it, what it holds, the
-- range behind it, and the targets that it is resolved within
pub record Taken : Type 0 where
  pub element : Element
  pub around : List (List ℕ)
  pub inside : Written
  pub range : Written
  pub path : List Place

pub record FollowStep : Type 0 where
  pub taken : Option Taken
  pub faults : List Fault

abbrev pub target_taken : List Place → Element → Found → Taken
target_taken path element target = record {
  element = target.standing.whole.0;
  around = declared_around_written [] target.nodes target.standing.place;
  inside = target.standing.whole.1;
  range = unwrap_or (range_by target.standing (attribute (codes "conrefend") element)) End;
  path = path ++ record { doc = target.doc; at = target.standing.place } ∷ [];
}

abbrev pub step_with : List Place → Element → Found → List Fault → Option Fault → FollowStep
step_with path element target before (Some fault) = record { taken = None; faults = before ++ fault ∷ [] }
step_with path element target before None =
    record { taken = Some (target_taken path element target); faults = before }

abbrev pub step_to : ResolveInput → ℕ → List Place → Element → Sought → Option Found → FollowStep
step_to setting depth path element sought None =
    record {
      taken = None;
      faults = conkeyref_faults setting sought.conkeyref
          ++ missing_fault setting element sought ∷ [];
    }
step_to setting depth path element sought (Some target) =
    step_with path element target (conkeyref_faults setting sought.conkeyref)
    (refused_by (value_used setting sought) depth path element target)

abbrev pub step_by : ResolveInput → List ℕ → ℕ → List Place → Element → Sought → FollowStep
step_by setting topic depth path element sought = if has_reference sought
    then step_to setting depth path element sought (found_by setting topic element sought)
    else record { taken = None; faults = [] }

-- the next step from an element
abbrev pub step_of : ResolveInput → List ℕ → ℕ → List Place → Element → FollowStep
step_of setting topic depth path element = step_by setting topic depth path element (sought_by element)

-- what follows from a step
abbrev pub after_step : (List Place → Element → Written → Followed) → List Place → Element → Written → List Fault
    → Option Taken → Followed
after_step follow path element inside before None = unchanged element inside path before
after_step follow path element inside before (Some one) =
    taken element one.around one.element one.range one.path before (follow one.path one.element one.inside)

-- Several steps: the targets that were taken, the farthest first

-- an element that each of these in turn takes
abbrev pub merged_onto : Element → List Taken → Element
merged_onto element [] = element
merged_onto element (one ∷ nearer) = merged_onto (merged_element one.element element) nearer

abbrev pub range_of_one : Taken → List Range
range_of_one one = range_behind one.range one.around one.path

-- the names that are declared for what it holds
abbrev pub declared_inside : Taken → List (List ℕ)
declared_inside one = declared_by one.around one.element.attributes

abbrev pub followed_to_all : Element → Written → List Place → List Fault → List Taken → Followed
followed_to_all element inside path faults [] = unchanged element inside path faults
followed_to_all element inside path faults (farthest ∷ nearer) = record {
  element = merged_element element (merged_onto farthest.element nearer);
  content = farthest.inside;
  declared = declared_inside farthest;
  path = farthest.path;
  ranges = flat_map range_of_one (farthest ∷ nearer);
  has_taken = true;
  faults = faults;
}
