-- What stands in the place of an element: it goes, stays as it is, or takes what its references name.
use Rattle.std.specs.Prelude.{◌≡◌, ◌+◌, ◌++◌, ℕ, zero, suc, Bool, true, false, List, [], ◌∷◌, if◌then◌else◌}
use Rattle.std.specs.List.{flat_map}
use Rattle.std.proofs.Common.{refl, sym, ap, ◌∙◌}
use Rattle.dita_doc.specs.declared.fault.Fault.{Fault}
use Rattle.map_spec.specs.Judged.{group_faults}
use Rattle.map_spec.specs.Written.{Element, Written, End, Chars, Node}
use Rattle.conref_spec.specs.Content.{ContentAround, Followed, Made, Place, Range, Resolve, ResolveInput, around_for, around_within, declared_there, element_made, element_resolved, followed, goes, made_beside, made_of, made_with, merged_element, nothing_made, range_behind, ranges_made, resolved_from}
use Rattle.conref_pull.specs.Step.{Taken, declared_inside, followed_to_all, merged_onto, range_of_one}
use Rattle.conref_pull.proofs.PutLaws.{beside_nothing, nothing_beside}

module _ (resolve : Resolve) (setting : ResolveInput) (is_range : Bool) (around : ContentAround) (depth : ℕ)
    (path : List Place)
    (element : Element) (inside : Written) (own : ContentAround → Made) where
  abbrev pub here : ContentAround
  here = around_for is_range element around

  abbrev pub by : Followed → Made
  by found = made_with found.faults (made_beside (made_of resolve setting is_range here depth own found)
      (ranges_made resolve around depth found.ranges))

  pub element_gone : goes setting here.declared element ≡ true
      → element_resolved resolve setting
      (record { is_range = is_range; around = around; depth = depth; path = path }) element inside own
      ≡ made_with (group_faults here.declared element) nothing_made
  element_gone gone = rw gone refl

  -- what follows from its references
  pub element_left : goes setting here.declared element ≡ false
      → element_resolved resolve setting
      (record { is_range = is_range; around = around; depth = depth; path = path }) element inside own
      ≡ made_with (group_faults here.declared element) (by (followed setting here.topic depth path element inside))
  element_left left = rw left refl

  pub nothing_taken : (faults : List Fault) → by (followed_to_all element inside path faults [])
      ≡ made_with faults (element_made is_range here.declared element (own (around_within is_range element here)))
  nothing_taken faults = ap (made_with faults)
      (beside_nothing (element_made is_range here.declared element (own (around_within is_range element here))))

  -- what it makes of the farthest target
  abbrev pub made_there : Element → Taken → Made
  made_there merged farthest = made_with (group_faults here.declared merged) (if goes setting here.declared merged
      then record nothing_made { count = 1 }
      else element_made is_range here.declared merged (resolve false
      (declared_there (declared_inside farthest) (around_within is_range merged here)) (depth + 1) farthest.path
      farthest.inside))

  pub something_taken : (faults : List Fault) (farthest : Taken) (nearer : List Taken)
      → by (followed_to_all element inside path faults (farthest ∷ nearer))
      ≡ made_with faults (made_beside (made_there (merged_element element (merged_onto farthest.element nearer)) farthest)
      (ranges_made resolve around depth (flat_map range_of_one (farthest ∷ nearer))))
  something_taken faults farthest nearer = refl

-- Ranges

pub end_resolved : (steps : ℕ) (setting : ResolveInput) (is_range : Bool) (around : ContentAround) (depth : ℕ)
    (path : List Place)
    → resolved_from steps setting is_range around depth path End ≡ nothing_made
unfolding resolved_from
end_resolved zero setting is_range around depth path = refl
end_resolved (suc steps) setting is_range around depth path = refl

module _ (steps : ℕ) (setting : ResolveInput) (around : ContentAround) (depth : ℕ) where
  by_range : (nodes : Written) (declared : List (List ℕ)) (path : List Place) (more : List Range)
      → ranges_made (resolved_from steps setting) around depth (range_behind nodes declared path ++ more)
      ≡ made_beside (resolved_from steps setting true (declared_there declared around) depth path nodes)
      (ranges_made (resolved_from steps setting) around depth more)
  by_range End declared path more =
      sym (nothing_beside (ranges_made (resolved_from steps setting) around depth more))
      ∙ ap (λ (made : Made). made_beside made (ranges_made (resolved_from steps setting) around depth more))
      (sym (end_resolved steps setting true (declared_there declared around) depth path))
  by_range (Chars text doc rest) declared path more = refl
  by_range (Node element inside rest) declared path more = refl

  -- the range behind the farthest target, and those behind the others
  pub ranges_first : (one : Taken) (all : List Taken)
      → ranges_made (resolved_from steps setting) around depth (flat_map range_of_one (one ∷ all))
      ≡ made_beside (resolved_from steps setting true (declared_there one.around around) depth one.path one.range)
      (ranges_made (resolved_from steps setting) around depth (flat_map range_of_one all))
  ranges_first one all = by_range one.range one.around one.path (flat_map range_of_one all)
