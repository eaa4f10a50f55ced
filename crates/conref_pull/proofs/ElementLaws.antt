-- What stands in the place of an element, by what its references gave.
use Rattle.std.specs.Prelude.{◌≡◌, ◌+◌, ℕ, suc, Bool, true, false, List, [], ◌∷◌, None, if◌then◌else◌}
use Rattle.std.proofs.Common.{refl, sym, ap, ◌∙◌}
use Rattle.dita_doc.specs.declared.fault.Fault.{Fault}
use Rattle.map_spec.specs.Judged.{group_faults}
use Rattle.map_spec.specs.Written.{Element, Written, End, Chars, Node}
use Rattle.conref_spec.specs.Content.{ContentAround, Followed, Made, Place, Resolve, ResolveInput, around_for, around_within, declared_there, element_made, followed, followed_from, found_by, goes, has_reference, made_beside, made_with, merged_element, nothing_made, resolved_among, resolved_from, sought_by, text_made}
use Rattle.conref_pull.specs.Step.{FollowStep, Taken, after_step, declared_inside, followed_to_all, merged_onto, step_of, step_to}
use Rattle.conref_pull.specs.Walking.{Here, among_made, inside_of, kept_made, merged_made, ranges_put, stays_made, whole_made}
use Rattle.conref_pull.proofs.PutLaws.{beside_nothing}
use Rattle.conref_pull.proofs.ResolvedLaws.{by, element_gone, element_left, nothing_taken, something_taken}
use Rattle.conref_pull.proofs.StepLaws.{follows}

-- one step more
pub resolved_more : (steps : ℕ) (setting : ResolveInput) (is_range : Bool) (around : ContentAround) (depth : ℕ)
    (path : List Place)
    (nodes : Written) → resolved_from (suc steps) setting is_range around depth path nodes
    ≡ resolved_among (resolved_from steps setting) setting is_range around depth path nodes
unfolding resolved_from
resolved_more steps setting is_range around depth path nodes = refl

module _ (here : Here) (is_range : Bool) (around : ContentAround) (element : Element) (inside : Written) where
  abbrev resolve : Resolve
  resolve = resolved_from here.steps here.setting

  abbrev shown : ContentAround
  shown = around_for is_range element around

  abbrev own : ContentAround → Made
  own there = among_made (inside_of here) false there inside

  abbrev found : Followed
  found = followed here.setting shown.topic here.depth here.path element inside

  -- it goes
  pub whole_gone : goes here.setting shown.declared element ≡ true
      → made_with (group_faults shown.declared element) nothing_made ≡ whole_made here is_range around element inside
  whole_gone gone =
      sym (element_gone resolve here.setting is_range around here.depth here.path element inside own gone)

  -- it takes nothing
  pub whole_kept : (faults : List Fault) → goes here.setting shown.declared element ≡ false
      → found ≡ followed_to_all element inside here.path faults []
      → made_with (group_faults shown.declared element) (made_with faults (kept_made here is_range shown element inside))
      ≡ whole_made here is_range around element inside
  whole_kept faults left is = sym
      (element_left resolve here.setting is_range around here.depth here.path element inside own left
      ∙ ap (λ (f : Followed). made_with (group_faults shown.declared element)
      (by resolve here.setting is_range around here.depth here.path element inside own f)) is
      ∙ ap (made_with (group_faults shown.declared element))
      (nothing_taken resolve here.setting is_range around here.depth here.path element inside own faults))

  -- the content of the farthest target, within one target more
  there_made : (path : List Place) (steps : ℕ) (there : List (List ℕ)) (merged : Element) (held : Written)
      → here.steps ≡ suc steps
      → element_made is_range shown.declared merged
      (resolve false (declared_there there (around_within is_range merged shown)) (here.depth + 1) path held)
      ≡ stays_made (record here { path = path; steps = steps }) is_range shown.declared (declared_there there shown)
      merged held
  there_made path steps there merged held more =
      let holds : ContentAround = declared_there there (around_within is_range merged shown) in
      ap (element_made is_range shown.declared merged)
      (ap (λ n. resolved_from n here.setting false holds (here.depth + 1) path held) more
      ∙ resolved_more steps here.setting false holds (here.depth + 1) path held)

  -- it takes what these targets give
  pub whole_took : (faults : List Fault) (farthest : Taken) (nearer : List Taken) (path : List Place) (steps : ℕ)
      → goes here.setting shown.declared element ≡ false → farthest.path ≡ path → here.steps ≡ suc steps
      → found ≡ followed_to_all element inside here.path faults (farthest ∷ nearer)
      → made_with (group_faults shown.declared element) (made_with faults (made_beside
      (merged_made (record here { path = path; steps = steps }) is_range shown (declared_inside farthest)
      (merged_element element (merged_onto farthest.element nearer)) farthest.inside)
      (ranges_put here around (farthest ∷ nearer)))) ≡ whole_made here is_range around element inside
  whole_took faults farthest nearer path steps left at more is =
      let merged = merged_element element (merged_onto farthest.element nearer) in
      let there = declared_inside farthest in
      let behind = ranges_put here around (farthest ∷ nearer) in
      sym (element_left resolve here.setting is_range around here.depth here.path element inside own left
      ∙ ap (λ (f : Followed). made_with (group_faults shown.declared element)
      (by resolve here.setting is_range around here.depth here.path element inside own f)) is
      ∙ ap (made_with (group_faults shown.declared element))
      (something_taken resolve here.setting is_range around here.depth here.path element inside own faults farthest nearer
      ∙ ap (λ (m : Made). made_with faults (made_beside (made_with (group_faults shown.declared merged)
      (if goes here.setting shown.declared merged then record nothing_made { count = 1 } else m)) behind))
      (there_made farthest.path steps there merged farthest.inside more
      ∙ ap (λ (p : List Place). stays_made (record here { path = p; steps = steps }) is_range shown.declared
      (declared_there there shown) merged farthest.inside) at)))

-- it has no reference

step_none : (setting : ResolveInput) (depth : ℕ) (path : List Place) (element : Element) (topic : List ℕ)
    (inside : Written)
    (follow : List Place → Element → Written → Followed) → has_reference (sought_by element) ≡ false
    → after_step follow path element inside (step_of setting topic depth path element).faults
    (step_of setting topic depth path element).taken ≡ followed_to_all element inside path [] []
step_none setting depth path element topic inside follow none =
    ap (λ (test : Bool). (let step : FollowStep = if test
    then step_to setting depth path element (sought_by element) (found_by setting topic element (sought_by element))
    else record { taken = None; faults = [] } in
    after_step follow path element inside step.faults step.taken)) none

pub none_followed : (setting : ResolveInput) (topic : List ℕ) (depth : ℕ) (path : List Place) (element : Element)
    (inside : Written) → has_reference (sought_by element) ≡ false
    → followed setting topic depth path element inside ≡ followed_to_all element inside path [] []
none_followed setting topic depth path element inside none =
    follows 32 setting topic depth path element inside ∙ step_none setting depth path element topic inside
    (followed_from 32 setting topic depth) none

-- one node alone
pub alone_text : (here : Here) (is_range : Bool) (around : ContentAround) (text doc : List ℕ) (made : Made)
    → made ≡ text_made text doc
    → made ≡ among_made here is_range around (Chars text doc End)
alone_text here is_range around text doc made is = is ∙ sym (beside_nothing (text_made text doc))

pub alone_element : (here : Here) (is_range : Bool) (around : ContentAround) (element : Element) (inside : Written)
    → whole_made here is_range around element inside ≡ among_made here is_range around (Node element inside End)
alone_element here is_range around element inside = sym (beside_nothing (whole_made here is_range around element inside))
