-- The step from an element: what is found, and whether it is taken.
use Rattle.std.specs.Prelude.{◌≡◌, ◌++◌, ◌≤◌, ℕ, Bool, true, false, List, [], ◌∷◌, Option, Some, None, Result, Ok, Err, IfOk, length, map, nat_le, take, if◌then◌else◌}
use Rattle.std.specs.declared.alloc.Global.{Global}
use Rattle.std.specs.declared.vec.Vec.{Vec}
use Rattle.std.proofs.Common.{refl, sym, ap, subst, ◌∙◌, append-nil, append_assoc}
use Rattle.dita_doc.specs.declared.fault.Fault.{Fault}
use Rattle.dita_doc.specs.declared.stop.NoMemory.{NoMemory}
use Rattle.doc_maker.specs.Building.{depth}
use Rattle.doc_maker.specs.Made.{building}
use Rattle.doc_maker.specs.declared.maker.DocMaker.{DocMaker}
use Rattle.map_spec.specs.Written.{Element}
use Rattle.conref_spec.specs.Content as content
use Rattle.conref_spec.specs.Content.{Place, ResolveInput, Sought, found_by, has_reference, conkeyref_faults, refused_by, sought_by, value_used}
use Rattle.conref_targets.specs.Found.{AreFound, IsFound, search_faults}
use Rattle.conref_targets.specs.Sought.{if_reference, sought_found}
use Rattle.conref_targets.specs.Tables.{AreTables}
use Rattle.conref_targets.specs.declared.find.Found.{Found}
use Rattle.conref_targets.specs.declared.reference.Sought as seen
use Rattle.conref_targets.specs.declared.tables.PlaceTables.{PlaceTables}
use Rattle.conref_pull.specs.Seeking.{IsSought}
use Rattle.conref_pull.specs.Linked.{IsStep}
use Rattle.conref_pull.specs.State.{IsDepth, path_within, place_shown}
use Rattle.conref_pull.specs.Step.{FollowStep, step_of, step_to, step_with}
use Rattle.conref_pull.specs.declared.chain.TakenTarget.{TakenTarget}
use Rattle.conref_pull.specs.declared.place.Place as kept
use Rattle.conref_pull.specs.declared.resolver.Resolver.{Resolver}

-- The state, when only faults and the path change

pub state_then : (old mid new : Resolver) (before more : List Fault) (path : Vec kept.Place Global)
    → mid ≡ record old { faults = old.faults ++ before; path = path }
    → new ≡ record mid { faults = mid.faults ++ more; path = new.path }
    → new ≡ record old { faults = old.faults ++ (before ++ more); path = new.path }
state_then old mid new before more path first next = next
    ∙ ap (λ (r : Resolver). (let made : Resolver = record r { faults = r.faults ++ more; path = new.path } in made)) first
    ∙ ap (λ (f : List Fault). (let made : Resolver = record old { faults = f; path = new.path } in made))
    (append_assoc old.faults before more)

-- the path stays
pub state_kept : (old new : Resolver) (faults : List Fault) → new ≡ record old { faults = faults }
    → new ≡ record old { faults = faults; path = new.path }
state_kept old new faults is = is
    ∙ ap (λ (p : Vec kept.Place Global). (let made : Resolver = record old { faults = faults; path = p } in made))
    (sym (ap (λ (r : Resolver). r.path) is))

pub within_same : (old new : Resolver) (links : ℕ) → new.path ≡ old.path → path_within new links ≡ path_within old links
within_same old new links same = ap (λ (p : Vec kept.Place Global). take links (map place_shown p.items)) same

pub depth_same : (old new : Resolver) (at : ℕ) → new.maker ≡ old.maker → new.deepest ≡ old.deepest → IsDepth old at
    → IsDepth new at
depth_same old new at maker deepest is = record {
  is = is.is
      ∙ ap (λ n. nat_le n (depth (building old.maker))) (sym deepest)
      ∙ ap (λ (m : DocMaker). nat_le new.deepest (depth (building m))) (sym maker);
}

-- What a reference finds

pub no_reference : (element : Element) → sought_found None ≡ if_reference (sought_by element)
    → has_reference (sought_by element) ≡ false
no_reference element is = by_test (has_reference (sought_by element)) is
  where
    by_test : (test : Bool) → sought_found None ≡ (if test then Some (sought_by element) else None) → test ≡ false
    by_test true e = cc
    by_test false e = refl

pub some_reference : (element : Element) (sought : seen.Sought)
    → sought_found (Some sought) ≡ if_reference (sought_by element) → has_reference (sought_by element) ≡ true
some_reference element sought is = by_test (has_reference (sought_by element)) is
  where
    by_test : (test : Bool) → sought_found (Some sought) ≡ (if test then Some (sought_by element) else None)
        → test ≡ true
    by_test true e = refl
    by_test false e = cc

module _ (setting : ResolveInput) (topic : List ℕ) (at : ℕ) (path : List Place) (element : Element) where
  abbrev step_if : Bool → Option content.Found → FollowStep
  step_if test found = if test then step_to setting at path element (sought_by element) found
      else record { taken = None; faults = [] }

  step_is : (test : Bool) (found : Option content.Found) → has_reference (sought_by element) ≡ test
      → found_by setting topic element (sought_by element) ≡ found
      → step_of setting topic at path element ≡ step_if test found
  step_is test found has finds =
      ap (λ (b : Bool). step_if b (found_by setting topic element (sought_by element))) has ∙ ap (step_if test) finds

  module _ (old new : Resolver) (places : PlaceTables) (taken : Option TakenTarget) where
    step_as : (step : FollowStep) → step_of setting topic at path element ≡ step
        → IsStep setting.pushed step old new places taken
        → IsStep setting.pushed (step_of setting topic at path element) old new places taken
    step_as step same is = subst (λ (s : FollowStep). IsStep setting.pushed s old new places taken) (sym same) is

  -- there is no reference
  pub step_without : (old : Resolver) (places : PlaceTables) → AreTables setting.pushed places
      → has_reference (sought_by element) ≡ false
      → IsStep setting.pushed (step_of setting topic at path element) old old places None
  step_without old places tables none = step_as old old places None (step_if false None)
      (ap (λ (b : Bool). step_if b (found_by setting topic element (sought_by element))) none)
      (record {
        link = tt;
        state = ap (λ (f : List Fault). (let made : Resolver = record old { faults = f } in made))
            (sym (append-nil old.faults));
        path = refl;
        tables = tables;
      })

  missing_at : (old new : Resolver) (places : PlaceTables) → has_reference (sought_by element) ≡ true
      → IsSought setting topic element (sought_by element) old new places None
      → IsStep setting.pushed (step_of setting topic at path element) old new places None
  missing_at old new places has is =
      by_meant (found_by setting topic element (sought_by element)) refl is.search.found is.state
    where
      by_meant : (meant : Option content.Found) → found_by setting topic element (sought_by element) ≡ meant
          → AreFound setting.pushed meant None
          → new ≡ record old { faults = old.faults ++ search_faults setting element (sought_by element) meant }
          → IsStep setting.pushed (step_of setting topic at path element) old new places None
      by_meant (Some meant) e found state = absurd found
      by_meant None e found state = step_as old new places None (step_if true None) (step_is true None has e)
          (record {
            link = tt;
            state = state_kept old new _ state;
            path = ap (λ (r : Resolver). r.path) state;
            tables = is.search.tables;
          })

  -- it names nothing
  pub step_missing : (old new : Resolver) (places : PlaceTables) (sought : Sought) (found : Option Found)
      → has_reference (sought_by element) ≡ true → sought ≡ sought_by element → found ≡ None
      → IsSought setting topic element sought old new places found
      → IsStep setting.pushed (step_of setting topic at path element) old new places None
  step_missing old new places sought found has same none is =
      missing_at old new places has (subst (λ (s : Sought). IsSought setting topic element s old new places None) same
      (subst (λ (f : Option Found). IsSought setting topic element sought old new places f) none is))

  -- the step goes on from what was found
  pub step_behind : (old mid new : Resolver) (places : PlaceTables) (taken : Option TakenTarget) (meant : content.Found)
      (before : List Fault) (refused : Option Fault) → mid ≡ record old { faults = old.faults ++ before }
      → IsStep setting.pushed (step_with path element meant [] refused) mid new places taken
      → IsStep setting.pushed (step_with path element meant before refused) old new places taken
  step_behind old mid new places taken meant before (Some fault) first is = record {
    link = is.link;
    state = state_then old mid new before (fault ∷ []) old.path first is.state;
    path = is.path ∙ ap (λ (r : Resolver). r.path) first;
    tables = is.tables;
  }
  step_behind old mid new places taken meant before None first is = record {
    link = is.link;
    state = state_then old mid new before [] old.path first is.state
        ∙ ap (λ (f : List Fault). (let made : Resolver = record old { faults = old.faults ++ f; path = new.path } in made))
        (append-nil before);
    path = is.path;
    tables = is.tables;
  }

-- what was meant, of which this was found
pub record Meant (setting : ResolveInput) (topic : List ℕ) (element : Element) (found : Found) : Type 0 where
  pub meant : content.Found
  pub is : found_by setting topic element (sought_by element) ≡ Some meant
  pub there : IsFound setting.pushed meant found

pub meant_there : (setting : ResolveInput) (topic : List ℕ) (element : Element) (found : Found)
    → AreFound setting.pushed (found_by setting topic element (sought_by element)) (Some found)
    → Meant setting topic element found
meant_there setting topic element found is =
    by_meant (found_by setting topic element (sought_by element)) refl is
  where
    by_meant : (meant : Option content.Found) → found_by setting topic element (sought_by element) ≡ meant
        → AreFound setting.pushed meant (Some found) → Meant setting topic element found
    by_meant None e there = absurd there
    by_meant (Some meant) e there = record { meant = meant; is = e; there = there }

module _ (setting : ResolveInput) (topic : List ℕ) (at links : ℕ) (element : Element) (found : Found)
    (old mid new : Resolver) (first places : PlaceTables) (taken : Option TakenTarget) where
  -- what was found is accepted or refused
  pub step_found : has_reference (sought_by element) ≡ true
      → (sought : IsSought setting topic element (sought_by element) old mid first (Some found))
      → (there : Meant setting topic element found)
      → IsStep setting.pushed (step_with (path_within mid links) element there.meant []
      (refused_by found.value.now at (path_within mid links) element there.meant)) mid new places taken
      → IsStep setting.pushed (step_of setting topic at (path_within old links) element) old new places taken
  step_found has sought there is =
      step_as setting topic at (path_within old links) element old new places taken
      (step_if setting topic at (path_within old links) element true (Some there.meant))
      (step_is setting topic at (path_within old links) element true (Some there.meant) has there.is)
      (step_behind setting topic at (path_within old links) element old mid new places taken there.meant
      (conkeyref_faults setting (sought_by element).conkeyref)
      (refused_by (value_used setting (sought_by element)) at (path_within old links) element there.meant) state
      (subst (λ (value : List ℕ). IsStep setting.pushed (step_with (path_within old links) element there.meant []
      (refused_by value at (path_within old links) element there.meant)) mid new places taken) sought.search.named
      (subst (λ (path : List Place). IsStep setting.pushed (step_with path element there.meant []
      (refused_by found.value.now at path element there.meant)) mid new places taken)
      (within_same old mid links (ap (λ (r : Resolver). r.path) sought.state)) is)))
    where
      state : mid ≡ record old { faults = old.faults ++ conkeyref_faults setting (sought_by element).conkeyref }
      state = sought.state ∙ ap (λ (meant : Option content.Found). (let made : Resolver =
          record old { faults = old.faults ++ search_faults setting element (sought_by element) meant } in made)) there.is

-- a call that may run out of memory
if_ok : (result : Result (Option TakenTarget) NoMemory) (P Q : Option TakenTarget → Type 0)
    → ((link : Option TakenTarget) → P link → Q link)
    → IfOk result P → IfOk result Q
if_ok (Err stop) P Q turns is = is
if_ok (Ok link) P Q turns is = turns link is

module _ (setting : ResolveInput) (topic : List ℕ) (at links : ℕ) (element : Element) (found : Found)
    (old mid new : Resolver) (first places : PlaceTables) where
  -- what was found is accepted or refused, as the call says
  pub step_on : (sought : Sought) (result : Result (Option TakenTarget) NoMemory)
      → has_reference (sought_by element) ≡ true
      → sought ≡ sought_by element → IsSought setting topic element sought old mid first (Some found) → IsDepth old at
      → links ≤ length old.path.items
      → ((meant : content.Found) → AreTables setting.pushed first → IsFound setting.pushed meant found → IsDepth mid at
      → links ≤ length mid.path.items
      → IfOk result (λ link. IsStep setting.pushed (step_with (path_within mid links) element meant []
      (refused_by found.value.now at (path_within mid links) element meant)) mid new places link))
      → IfOk result (λ link. IsStep setting.pushed (step_of setting topic at (path_within old links) element) old new
      places link)
  step_on sought result has same search deep room accepted =
      let there : Meant setting topic element found = meant_there setting topic element found seen_search.search.found in
      if_ok result (λ link. IsStep setting.pushed (step_with (path_within mid links) element there.meant []
      (refused_by found.value.now at (path_within mid links) element there.meant)) mid new places link)
      (λ link. IsStep setting.pushed (step_of setting topic at (path_within old links) element) old new places link)
      (λ link is. step_found setting topic at links element found old mid new first places link has seen_search there is)
      (accepted there.meant seen_search.search.tables there.there
      (depth_same old mid at (ap (λ (r : Resolver). r.maker) seen_search.state)
      (ap (λ (r : Resolver). r.deepest) seen_search.state) deep)
      (subst (λ (p : Vec kept.Place Global). links ≤ length p.items)
      (sym (ap (λ (r : Resolver). r.path) seen_search.state)) room))
    where
      seen_search : IsSought setting topic element (sought_by element) old mid first (Some found)
      seen_search = subst (λ (s : Sought). IsSought setting topic element s old mid first (Some found)) same search
