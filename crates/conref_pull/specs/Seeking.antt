-- References that are looked for in the state of a page (own): nothing but its faults changes.
use Rattle.std.specs.Prelude.{◌≡◌, ◌++◌, ℕ, List, Option}
use Rattle.map_spec.specs.Written.{Element}
use Rattle.conref_spec.specs.Content.{ResolveInput, Sought, found_by, value_used}
use Rattle.conref_targets.specs.Found.{IsSearch, search_faults}
use Rattle.conref_targets.specs.declared.find.Found.{Found}
use Rattle.conref_targets.specs.declared.tables.PlaceTables.{PlaceTables}
use Rattle.conref_pull.specs.declared.resolver.Resolver.{Resolver}

-- an element's reference was looked for
pub record IsSought (setting : ResolveInput) (topic : List ℕ) (element : Element) (sought : Sought) (old new : Resolver)
    (places : PlaceTables) (result : Option Found) : Type 0 where
  pub search :
      IsSearch setting.pushed (found_by setting topic element sought) (value_used setting sought) places result
  pub state :
      new ≡
      record old { faults = old.faults ++ search_faults setting element sought (found_by setting topic element sought) }
