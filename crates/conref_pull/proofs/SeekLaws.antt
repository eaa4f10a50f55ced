-- References that are looked for in the state of a page, and elements that are judged in it: nothing but its faults changes.
use Rattle.std.specs.Prelude.{◌≡◌, ◌++◌, ℕ, Bool, List, Option, Result, Ok, Err, IfOk, OnOk}
use Rattle.std.proofs.Common.{ap}
use Rattle.dita_doc.specs.declared.fault.Fault.{Fault}
use Rattle.dita_doc.specs.declared.stop.NoMemory.{NoMemory}
use Rattle.map_spec.specs.Written.{Element}
use Rattle.conref_spec.specs.Content.{ResolveInput, Sought}
use Rattle.conref_targets.specs.Found.{IsReferenced}
use Rattle.conref_targets.specs.declared.find.Found.{Found}
use Rattle.conref_targets.specs.declared.tables.PlaceTables.{PlaceTables}
use Rattle.conref_pull.specs.Seeking.{IsSought}
use Rattle.conref_pull.specs.declared.resolver.Resolver.{Resolver}

pub sought_in : (result : Result (Option Found) NoMemory) (setting : ResolveInput) (topic : List ℕ) (element : Element)
    (sought : Sought) (old : Resolver) (faults : List Fault) (places : PlaceTables)
    → IfOk result (λ found. IsReferenced setting topic element sought old.faults faults places found)
    → IfOk result (λ found. IsSought setting topic element sought old (record old { faults = faults }) places found)
sought_in (Err stop) setting topic element sought old faults places is = is
sought_in (Ok found) setting topic element sought old faults places is = record {
  search = is.search;
  state = ap (λ (some : List Fault). (let made : Resolver = record old { faults = some } in made)) is.faults;
}

pub judged_in : (result : Result Bool NoMemory) (old : Resolver) (faults more : List Fault)
    → OnOk result (faults ≡ old.faults ++ more)
    → OnOk result (record old { faults = faults } ≡ record old { faults = old.faults ++ more })
judged_in (Err stop) old faults more is = is
judged_in (Ok goes) old faults more is =
    ap (λ (some : List Fault). (let made : Resolver = record old { faults = some } in made)) is
