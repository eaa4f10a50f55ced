-- The count of what was resolved, up to its limit (own).
use Rattle.std.specs.Prelude.{◌≡◌, ◌+◌, ◌<◌, ◌≤◌, Result, Ok, Err}
use Rattle.dita_doc.specs.declared.stop.Stop.{Stop}
use Rattle.dita_doc.specs.declared.stop.Stop.TheVariants as stops
use Rattle.conref_spec.specs.Content.{count_limit}
use Rattle.conref_pull.specs.declared.resolver.Resolver.{Resolver}
use Rattle.conref_pull.specs.declared.resolver.TooMany.{TooMany}

-- one more was counted
pub record OneMore (old new : Resolver) : Type 0 where
  pub room : old.count < count_limit
  pub state : new ≡ record old { count = old.count + 1 }

-- one more was counted, or there would be too many; out of memory, nothing is said
abbrev pub IsCounted : Result (Unit {0}) (Stop TooMany) → Resolver → Resolver → Type 0
IsCounted (Ok done) old new = OneMore old new
IsCounted (Err (stops.Fault fault)) old new = count_limit ≤ old.count
IsCounted (Err stops.NoMemory) old new = Unit {0}
