use Rattle.std.proofs.Common.{◌≡◌, []}
use Rattle.key_scopes.specs.OwnKeys.{rows_by, rows_of}
use Rattle.key_scopes.proofs.own_keys.no_keys.Given as goal

abbrev pub invariant-loop : goal.invariant-loop
invariant-loop l = rows_of l.maps.items ≡ rows_by l.counter []
