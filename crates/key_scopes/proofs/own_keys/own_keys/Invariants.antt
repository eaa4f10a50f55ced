use Rattle.std.proofs.Common.{◌≡◌, filter, take}
use Rattle.key_scopes.specs.Defined.{is_level_within}
use Rattle.key_scopes.specs.Numbered.{entries}
use Rattle.key_scopes.specs.OwnKeys.{rows_by, rows_of}
use Rattle.key_scopes.proofs.own_keys.own_keys.Given as goal

abbrev pub invariant-loop-entry : goal.invariant-loop-entry
invariant-loop-entry l =
    rows_of l.maps.items
    ≡ rows_by l.fn.scopes (filter (is_level_within l.fn.count) (entries (take l.entry-index l.entry-items)))
