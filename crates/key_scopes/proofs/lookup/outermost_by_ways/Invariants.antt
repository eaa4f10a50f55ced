use Rattle.std.proofs.Common.{◌≡◌, ◌+◌}
use Rattle.std.specs.Option.{option_map_or, option_or}
use Rattle.key_scopes.specs.Found.{own_of}
use Rattle.key_scopes.specs.Lookup.{AreDeadEnds}
use Rattle.key_scopes.specs.Rising.{answer_up, by_names}
use Rattle.key_scopes.proofs.lookup.outermost_by_ways.Given as goal

abbrev pub invariant-loop-here : goal.invariant-loop-here
invariant-loop-here l = record {
  found : answer_up (by_names l.table.scopes (own_of l.table) l.key) l.table.scopes l.fn.from
      ≡ option_or (answer_up (by_names l.table.scopes (own_of l.table) l.key) l.table.scopes l.here) l.found;
  ends : AreDeadEnds l.table l.key l.dead_ends;
}

abbrev pub decreases-loop-here : goal.decreases-loop-here
decreases-loop-here l = option_map_or (λ scope. scope + 1) l.here 0
