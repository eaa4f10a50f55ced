use Rattle.key_scopes.specs.Lookup.{AreDeadEnds}
use Rattle.key_scopes.proofs.LookupLaws.{LooksInto, steps_left}
use Rattle.key_scopes.proofs.lookup.by_ways.Given as goal

abbrev pub invariant-loop-inner : goal.invariant-loop-inner
invariant-loop-inner l = record {
  looks : LooksInto l.table l.key l.scope l.entered.items;
  ends : AreDeadEnds l.table l.key l.dead_ends;
}

abbrev pub decreases-loop-inner : goal.decreases-loop-inner
decreases-loop-inner l = steps_left l.entered.items
