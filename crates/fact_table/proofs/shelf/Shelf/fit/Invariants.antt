-- What is left of the rows is left of those that there were.
use Rattle.std.proofs.Common.{◌≡◌, ◌+◌, length}
use Rattle.std.specs.VecDeque.{deque_capacity}
use Rattle.facts.specs.Table.{left}
use Rattle.fact_table.specs.Claims.{claims_seen}
use Rattle.fact_table.specs.Shelf.{IsShelf, KnowsClaims, rows_seen}
use Rattle.fact_table.proofs.shelf.Shelf.fit.Given as goal

abbrev pub invariant-loop-self : goal.invariant-loop-self
invariant-loop-self l = record {
  shelf : IsShelf l.self;
  known : KnowsClaims l.self.newest (claims_seen l.claims);
  rows : left l.limit (rows_seen l.self) ≡ left l.limit (rows_seen l.fn.self);
  made : l.self.dropped + length (rows_seen l.self) ≡ l.fn.self.dropped + length (rows_seen l.fn.self);
  capacity : deque_capacity l.self.rows ≡ deque_capacity l.fn.self.rows;
}

abbrev pub decreases-loop-self : goal.decreases-loop-self
decreases-loop-self l = length (rows_seen l.self)
