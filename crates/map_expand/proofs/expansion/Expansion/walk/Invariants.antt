use Rattle.std.proofs.Common.{◌≡◌, ◌≤◌, [], length}
use Rattle.reader_spec.specs.World.{World}
use Rattle.readers.specs.Documents.{AsksOnly}
use Rattle.readers.specs.Founded.{Grows, StaysFounded}
use Rattle.readers.specs.Told.{Agrees}
use Rattle.map_spec.specs.Included.{map_node_limit}
use Rattle.map_expand.specs.Going.{Ready, rest, so_far}
use Rattle.map_expand.specs.Telling.{map_targets}
use Rattle.map_expand.specs.Left.{left}
use Rattle.map_expand.proofs.expansion.Expansion.walk.Given as goal

abbrev pub invariant-loop-work : goal.invariant-loop-work
invariant-loop-work g l = record {
  ready : Ready (g.R.Reader.told l.reader) l.maps l.self;
  few : length l.self.nodes ≤ map_node_limit;
  stand : g.R.Reader.stand l.reader ≡ g.R.Reader.stand l.fn.reader;
  grows : Grows (g.R.Reader.told l.fn.reader) (g.R.Reader.told l.reader);
  founded : StaysFounded [] (g.R.Reader.told l.fn.reader) (g.R.Reader.told l.reader);
  asks : AsksOnly map_targets [] (g.R.Reader.told l.fn.reader) (g.R.Reader.told l.reader);
  made : (world : World) → Agrees world (g.R.Reader.told l.reader)
      → rest world l.maps l.self (so_far l.self) ≡ rest world l.fn.maps l.fn.self (so_far l.fn.self);
}

abbrev pub decreases-loop-work : goal.decreases-loop-work
decreases-loop-work g l = left l.self.nodes l.self.left.items
