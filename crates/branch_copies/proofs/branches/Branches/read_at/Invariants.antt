use Rattle.std.proofs.Common.{◌≡◌, ◌-◌, ℕ, [], map}
use Rattle.map_spec.specs.Cascade.{whole_at}
use Rattle.map_spec.specs.MapTree.{Head, MapTree, MapNode}
use Rattle.readers.specs.Founded.{Grows, StaysFounded}
use Rattle.readers.specs.Told.{Agrees}
use Rattle.reader_spec.specs.World.{World}
use Rattle.branch_copies.specs.Appended.{AreRefsRead}
use Rattle.branch_copies.specs.Ditavalrefs.{AsksDitavals}
use Rattle.branch_copies.specs.Ditavals.{AreKnown}
use Rattle.branch_copies.specs.Stands.{StandsAt}
use Rattle.branch_copies.proofs.branches.Branches.read_at.Given as goal

abbrev pub invariant-loop-child : goal.invariant-loop-child
invariant-loop-child g l = record {
  read : (world : World) (parent : ℕ) (head : Head) (below more : MapTree) → Agrees world (g.R.Reader.told l.reader)
      → l.homes ≡ map (whole_at world) l.nodes → StandsAt l.nodes parent l.at (MapNode head below more)
      → AreKnown world l.fn.ditavals.read.items l.fn.ditavals.known.entries
      → AreRefsRead world l.nodes l.fn.ditavals.read.items l.ditavals.read.items l.ditavals.known.entries l.fn.self
      l.self l.at l.end l.child below;
  stand : g.R.Reader.stand l.reader ≡ g.R.Reader.stand l.fn.reader;
  grows : Grows (g.R.Reader.told l.fn.reader) (g.R.Reader.told l.reader);
  founded : StaysFounded [] (g.R.Reader.told l.fn.reader) (g.R.Reader.told l.reader);
  asks : AsksDitavals l.homes l.nodes [] (g.R.Reader.told l.fn.reader) (g.R.Reader.told l.reader);
}

abbrev pub decreases-loop-child : goal.decreases-loop-child
decreases-loop-child g l = l.end - l.child
