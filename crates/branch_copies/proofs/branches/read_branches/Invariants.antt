use Rattle.std.proofs.Common.{◌≡◌, [], length, map}
use Rattle.map_spec.specs.Cascade.{whole_at}
use Rattle.map_spec.specs.MapTree.{MapTree, count}
use Rattle.readers.specs.Founded.{Grows, StaysFounded}
use Rattle.readers.specs.Told.{Agrees}
use Rattle.reader_spec.specs.World.{World}
use Rattle.branch_copies.specs.Ditavalrefs.{AsksDitavals}
use Rattle.branch_copies.specs.Ditavals.{AreKnown}
use Rattle.branch_copies.specs.Reading.{IsReading}
use Rattle.branch_copies.specs.Stands.{StandsAt}
use Rattle.branch_copies.proofs.branches.read_branches.Given as goal

abbrev pub invariant-loop-at : goal.invariant-loop-at
invariant-loop-at g l = record {
  read : (world : World) (tree : MapTree) → Agrees world (g.R.Reader.told l.reader)
      → l.homes ≡ map (whole_at world) l.nodes → StandsAt l.nodes 0 0 tree → length l.nodes ≡ count tree
      → AreKnown world l.fn.ditavals.read.items l.fn.ditavals.known.entries
      → IsReading world l.nodes tree l.ditavals.read.items l.ditavals.known.entries l.read l.at l.next;
  stand : g.R.Reader.stand l.reader ≡ g.R.Reader.stand l.fn.reader;
  grows : Grows (g.R.Reader.told l.fn.reader) (g.R.Reader.told l.reader);
  founded : StaysFounded [] (g.R.Reader.told l.fn.reader) (g.R.Reader.told l.reader);
  asks : AsksDitavals l.homes l.nodes [] (g.R.Reader.told l.fn.reader) (g.R.Reader.told l.reader);
}
