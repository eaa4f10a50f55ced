use Rattle.std.proofs.Common.{◌≡◌, ℕ, List, take}
use Rattle.reader_spec.specs.World.{World}
use Rattle.readers.specs.Documents.{AsksOnly}
use Rattle.readers.specs.Founded.{AreAllowed, Grows, IsFounded, StaysFounded}
use Rattle.readers.specs.Told.{Agrees}
use Rattle.map_spec.specs.Pushes.{all_pushes}
use Rattle.conref_push.specs.Aimed.{push_targets}
use Rattle.conref_push.specs.Gathered.{IsGathered}
use Rattle.conref_push.specs.Table.{acts_among}
use Rattle.conref_push.proofs.table.PushTable.of.Given as goal

abbrev pub invariant-loop-name : goal.invariant-loop-name
invariant-loop-name g l = record {
  known : (world : World) → Agrees world (g.R.Reader.told l.reader)
      → IsGathered world (all_pushes world (take l.name-index l.documents))
      (acts_among world (take l.name-index l.documents)) l.targets l.table;
  allowed : (roots : List (List ℕ)) → IsFounded roots (g.R.Reader.told l.reader)
      → AreAllowed roots (g.R.Reader.told l.reader) (take l.name-index l.documents);
  stand : g.R.Reader.stand l.reader ≡ g.R.Reader.stand l.fn.reader;
  founded : StaysFounded l.documents (g.R.Reader.told l.fn.reader) (g.R.Reader.told l.reader);
  asks : AsksOnly push_targets l.documents (g.R.Reader.told l.fn.reader) (g.R.Reader.told l.reader);
  grows : Grows (g.R.Reader.told l.fn.reader) (g.R.Reader.told l.reader);
}
