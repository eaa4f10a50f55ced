use Rattle.std.proofs.Common.{◌≡◌, ℕ, Bool, List, Some, map, take}
use Rattle.dita_doc.specs.Tree.{tree_of}
use Rattle.map_spec.specs.Written.{written_in}
use Rattle.map_spec.specs.Pushes.{AllPushes}
use Rattle.reader_spec.specs.World.{World}
use Rattle.readers.specs.Documents.{AsksOnly, nothing}
use Rattle.readers.specs.Founded.{Grows, StaysFounded}
use Rattle.readers.specs.Told.{Agrees}
use Rattle.conref_push.specs.Aimed.{aims_in}
use Rattle.conref_push.specs.Gathered.{IsGathered, acting_with}
use Rattle.conref_push.specs.Sight.{sight_of, with_all_seen}
use Rattle.conref_push.proofs.table.PushTable.put_all.Given as goal

abbrev pub invariant-loop-pushing : goal.invariant-loop-pushing
invariant-loop-pushing g l = record {
  known : (world : World) (all : AllPushes) (acting : List ℕ → Bool) → Agrees world (g.R.Reader.told l.reader)
      → IsGathered world all acting l.fn.targets l.fn.self
      → IsGathered world (with_all_seen world all (map (sight_of l.name) (take l.pushing-index l.pushing-items)))
      (acting_with acting l.name (written_in l.name (tree_of l.doc.nodes))) l.targets l.self;
  stand : g.R.Reader.stand l.reader ≡ g.R.Reader.stand l.fn.reader;
  founded : StaysFounded (aims_in l.name (Some (tree_of l.doc.nodes))) (g.R.Reader.told l.fn.reader)
      (g.R.Reader.told l.reader);
  asks : AsksOnly nothing (aims_in l.name (Some (tree_of l.doc.nodes))) (g.R.Reader.told l.fn.reader)
      (g.R.Reader.told l.reader);
  grows : Grows (g.R.Reader.told l.fn.reader) (g.R.Reader.told l.reader);
}
