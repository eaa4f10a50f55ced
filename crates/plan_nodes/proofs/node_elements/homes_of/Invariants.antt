use Rattle.std.proofs.Common.{◌≡◌, take}
use Rattle.readers.specs.Documents.{AsksOnly, nothing}
use Rattle.readers.specs.Founded.{Grows, StaysFounded, homes}
use Rattle.readers.specs.Only.{TellsOnly, is_document_of}
use Rattle.readers.specs.Told.{Agrees}
use Rattle.reader_spec.specs.World.{World}
use Rattle.plan_nodes.specs.HomeDocs.{AreHomesOf}
use Rattle.plan_nodes.specs.ToldDocs.{AreToldDocs}
use Rattle.plan_nodes.proofs.node_elements.homes_of.Given as goal

abbrev pub invariant-loop-node : goal.invariant-loop-node
invariant-loop-node g l = record {
  found : (world : World) → Agrees world (g.R.Reader.told l.reader)
      → AreHomesOf world l.docs.items l.known.entries (take l.node-index l.nodes) l.homes.items;
  given : AreToldDocs (g.R.Reader.told l.reader) l.docs.items;
  stand : g.R.Reader.stand l.reader ≡ g.R.Reader.stand l.fn.reader;
  founded : StaysFounded (homes l.nodes) (g.R.Reader.told l.fn.reader) (g.R.Reader.told l.reader);
  asks : AsksOnly nothing (homes l.nodes) (g.R.Reader.told l.fn.reader) (g.R.Reader.told l.reader);
  only : TellsOnly (is_document_of (homes l.nodes)) (g.R.Reader.told l.fn.reader) (g.R.Reader.told l.reader);
  grows : Grows (g.R.Reader.told l.fn.reader) (g.R.Reader.told l.reader);
}
