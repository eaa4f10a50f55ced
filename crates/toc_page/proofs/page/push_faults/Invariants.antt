use Rattle.std.proofs.Common.{◌≡◌, [], take}
use Rattle.std.specs.List.{flat_map}
use Rattle.readers.specs.Documents.{AsksOnly, nothing}
use Rattle.readers.specs.Founded.{Grows, StaysFounded}
use Rattle.readers.specs.Only.{TellsOnly, is_pushes_of}
use Rattle.readers.specs.Told.{Agrees}
use Rattle.reader_spec.specs.World.{World}
use Rattle.toc_page.specs.Made.{faults_in}
use Rattle.toc_page.proofs.page.push_faults.Given as goal

abbrev pub invariant-loop-document : goal.invariant-loop-document
invariant-loop-document g l = record {
  known : (world : World) → Agrees world (g.A.Reader.told l.asker)
      → l.faults ≡ flat_map (faults_in world (g.A.Reader.stand l.fn.asker).setting.documents)
      (take l.document-index l.documents);
  stand : g.A.Reader.stand l.asker ≡ g.A.Reader.stand l.fn.asker;
  founded : StaysFounded l.documents (g.A.Reader.told l.fn.asker) (g.A.Reader.told l.asker);
  asks : AsksOnly nothing [] (g.A.Reader.told l.fn.asker) (g.A.Reader.told l.asker);
  only : TellsOnly (is_pushes_of l.documents) (g.A.Reader.told l.fn.asker) (g.A.Reader.told l.asker);
  grows : Grows (g.A.Reader.told l.fn.asker) (g.A.Reader.told l.asker);
}
