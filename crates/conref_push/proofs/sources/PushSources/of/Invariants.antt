use Rattle.std.proofs.Common.{◌≡◌, take}
use Rattle.reader_spec.specs.World.{World}
use Rattle.readers.specs.Documents.{AsksOnly, nothing}
use Rattle.readers.specs.Founded.{Grows, StaysFounded}
use Rattle.readers.specs.Only.{TellsOnly, is_document_of}
use Rattle.readers.specs.Told.{Agrees}
use Rattle.conref_push.specs.Into.{froms}
use Rattle.conref_push.specs.Sources.{AreGiven, AreSources}
use Rattle.conref_push.proofs.sources.PushSources.of.Given as goal

abbrev pub invariant-loop-push : goal.invariant-loop-push
invariant-loop-push g l = record {
  known : (world : World) → Agrees world (g.R.Reader.told l.reader)
      → AreSources world (froms (take l.push-index l.pushes)) l.sources;
  given : AreGiven (g.R.Reader.told l.reader) l.sources;
  stand : g.R.Reader.stand l.reader ≡ g.R.Reader.stand l.fn.reader;
  founded : StaysFounded (froms l.pushes) (g.R.Reader.told l.fn.reader) (g.R.Reader.told l.reader);
  asks : AsksOnly nothing (froms l.pushes) (g.R.Reader.told l.fn.reader) (g.R.Reader.told l.reader);
  only : TellsOnly (is_document_of (froms l.pushes)) (g.R.Reader.told l.fn.reader) (g.R.Reader.told l.reader);
  grows : Grows (g.R.Reader.told l.fn.reader) (g.R.Reader.told l.reader);
}
