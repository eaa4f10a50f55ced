use Rattle.std.proofs.Common.{◌≡◌, [], take}
use Rattle.reader_spec.specs.World.{World}
use Rattle.readers.specs.Documents.{AsksOnly, nothing}
use Rattle.readers.specs.Founded.{Grows, StaysFounded}
use Rattle.readers.specs.Told.{Agrees}
use Rattle.clean_build.specs.Terms.{documents_of, titles_in}
use Rattle.clean_build.proofs.terms.titles_of.Given as goal

abbrev pub invariant-loop-page : goal.invariant-loop-page
invariant-loop-page g l = record {
  known : (world : World) → Agrees world (g.T.Reader.told l.asker) → l.titles ≡ titles_in world (take l.page-index l.pages);
  stand : g.T.Reader.stand l.asker ≡ g.T.Reader.stand l.fn.asker;
  founded : StaysFounded (documents_of l.pages) (g.T.Reader.told l.fn.asker) (g.T.Reader.told l.asker);
  asks : AsksOnly nothing [] (g.T.Reader.told l.fn.asker) (g.T.Reader.told l.asker);
  grows : Grows (g.T.Reader.told l.fn.asker) (g.T.Reader.told l.asker);
}
