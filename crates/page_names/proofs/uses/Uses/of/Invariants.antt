use Rattle.std.proofs.Common.{◌≡◌}
use Rattle.readers.specs.Documents.{AsksOnly, nothing}
use Rattle.readers.specs.Founded.{Grows, StaysFounded, homes}
use Rattle.readers.specs.Told.{Agrees}
use Rattle.reader_spec.specs.World.{World}
use Rattle.page_names.specs.Uses.{AreReady, AreUses}
use Rattle.page_names.proofs.uses.Uses.of.Given as goal

abbrev pub invariant-loop-at : goal.invariant-loop-at
invariant-loop-at g l = record {
  uses : (world : World) → Agrees world (g.K.Reader.told l.asker)
      → AreReady (g.K.Reader.stand l.fn.asker).setting.nodes world l.nodes → AreUses world l.nodes l.at l.uses;
  stand : g.K.Reader.stand l.asker ≡ g.K.Reader.stand l.fn.asker;
  founded : (g.K.Reader.stand l.fn.asker).setting.nodes ≡ l.nodes
      → StaysFounded (homes l.nodes) (g.K.Reader.told l.fn.asker) (g.K.Reader.told l.asker);
  asks : AsksOnly nothing (homes l.nodes) (g.K.Reader.told l.fn.asker) (g.K.Reader.told l.asker);
  grows : Grows (g.K.Reader.told l.fn.asker) (g.K.Reader.told l.asker);
  later : Grows (g.K.Reader.told l.initial.asker) (g.K.Reader.told l.asker);
}
