use Rattle.std.proofs.Common.{◌≡◌, take}
use Rattle.readers.specs.Documents.{AsksOnly, nothing}
use Rattle.readers.specs.Founded.{Grows, StaysFounded}
use Rattle.readers.specs.Only.{TellsOnly, is_document_of}
use Rattle.readers.specs.Told.{Agrees}
use Rattle.reader_spec.specs.World.{World}
use Rattle.conref_targets.specs.Rules.{AreRules, HasAll, HaveSame, Keeps}
use Rattle.conref_targets.proofs.rules.RuleLists.read_filters.Given as goal

abbrev pub invariant-loop-filter : goal.invariant-loop-filter
invariant-loop-filter g l = record {
  kept : AreRules (g.R.Reader.stand l.fn.reader).world l.fn.self → AreRules (g.R.Reader.stand l.fn.reader).world l.self;
  same : (world : World) → Agrees world (g.R.Reader.told l.reader)
      → HaveSame (g.R.Reader.stand l.fn.reader).world world (take l.filter-index l.filters);
  keeps : Keeps l.fn.self l.self;
  has : HasAll l.self (take l.filter-index l.filters);
  stand : g.R.Reader.stand l.reader ≡ g.R.Reader.stand l.fn.reader;
  founded : StaysFounded l.filters (g.R.Reader.told l.fn.reader) (g.R.Reader.told l.reader);
  asks : AsksOnly nothing l.filters (g.R.Reader.told l.fn.reader) (g.R.Reader.told l.reader);
  only : TellsOnly (is_document_of l.filters) (g.R.Reader.told l.fn.reader) (g.R.Reader.told l.reader);
  grows : Grows (g.R.Reader.told l.fn.reader) (g.R.Reader.told l.reader);
}
