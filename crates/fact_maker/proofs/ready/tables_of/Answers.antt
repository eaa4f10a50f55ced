use Rattle.std.proofs.Common.{ap, ◌∙◌}
use Rattle.reader_spec.specs.World.{world_of}
use Rattle.fact_maker.proofs.ReadyLaws.{tables_found}
use Rattle.fact_maker.proofs.ready.tables_of.Goals as goal

pub returns : goal.returns
returns c = tables_found _ _ _ _ _ _ (ap world_of (c.new-reader.ensures.sources ∙ c.new.ensures)) c.requires.tree
    c.requires.values c.requires.scopes c.of.ensures.tables
