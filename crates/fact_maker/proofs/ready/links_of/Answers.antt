use Rattle.std.proofs.Common.{ap, ◌∙◌}
use Rattle.reader_spec.specs.World.{world_of}
use Rattle.readers.specs.Setting.{Stand}
use Rattle.fact_maker.proofs.ReadyLaws.{links_found}
use Rattle.fact_maker.proofs.ready.links_of.Goals as goal

pub returns : goal.returns
returns c = links_found _ _ c.args.plan.now _ _ _ (ap (λ (s : Stand). s.world) c.of.ensures.stand
    ∙ ap world_of c.new-reader.ensures.sources) c.new-reader.ensures.pages c.requires.tree c.requires.values
    c.of.new.asker.agreed c.of.ensures.known

pub new-reader-requires-clause-goes_on : goal.new-reader-requires-clause-goes_on
new-reader-requires-clause-goes_on c = c.new-cache.ensures _ _
