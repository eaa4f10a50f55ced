use Rattle.std.proofs.Common.{ap, subst, ◌∙◌}
use Rattle.reader_spec.specs.World.{World, world_of}
use Rattle.readers.specs.Setting.{Stand}
use Rattle.readers.specs.Titled.{AreTitles}
use Rattle.clean_build.proofs.TableLaws.{tables_here}
use Rattle.clean_build.proofs.whole_build.build_of_plan.Goals as goal

pub build_of_parts-requires-clause-goes_on : goal.build_of_parts-requires-clause-goes_on
build_of_parts-requires-clause-goes_on c =
    let here = ap world_of c.into_asked-known.ensures.sources ∙ ap (λ (s : Stand). s.world) c.in_ok-tables.ensures.stand
    ∙ c.requires.sources in
    record {
      titles = subst (λ (world : World). AreTitles world c.into_titles.result) here c.into_titles.ensures;
      kept = c.new.ensures _ _;
    }

pub build_of_parts-requires-clause-tables : goal.build_of_parts-requires-clause-tables
build_of_parts-requires-clause-tables c = tables_here _ _ _ _ _ _ _ _ c.requires.sources c.requires.keyed
    c.in_ok-tables.ensures.tables
