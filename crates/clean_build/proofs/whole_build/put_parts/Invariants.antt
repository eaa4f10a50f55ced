use Rattle.std.specs.Option.{option_copied}
use Rattle.std.specs.Prelude.{◌≡◌}
use Rattle.plan_reader.specs.Tables.{GoesOn}
use Rattle.reader_spec.specs.World.{world_of}
use Rattle.clean_build.specs.Bodies.{AreKnown}
use Rattle.clean_build.specs.Gathering.{HasPagesOf}
use Rattle.clean_build.specs.Terms.{terms_before}
use Rattle.clean_build.proofs.whole_build.put_parts.Given as goal

abbrev pub invariant-loop-index : goal.invariant-loop-index
invariant-loop-index l =
    let world = world_of l.fn.sources in record {
      goes_on : GoesOn world l.fn.ground.plan.now.documents l.cache;
      content : AreKnown world world l.fn.ground.plan.now l.content;
      put : HasPagesOf world l.fn.ground.plan.now (option_copied l.fn.ground.val) l.index l.gathered;
      terms : l.terms
          ≡ terms_before l.fn.with_terms world l.fn.ground.plan.now (option_copied l.fn.ground.val) l.index;
    }
