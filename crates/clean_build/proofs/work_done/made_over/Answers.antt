use Rattle.reader_spec.specs.World.{world_of}
use Rattle.clean_build.proofs.work_done.made_over.Goals as goal

pub returns-clause-made : goal.returns-clause-made
returns-clause-made g c = c.in_ok-done.ensures.known (world_of c.args.sources.now) c.in_ok-done.ensures.agrees
