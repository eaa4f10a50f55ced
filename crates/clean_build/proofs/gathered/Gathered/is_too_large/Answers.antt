use Rattle.part_spec.specs.Parts.{total_limit}
use Rattle.clean_build.proofs.TermLaws.{more_than}
use Rattle.clean_build.proofs.gathered.Gathered.is_too_large.Goals as goal

pub returns : goal.returns
returns c = more_than c.args.self.now.total total_limit
