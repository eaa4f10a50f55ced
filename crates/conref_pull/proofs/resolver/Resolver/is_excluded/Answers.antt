use Rattle.conref_pull.proofs.SeekLaws.{judged_in}
use Rattle.conref_pull.proofs.resolver.Resolver.is_excluded.Goals as goal

pub returns-clause-state : goal.returns-clause-state
returns-clause-state c =
    judged_in c.is_excluded.result c.args.self.now c.is_excluded.new.faults _ c.is_excluded.ensures.faults
