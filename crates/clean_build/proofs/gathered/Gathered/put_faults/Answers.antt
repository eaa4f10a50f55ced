use Rattle.clean_build.proofs.GatheredLaws.{good_more, good_report}
use Rattle.clean_build.proofs.gathered.Gathered.put_faults.Goals as goal

pub returns-in_ok-self-clause-faults : goal.returns-in_ok-self-clause-faults
returns-in_ok-self-clause-faults c = λ all good. good_report _ _ _ c.in_ok-self.ensures
    (good_more c.args.self.now.faults all c.args.faults _ good c.in_ok-append_faults.ensures)

pub returns-else-len-self-clause-faults : goal.returns-else-len-self-clause-faults
returns-else-len-self-clause-faults c = λ all good.
    good_more c.args.self.now.faults all c.args.faults _ good c.in_ok-append_faults.ensures
