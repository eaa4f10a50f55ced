use Rattle.targets.proofs.TargetLaws.{file_alone, file_cut, rest_alone, rest_cut}
use Rattle.targets.proofs.target.split_file.Goals as goal

pub returns-in-None-clause-file : goal.returns-in-None-clause-file
returns-in-None-clause-file c = file_alone c.args.value.now c.in-None.ensures

pub returns-in-None-clause-rest : goal.returns-in-None-clause-rest
returns-in-None-clause-rest c = rest_alone c.args.value.now c.in-None.ensures

pub returns-in-Some-clause-file : goal.returns-in-Some-clause-file
returns-in-Some-clause-file c = file_cut c.args.value.now _ _ c.in-Some.ensures

pub returns-in-Some-clause-rest : goal.returns-in-Some-clause-rest
returns-in-Some-clause-rest c = rest_cut c.args.value.now _ _ c.in-Some.ensures
