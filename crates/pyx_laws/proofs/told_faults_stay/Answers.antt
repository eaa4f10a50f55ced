use Rattle.pyx_laws.proofs.Told.{told_stays}
use Rattle.pyx_laws.proofs.told_faults_stay.Goals as goal

pub returns : goal.returns
returns c = told_stays
