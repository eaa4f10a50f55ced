use Rattle.script_laws.proofs.Later.{requests_follow}
use Rattle.script_laws.proofs.read_requests_stay.Goals as goal

pub returns : goal.returns
returns c = requests_follow
