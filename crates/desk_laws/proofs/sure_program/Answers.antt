use Rattle.desk_laws.proofs.ProgramLaws.{sure_program}
use Rattle.desk_laws.proofs.sure_program.Goals as goal

pub returns : goal.returns
returns g c = λ mode source source' sink sink' outlet outlet' door door' status none.
    sure_program _ _ _ none mode status
