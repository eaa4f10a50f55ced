use Rattle.command_laws.proofs.WordLaws.{names_folder}
use Rattle.command_laws.proofs.folder_is_named.Goals as goal

pub returns : goal.returns
returns c = names_folder
