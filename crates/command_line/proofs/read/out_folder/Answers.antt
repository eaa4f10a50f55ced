use Rattle.std.proofs.Common.{◌∙◌, refl, ap}
use Rattle.command_line.proofs.CommandLaws.{folder_if_not, folder_if_read}
use Rattle.command_line.proofs.read.out_folder.Goals as goal
use Rattle.command_line.proofs.read.out_folder.Goals.{in-Some+in-Some-1, in-Some+in-None-1, in-None}

pub returns : goal.returns
returns c = c.in_ok-from_str.ensures ∙ (elim c.match-branch-2.branch [
  | in-Some+in-Some-1 w ↦ ap (λ folder. folder.now) (w.folder-is ∙ w.unwrap_or-folder.ensures)
      ∙ folder_if_read _ _ _ _ _ w.in-Some.is c.in_ok-matches.ensures.read c.in_ok-matches.ensures.rows w.get_str.ensures refl
  | in-Some+in-None-1 w ↦ ap (λ folder. folder.now) (w.folder-is ∙ w.unwrap_or-folder.ensures)
      ∙ folder_if_read _ _ _ _ _ w.in-Some.is c.in_ok-matches.ensures.read c.in_ok-matches.ensures.rows w.get_str.ensures refl
  | in-None w ↦ ap (λ folder. folder.now) w.folder-is
      ∙ folder_if_not _ _ w.in-None.is c.in_ok-matches.ensures.read
])
