use Rattle.std.proofs.Common.{rules, append_assoc}
use Rattle.std.proofs.lemmas.List.{append-nil, map_push}
use Rattle.href_text.proofs.JoinedLaws.{folders_cut, no_folders}
use Rattle.href_text.proofs.path.folders_of.Goals as goal

pub loop-folder-preserved : goal.loop-folder-preserved
loop-folder-preserved c = (
  search rules,
  rw (c.in_ok-push.ensures.items, map_push, append_assoc, ← folders_cut _ _ _ c.in-Some.ensures)
      c.loop-folder.invariant.1,
)

pub returns : goal.returns
returns c = rw (no_folders c.loop-folder.rest.now c.in_default.ensures, append-nil) at c.loop-folder.invariant.1
