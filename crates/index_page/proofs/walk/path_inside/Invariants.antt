use Rattle.std.proofs.Common.{◌≡◌, ◌++◌, drop}
use Rattle.index_page.proofs.walk.path_inside.Given as goal

abbrev pub invariant-loop-text : goal.invariant-loop-text
invariant-loop-text l = l.path ++ drop l.text-index l.around ≡ l.around
