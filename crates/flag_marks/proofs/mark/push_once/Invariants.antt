use Rattle.std.proofs.Common.{drop}
use Rattle.flag_marks.proofs.OnceLaws.{IsPut}
use Rattle.flag_marks.proofs.mark.push_once.Given as goal

abbrev pub invariant-loop-text : goal.invariant-loop-text
invariant-loop-text l = IsPut l.place l.seen l.marks l.fn.marks (drop l.text-index l.texts) l.texts
