use Rattle.std.proofs.Common.{◌≡◌, ◌++◌, drop, map}
use Rattle.dita_doc.specs.Shown.{shown}
use Rattle.flag_marks.specs.Marks.{attributes_at, marks_from}
use Rattle.flag_marks.proofs.mark.marks_of.Given as goal

abbrev pub invariant-loop-at : goal.invariant-loop-at
invariant-loop-at l =
    l.marks ++ marks_from (shown l.tables) l.at (drop l.at l.declared) (map attributes_at (drop l.at l.nodes))
    ≡ marks_from (shown l.tables) 0 l.declared (map attributes_at l.nodes)
