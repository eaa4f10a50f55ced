use Rattle.std.proofs.Common.{◌≡◌, ◌++◌, drop}
use Rattle.std.specs.List.{flat_map}
use Rattle.flag_marks.specs.Marks.{marks_of_attribute}
use Rattle.flag_marks.proofs.element.push_declared.Given as goal

abbrev pub invariant-loop-name : goal.invariant-loop-name
invariant-loop-name l =
    l.texts ++ flat_map (marks_of_attribute l.table l.node.attributes) (drop l.name-index l.declared)
    ≡ l.fn.texts ++ flat_map (marks_of_attribute l.table l.node.attributes) l.declared
