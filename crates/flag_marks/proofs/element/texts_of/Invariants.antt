use Rattle.std.proofs.Common.{◌≡◌, ◌++◌, drop}
use Rattle.std.specs.List.{flat_map}
use Rattle.dita_doc.specs.Shown.{shown}
use Rattle.flag_marks.specs.Marks.{marks_by}
use Rattle.flag_marks.proofs.element.texts_of.Given as goal

abbrev pub invariant-loop-table : goal.invariant-loop-table
invariant-loop-table l =
    l.texts ++ flat_map (marks_by l.declared l.node.attributes) (shown (drop l.table-index l.tables))
    ≡ flat_map (marks_by l.declared l.node.attributes) (shown l.tables)
