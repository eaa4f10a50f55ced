use Rattle.std.proofs.Common.{◌++◌, ◌≤◌, ℕ, List}
use Rattle.dita_doc.specs.Siblings.{content}
use Rattle.dita_doc.specs.Tree.{size_of}
use Rattle.html_tables.specs.Walk.{AreColumns, Names, content_named}
use Rattle.html_spec.specs.Tables.{column_names}
use Rattle.html_tables.proofs.ColumnLaws.{IsOnTheWay}
use Rattle.html_tables.proofs.columns.+append_columns.Given as goal

abbrev pub decreases-append_columns : goal.decreases-append_columns
decreases-append_columns l = size_of (content l.siblings)

abbrev pub invariant-loop-rest : goal.invariant-loop-rest
invariant-loop-rest l = record {
  way : (names : List (List ℕ)) (before : Names) → AreColumns l.fn.columns before
      → IsOnTheWay l.columns (before ++ column_names (content_named names l.fn.siblings))
      (column_names (content_named names l.left));
  size : size_of (content l.left) ≤ size_of (content l.fn.siblings);
}

abbrev pub decreases-loop-rest : goal.decreases-loop-rest
decreases-loop-rest l = size_of (content l.left)
