use Rattle.std.proofs.Common.{◌≡◌, ◌+◌, ◌≤◌, ℕ, List}
use Rattle.dita_doc.specs.Siblings.{content}
use Rattle.dita_doc.specs.Tree.{size_of}
use Rattle.html_tables.specs.Walk.{IsContext, content_named}
use Rattle.html_spec.specs.Blocks.{HtmlContext, cells_from}
use Rattle.html_tables.proofs.WalkLaws.{AreOnTheWay}
use Rattle.html_tables.proofs.table.+append_cells.Given as goal

abbrev pub decreases-append_cells : goal.decreases-append_cells
decreases-append_cells l = size_of (content l.siblings)

abbrev pub invariant-loop-rest : goal.invariant-loop-rest
invariant-loop-rest l = record {
  way : (names : List (List ℕ)) (around : HtmlContext) → IsContext l.fn.walk.groups l.context around
      → AreOnTheWay l.fn.walk l.walk (cells_from around l.fn.place (content_named names l.fn.siblings))
      (cells_from around l.here (content_named names l.left));
  size : size_of (content l.left) ≤ size_of (content l.fn.siblings);
  room : l.here + size_of (content l.left) ≡ l.fn.place + size_of (content l.fn.siblings);
}

abbrev pub decreases-loop-rest : goal.decreases-loop-rest
decreases-loop-rest l = size_of (content l.left)
