use Rattle.std.proofs.Common.{◌≡◌, ◌+◌, ◌≤◌}
use Rattle.dita_doc.specs.Siblings.{content}
use Rattle.dita_doc.specs.Tree.{size_of, tree_of}
use Rattle.html_tables.specs.Walk.{content_named}
use Rattle.readers.specs.Named.{named_tree}
use Rattle.html_tables.proofs.DownLaws.{LeadsTo}
use Rattle.html_tables.proofs.table.append_found.Given as goal

abbrev pub invariant-loop-rest : goal.invariant-loop-rest
invariant-loop-rest l = record {
  cells : l.walk.cells ≡ l.fn.walk.cells;
  way : LeadsTo l.walk.groups l.context l.here l.table (content_named l.body.origins l.left) (named_tree l.body);
  room : l.here + size_of (content l.left) ≤ size_of (tree_of l.body.nodes);
}

abbrev pub decreases-loop-rest : goal.decreases-loop-rest
decreases-loop-rest l = size_of (content l.left)
