use Rattle.std.proofs.Common.{◌≡◌, ℕ, ◌++◌, take}
use Rattle.std.specs.Prelude.{filter, nat_lt}
use Rattle.std.specs.List.Sorted.{IsNonDecreasingBy}
use Rattle.dita_doc.specs.declared.content.LinkKind.TheVariants as links
use Rattle.link_groups.specs.LinkLists.{HoldsLinks, Links, links_to_nodes}
use Rattle.link_groups.specs.declared.link_nodes.LinkNode.{LinkNode}
use Rattle.reltable_links.specs.Below.{ends_behind_one}
use Rattle.reltable_links.specs.Linked.{is_target_below}
use Rattle.reltable_links.specs.declared.cells.RowCell.{RowCell}
use Rattle.reltable_links.proofs.linked.append_below.Given as goal

abbrev pub invariant-loop-cell : goal.invariant-loop-cell
invariant-loop-cell l = record {
  holds : (own : ℕ) (all : Links) → IsNonDecreasingBy (λ (node : LinkNode). node.at) l.nodes
      → IsNonDecreasingBy (λ (cell : RowCell). cell.at) l.cells → HoldsLinks own all l.fn.links
      → HoldsLinks own (all ++ links_to_nodes own links.Related
      (filter (is_target_below (take l.cell-index l.cells)) l.nodes)) l.links;
  done : (at : ℕ) → nat_lt at l.done ≡ ends_behind_one (take l.cell-index l.cells) at;
}
