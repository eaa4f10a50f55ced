use Rattle.std.proofs.Common.{ℕ, ◌++◌, take}
use Rattle.std.specs.Prelude.{filter}
use Rattle.dita_doc.specs.declared.content.LinkKind.TheVariants as links
use Rattle.link_groups.specs.LinkLists.{HoldsLinks, Links, links_to_nodes}
use Rattle.reltable_links.specs.Linked.{is_target}
use Rattle.reltable_links.proofs.linked.append_targets.Given as goal

abbrev pub invariant-loop-node : goal.invariant-loop-node
invariant-loop-node l = (own : ℕ) (all : Links) → HoldsLinks own all l.fn.links
    → HoldsLinks own (all ++ links_to_nodes own links.Related (filter is_target (take l.node-index l.nodes))) l.links
