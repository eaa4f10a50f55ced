use Rattle.std.proofs.Common.{ℕ, ◌++◌, take}
use Rattle.link_groups.specs.LinkLists.{HoldsLinks, Links, links_to_nodes}
use Rattle.link_groups.proofs.link_list.LinkList.put_nodes.Given as goal

abbrev pub invariant-loop-node : goal.invariant-loop-node
invariant-loop-node l = (own : ℕ) (all : Links) → HoldsLinks own all l.fn.self
    → HoldsLinks own (all ++ links_to_nodes own l.kind (take l.node-index l.nodes)) l.self
