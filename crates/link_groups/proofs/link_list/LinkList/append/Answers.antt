use Rattle.std.proofs.Common.{◌++◌, rules, subst}
use Rattle.std.proofs.lemmas.List.Sorted.{IsNonDecreasingBy-from_sort_by_key}
use Rattle.link_groups.specs.LinkLists.{HoldsLinks, links_to_nodes}
use Rattle.link_groups.specs.declared.link_nodes.LinkNode.{LinkNode}
use Rattle.link_groups.proofs.link_list.LinkList.append.Goals as goal

pub returns : goal.returns
returns c = λ own all holds. record {
  ordered = c.sort_unstable_by_key.new.self.items;
  permuted = c.sort_unstable_by_key.ensures.permutation;
  sorted = IsNonDecreasingBy-from_sort_by_key (λ (node : LinkNode). node.at) _ c.sort_unstable_by_key.ensures.sorted
      (λ a r q k. search rules);
  holds = subst (λ nodes. HoldsLinks own (all ++ links_to_nodes own c.args.kind nodes) c.put_nodes.new.self)
      c.deref.ensures.value (c.in_ok-put_nodes.ensures own all holds);
}
