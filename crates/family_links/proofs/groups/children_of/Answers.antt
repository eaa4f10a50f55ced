use Rattle.std.proofs.Common.{[], ◌∙◌, ◌<◌, ap, arith, length, refl, subst}
use Rattle.readers.proofs.GrowthLaws.{agrees_before, grows_same, grows_trans}
use Rattle.link_groups.specs.LinkNodes.{link_node_at}
use Rattle.family_links.specs.Grouped.{IsPutBelow}
use Rattle.family_links.proofs.MadeLaws.{all_children, child_more, no_children, node_there}
use Rattle.readers.specs.Documents.{nothing}
use Rattle.readers.proofs.DocumentLaws.{asks_after, asks_same}
use Rattle.readers.proofs.FoundedLaws.{stays_after, stays_same}
use Rattle.readers.proofs.OnlyLaws.{only_after, only_same}
use Rattle.family_links.proofs.groups.children_of.Goals as goal

pub loop-at-init : goal.loop-at-init
loop-at-init g c = record {
  children = λ world agrees values pages kinds known.
      no_children world c.args.plan.now c.new-children.result.entries c.args.link_nodes.now c.new-children.ensures.empty
      known;
  stand = refl;
  founded = stays_same _ _ _ refl;
  asks = asks_same _ _ _ _ refl;
  only = only_same _ _ _ refl;
  grows = grows_same _;
}

pub loop-at-preserved : goal.loop-at-preserved
loop-at-preserved g c = record {
  children = λ world agrees values pages kinds known.
      (let at = c.loop-at.at in
      let nodes = c.args.plan.now.nodes in
      let count = ap length c.as_slice-nodes.ensures in
      let within : at < length nodes = omega (arith, c.loop-at-test.true, count) in
      let there = node_there nodes c.as_slice-nodes.result.now at c.index-nodes-at.result c.as_slice-nodes.ensures
      c.loop-at-test.true c.index-nodes-at.is in
      let before = c.loop-at.invariant.children world
      (agrees_before world _ _ c.in_ok-put_child.ensures.grows agrees) values pages kinds known in
      let put = c.in_ok-put_child.ensures.known world agrees values
      (ap (λ stand. stand.setting.pages) c.loop-at.invariant.stand ∙ pages) before.kept in
      child_more world c.args.plan.now at c.index-nodes-at.result c.args.kinds.now c.loop-at.children.entries
      c.put_child.new.children.entries c.loop-at.link_nodes c.put_child.new.link_nodes kinds there within before
      (subst (λ parent. IsPutBelow parent (link_node_at world c.args.plan.now at) c.loop-at.children.entries
      c.put_child.new.children.entries) c.parent_of-parent.ensures put.0) put.1);
  stand = c.in_ok-put_child.ensures.stand ∙ c.loop-at.invariant.stand;
  founded = stays_after _ _ _ _ c.loop-at.invariant.grows c.loop-at.invariant.founded c.in_ok-put_child.ensures.founded;
  asks = asks_after nothing [] _ _ _ c.loop-at.invariant.grows c.loop-at.invariant.asks c.in_ok-put_child.ensures.asks;
  only = only_after _ _ _ _ c.loop-at.invariant.only c.in_ok-put_child.ensures.only;
  grows = grows_trans _ _ _ c.loop-at.invariant.grows c.in_ok-put_child.ensures.grows;
}

pub returns-clause-known : goal.returns-clause-known
returns-clause-known g c = λ world agrees values pages kinds known.
    let count = ap length c.as_slice-nodes.ensures in
    all_children world c.args.plan.now c.loop-at.at c.loop-at.children.entries c.loop-at.link_nodes
    (omega (arith, c.loop-at-test.false, count))
    (c.loop-at.invariant.children world agrees values pages kinds known)

pub returns-in_err-put_child-clause-stand : goal.returns-in_err-put_child-clause-stand
returns-in_err-put_child-clause-stand g c = c.put_child.ensures.stand ∙ c.loop-at.invariant.stand

pub returns-in_err-put_child-clause-founded : goal.returns-in_err-put_child-clause-founded
returns-in_err-put_child-clause-founded g c =
    stays_after _ _ _ _ c.loop-at.invariant.grows c.loop-at.invariant.founded c.put_child.ensures.founded

pub returns-in_err-put_child-clause-asks : goal.returns-in_err-put_child-clause-asks
returns-in_err-put_child-clause-asks g c =
    asks_after nothing [] _ _ _ c.loop-at.invariant.grows c.loop-at.invariant.asks c.put_child.ensures.asks

pub returns-in_err-put_child-clause-grows : goal.returns-in_err-put_child-clause-grows
returns-in_err-put_child-clause-grows g c = grows_trans _ _ _ c.loop-at.invariant.grows c.put_child.ensures.grows

pub returns-clause-stand : goal.returns-clause-stand
returns-clause-stand g c = c.loop-at.invariant.stand

pub returns-clause-founded : goal.returns-clause-founded
returns-clause-founded g c = c.loop-at.invariant.founded

pub returns-clause-asks : goal.returns-clause-asks
returns-clause-asks g c = c.loop-at.invariant.asks

pub returns-clause-grows : goal.returns-clause-grows
returns-clause-grows g c = c.loop-at.invariant.grows

pub returns-clause-only : goal.returns-clause-only
returns-clause-only g c = c.loop-at.invariant.only
