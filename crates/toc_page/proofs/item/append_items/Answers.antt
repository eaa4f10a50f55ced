use Rattle.std.proofs.Common.{◌∙◌, ◌<◌, ap, arith, length}
use Rattle.readers.proofs.DocumentLaws.{asks_after}
use Rattle.readers.proofs.FoundedLaws.{stays_after}
use Rattle.readers.proofs.GrowthLaws.{agrees_before, grows_trans}
use Rattle.readers.specs.Setting.{Stand}
use Rattle.toc_page.proofs.ItemLaws.{walk_all, walk_node}
use Rattle.readers.proofs.OnlyLaws.{only_after}
use Rattle.toc_page.proofs.item.append_items.Goals as goal

pub loop-at-preserved : goal.loop-at-preserved
loop-at-preserved g c = record {
  known = λ world agrees is pages.
      (let before = c.loop-at.invariant.known world (agrees_before world _ _ c.in_ok-append_node.ensures.grows agrees) is
      pages in
      let step = c.in_ok-append_node.ensures.known world agrees is
      (ap (λ (s : Stand). s.setting.pages) c.loop-at.invariant.stand ∙ pages) in
      let long = c.len-count.ensures in
      let within : c.loop-at.at < length c.args.toc.plan.now.nodes = omega (arith, c.loop-at-test.true, long) in
      before
      ∙ walk_node world c.args.toc.plan.now c.loop-at.at c.loop-at.items c.append_node.new.items c.loop-at.out
      c.append_node.new.out within step);
  stand = c.in_ok-append_node.ensures.stand ∙ c.loop-at.invariant.stand;
  founded = stays_after _ _ _ _ c.loop-at.invariant.grows c.loop-at.invariant.founded
      c.in_ok-append_node.ensures.founded;
  asks = asks_after _ _ _ _ _ c.loop-at.invariant.grows c.loop-at.invariant.asks
      c.in_ok-append_node.ensures.asks;
  only = only_after _ _ _ _ c.loop-at.invariant.only c.in_ok-append_node.ensures.only;
  grows = grows_trans _ _ _ c.loop-at.invariant.grows c.in_ok-append_node.ensures.grows;
}

pub returns-in_err-append_node-clause-stand : goal.returns-in_err-append_node-clause-stand
returns-in_err-append_node-clause-stand g c = c.append_node.ensures.stand ∙ c.loop-at.invariant.stand

pub returns-in_err-append_node-clause-founded : goal.returns-in_err-append_node-clause-founded
returns-in_err-append_node-clause-founded g c = stays_after _ _ _ _ c.loop-at.invariant.grows c.loop-at.invariant.founded
    c.append_node.ensures.founded

pub returns-in_err-append_node-clause-asks : goal.returns-in_err-append_node-clause-asks
returns-in_err-append_node-clause-asks g c = asks_after _ _ _ _ _ c.loop-at.invariant.grows c.loop-at.invariant.asks
    c.append_node.ensures.asks

pub returns-in_err-append_node-clause-grows : goal.returns-in_err-append_node-clause-grows
returns-in_err-append_node-clause-grows g c = grows_trans _ _ _ c.loop-at.invariant.grows c.append_node.ensures.grows

pub returns-in_err-close-clause-stand : goal.returns-in_err-close-clause-stand
returns-in_err-close-clause-stand g c = c.loop-at.invariant.stand

pub returns-in_err-close-clause-founded : goal.returns-in_err-close-clause-founded
returns-in_err-close-clause-founded g c = c.loop-at.invariant.founded

pub returns-in_err-close-clause-asks : goal.returns-in_err-close-clause-asks
returns-in_err-close-clause-asks g c = c.loop-at.invariant.asks

pub returns-in_err-close-clause-grows : goal.returns-in_err-close-clause-grows
returns-in_err-close-clause-grows g c = c.loop-at.invariant.grows

pub returns-clause-stand : goal.returns-clause-stand
returns-clause-stand g c = c.loop-at.invariant.stand

pub returns-clause-founded : goal.returns-clause-founded
returns-clause-founded g c = c.loop-at.invariant.founded

pub returns-clause-asks : goal.returns-clause-asks
returns-clause-asks g c = c.loop-at.invariant.asks

pub returns-clause-grows : goal.returns-clause-grows
returns-clause-grows g c = c.loop-at.invariant.grows

pub returns-clause-known : goal.returns-clause-known
returns-clause-known g c = λ world agrees is pages tree.
    let long = c.len-count.ensures in
    walk_all world c.args.toc.plan.now c.loop-at.at c.loop-at.items c.args.out.now c.loop-at.out c.close.new.out tree
    (omega (arith, c.loop-at-test.false, long)) (c.loop-at.invariant.known world agrees is pages) c.in_ok-close.ensures

pub returns-clause-only : goal.returns-clause-only
returns-clause-only g c = c.loop-at.invariant.only
