use Rattle.std.proofs.Common.{[], ◌∙◌, ◌<◌, ap, arith, length, refl, subst}
use Rattle.dita_doc.proofs.Lists.{some_at}
use Rattle.readers.specs.Setting.{Stand}
use Rattle.readers.proofs.GrowthLaws.{agrees_before, grows_same, grows_trans}
use Rattle.reltable_links.specs.CellTable.{AreCellsOf}
use Rattle.readers.specs.Documents.{nothing}
use Rattle.readers.proofs.DocumentLaws.{asks_after, asks_same}
use Rattle.readers.proofs.FoundedLaws.{stays_after, stays_same}
use Rattle.readers.proofs.OnlyLaws.{only_after, only_same}
use Rattle.reltable_links.proofs.StepLaws.{cells_more, take_places}
use Rattle.reltable_links.proofs.cells.Cells.of.Goals as goal

pub loop-at-init : goal.loop-at-init
loop-at-init g c = record {
  found = λ world agrees ready nodes. (c.new-cells.ensures world c.args.plan.now, nodes);
  stand = refl;
  founded = stays_same _ _ _ refl;
  asks = asks_same _ _ _ _ refl;
  only = only_same _ _ _ refl;
  grows = grows_same _;
}

pub loop-at-preserved : goal.loop-at-preserved
loop-at-preserved g c = record {
  found = λ world agrees ready nodes.
      (let plan = c.args.plan.now in
      let at = c.loop-at.at in
      let before = c.loop-at.invariant.found world (agrees_before world _ _ c.in_ok-put_node.ensures.grows agrees) ready
      nodes in
      let put = c.in_ok-put_node.ensures.known world agrees ready.values
      (ap (λ (s : Stand). s.setting.pages) c.loop-at.invariant.stand ∙ ready.pages) before.1 in
      let long = ap length c.as_slice-at-end.ensures in
      let within : at < length plan.nodes = omega (arith, c.loop-at-test.true, long) in
      let node = some_at plan.nodes at within in (
        cells_more world plan ready.tree at node.0 c.loop-at.cells c.put_node.new.self c.put_cell.new.self node.1 within
            before.0 put.0 (c.in_ok-put_cell.ensures world ready.homes),
        put.1,
      ));
  stand = c.in_ok-put_node.ensures.stand ∙ c.loop-at.invariant.stand;
  founded = stays_after _ _ _ _ c.loop-at.invariant.grows c.loop-at.invariant.founded c.in_ok-put_node.ensures.founded;
  asks = asks_after nothing [] _ _ _ c.loop-at.invariant.grows c.loop-at.invariant.asks c.in_ok-put_node.ensures.asks;
  only = only_after _ _ _ _ c.loop-at.invariant.only c.in_ok-put_node.ensures.only;
  grows = grows_trans _ _ _ c.loop-at.invariant.grows c.in_ok-put_node.ensures.grows;
}

pub returns-clause-known : goal.returns-clause-known
returns-clause-known g c = λ world agrees ready nodes.
    let plan = c.args.plan.now in
    let found = c.loop-at.invariant.found world agrees ready nodes in
    let long = ap length c.as_slice-at-end.ensures in (
      subst (λ places. AreCellsOf world plan places c.loop-at.cells)
          (take_places plan.nodes c.loop-at.at (omega (arith, c.loop-at-test.false, long))) found.0,
      found.1,
    )

pub returns-in_err-put_node-clause-stand : goal.returns-in_err-put_node-clause-stand
returns-in_err-put_node-clause-stand g c = c.put_node.ensures.stand ∙ c.loop-at.invariant.stand

pub returns-in_err-put_node-clause-founded : goal.returns-in_err-put_node-clause-founded
returns-in_err-put_node-clause-founded g c =
    stays_after _ _ _ _ c.loop-at.invariant.grows c.loop-at.invariant.founded c.put_node.ensures.founded

pub returns-in_err-put_node-clause-asks : goal.returns-in_err-put_node-clause-asks
returns-in_err-put_node-clause-asks g c =
    asks_after nothing [] _ _ _ c.loop-at.invariant.grows c.loop-at.invariant.asks c.put_node.ensures.asks

pub returns-in_err-put_node-clause-grows : goal.returns-in_err-put_node-clause-grows
returns-in_err-put_node-clause-grows g c = grows_trans _ _ _ c.loop-at.invariant.grows c.put_node.ensures.grows

pub returns-in_err-put_cell-clause-stand : goal.returns-in_err-put_cell-clause-stand
returns-in_err-put_cell-clause-stand g c = c.put_node.ensures.stand ∙ c.loop-at.invariant.stand

pub returns-in_err-put_cell-clause-founded : goal.returns-in_err-put_cell-clause-founded
returns-in_err-put_cell-clause-founded g c =
    stays_after _ _ _ _ c.loop-at.invariant.grows c.loop-at.invariant.founded c.put_node.ensures.founded

pub returns-in_err-put_cell-clause-asks : goal.returns-in_err-put_cell-clause-asks
returns-in_err-put_cell-clause-asks g c =
    asks_after nothing [] _ _ _ c.loop-at.invariant.grows c.loop-at.invariant.asks c.put_node.ensures.asks

pub returns-in_err-put_cell-clause-grows : goal.returns-in_err-put_cell-clause-grows
returns-in_err-put_cell-clause-grows g c = grows_trans _ _ _ c.loop-at.invariant.grows c.put_node.ensures.grows

pub returns-clause-stand : goal.returns-clause-stand
returns-clause-stand g c = c.loop-at.invariant.stand

pub returns-clause-founded : goal.returns-clause-founded
returns-clause-founded g c = c.loop-at.invariant.founded

pub returns-clause-asks : goal.returns-clause-asks
returns-clause-asks g c = c.loop-at.invariant.asks

pub returns-clause-grows : goal.returns-clause-grows
returns-clause-grows g c = c.loop-at.invariant.grows

pub returns-clause-only : goal.returns-clause-only
returns-clause-only g c = c.loop-at.invariant.only
