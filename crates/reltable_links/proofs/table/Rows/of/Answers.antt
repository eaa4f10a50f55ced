use Rattle.std.specs.List.Sorted.{IsNonDecreasingBy}
use Rattle.std.proofs.Common.{◌∙◌, subst, sym}
use Rattle.link_groups.specs.declared.link_nodes.LinkNode.{LinkNode}
use Rattle.reltable_links.specs.Standings.{AreStandings}
use Rattle.reltable_links.proofs.TableLaws.{nodes_rise}
use Rattle.reltable_links.proofs.table.Rows.of.Goals as goal

pub returns-clause-known : goal.returns-clause-known
returns-clause-known g c = λ world agrees can homes known.
    let plan = c.args.plan.now in
    let cells = c.in_ok-cells.cells in
    let found = c.in_ok-cells.ensures.known world agrees
    (record { tree = can.tree; values = can.values; pages = can.pages; homes = homes }) known in
    record {
      are = record {
        tree = can.tree;
        cells = found.0;
        standings = subst (λ nodes. AreStandings cells.cells.items nodes c.in_ok-standings.standings)
            c.deref-2.ensures.value
            (subst (λ cs. AreStandings cs c.deref-2.result.now c.in_ok-standings.standings) c.deref.ensures.value
            (c.in_ok-standings.ensures (subst (IsNonDecreasingBy (λ (node : LinkNode). node.at))
            (sym (c.deref-2.ensures.value ∙ found.0.nodes)) (nodes_rise world plan))));
      };
      kept = found.1;
    }

pub returns-in_err-cells-clause-stand : goal.returns-in_err-cells-clause-stand
returns-in_err-cells-clause-stand g c = c.of.ensures.stand

pub returns-in_err-cells-clause-founded : goal.returns-in_err-cells-clause-founded
returns-in_err-cells-clause-founded g c = c.of.ensures.founded

pub returns-in_err-cells-clause-asks : goal.returns-in_err-cells-clause-asks
returns-in_err-cells-clause-asks g c = c.of.ensures.asks

pub returns-in_err-cells-clause-grows : goal.returns-in_err-cells-clause-grows
returns-in_err-cells-clause-grows g c = c.of.ensures.grows

pub returns-in_err-standings-clause-stand : goal.returns-in_err-standings-clause-stand
returns-in_err-standings-clause-stand g c = c.of.ensures.stand

pub returns-in_err-standings-clause-founded : goal.returns-in_err-standings-clause-founded
returns-in_err-standings-clause-founded g c = c.of.ensures.founded

pub returns-in_err-standings-clause-asks : goal.returns-in_err-standings-clause-asks
returns-in_err-standings-clause-asks g c = c.of.ensures.asks

pub returns-in_err-standings-clause-grows : goal.returns-in_err-standings-clause-grows
returns-in_err-standings-clause-grows g c = c.of.ensures.grows

pub returns-clause-stand : goal.returns-clause-stand
returns-clause-stand g c = c.of.ensures.stand

pub returns-clause-founded : goal.returns-clause-founded
returns-clause-founded g c = c.of.ensures.founded

pub returns-clause-asks : goal.returns-clause-asks
returns-clause-asks g c = c.of.ensures.asks

pub returns-clause-grows : goal.returns-clause-grows
returns-clause-grows g c = c.of.ensures.grows

pub returns-clause-only : goal.returns-clause-only
returns-clause-only g c = c.in_ok-cells.ensures.only
