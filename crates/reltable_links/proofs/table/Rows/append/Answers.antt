use Rattle.std.specs.List.Sorted.{IsNonDecreasingBy}
use Rattle.std.proofs.Common.{◌∙◌, subst, sym}
use Rattle.link_groups.specs.declared.link_nodes.LinkNode.{LinkNode}
use Rattle.reltable_links.specs.Standings.{AreStandings}
use Rattle.reltable_links.proofs.TableLaws.{appended, nodes_rise}
use Rattle.reltable_links.proofs.table.Rows.append.Goals as goal

pub returns : goal.returns
returns c = λ world plan all are holds.
    let rows = c.args.self.now in
    let cells = rows.cells.cells.items in
    let nodes = c.deref.result.now in
    let same = c.deref.ensures.value in
    appended world plan c.args.page all cells nodes c.append.new.links are.tree are.cells.cells (same ∙ are.cells.nodes)
    (c.in_ok-append.ensures cells all (subst (λ ns. AreStandings cells ns rows.standings) (sym same) are.standings)
    (subst (IsNonDecreasingBy (λ (node : LinkNode). node.at)) (sym (same ∙ are.cells.nodes)) (nodes_rise world plan))
    holds)
