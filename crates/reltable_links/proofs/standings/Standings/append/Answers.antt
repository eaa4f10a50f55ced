use Rattle.std.proofs.Common.{◌++◌, ◌∙◌, ap, rules, subst, sym}
use Rattle.std.specs.List.Sorted.{IsNonDecreasingBy}
use Rattle.std.proofs.lemmas.List.Sorted.{IsNonDecreasingBy-from_sort_by_key}
use Rattle.dita_doc.specs.declared.content.LinkKind.TheVariants as links
use Rattle.link_groups.specs.LinkLists.{HoldsLinks, links_to_nodes}
use Rattle.reltable_links.specs.Linked.{is_target_below}
use Rattle.std.specs.Prelude.{filter}
use Rattle.reltable_links.specs.declared.cells.RowCell.{RowCell}
use Rattle.reltable_links.proofs.ReachLaws.{linked_are}
use Rattle.reltable_links.proofs.standings.Standings.append.Goals as goal

pub returns : goal.returns
returns c = λ cells all are rise holds.
    let nodes = c.args.nodes.now in
    let page = c.args.page in
    let ordered = c.sort_unstable_by_key.new.self.items in
    let same = c.deref.ensures.value in
    let order = IsNonDecreasingBy-from_sort_by_key (λ (cell : RowCell). cell.at) ordered
    c.sort_unstable_by_key.ensures.sorted (λ a r q k. search rules) in
    subst (λ some. HoldsLinks page (all ++ links_to_nodes page links.Related some) c.append_below.new.links)
    (ap (λ l. filter (is_target_below l) nodes) same
    ∙ linked_are cells nodes c.args.self.now are page c.in_ok-linked.linked.items ordered
    c.sort_unstable_by_key.ensures.permutation c.in_ok-linked.ensures)
    (c.in_ok-append_below.ensures page all rise
    (subst (IsNonDecreasingBy (λ (cell : RowCell). cell.at)) (sym same) order)
    holds)
