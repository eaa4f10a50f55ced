use Rattle.std.proofs.Common.{[], ◌++◌, ◌∙◌, ap}
use Rattle.dita_doc.specs.declared.content.LinkKind.TheVariants as links
use Rattle.family_links.specs.Collected.{links_by_collections}
use Rattle.link_spec.specs.Links.{links_of_kind, page_links}
use Rattle.node_links.proofs.NodeLaws.{both_are}
use Rattle.node_links.proofs.table.NodeLinks.of_page.Goals as goal

pub returns-clause-known : goal.returns-clause-known
returns-clause-known g c = λ world agrees are.
    let plan = c.args.plan.now in
    let page = c.args.page in
    let some = links_by_collections world plan page in
    let held = c.in_ok-append.ensures world plan [] are.collections c.new-links.ensures in
    let all = c.in_ok-append-2.ensures world plan some are.rows held in
    c.in_ok-shown.ensures.known world page (some ++ links_of_kind world plan page links.Related) agrees all
    ∙ ap (page_links world plan page) (both_are world plan page)

pub returns-clause-only : goal.returns-clause-only
returns-clause-only g c = c.in_ok-shown.ensures.only
