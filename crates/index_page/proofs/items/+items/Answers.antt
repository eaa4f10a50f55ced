use Rattle.std.proofs.Common.{◌≡◌, ◌-◌, ◌++◌, suc, ◌∙◌, ap, arith}
use Rattle.dita_doc.specs.HtmlEscapes.{escaped}
use Rattle.html_spec.specs.Terms.{item, items_of, index_pages}
use Rattle.index_page.specs.Rows.{entries_of}
use Rattle.index_page.proofs.GroupLaws.{items_written, written}
use Rattle.index_page.proofs.TextLaws.{item_ended, item_open}
use Rattle.index_page.proofs.items.+items.Goals as goal

pub append_item-returns-then-all_end : goal.append_item-returns-then-all_end
append_item-returns-then-all_end t c =
    let pages = index_pages c.args.pages.plan.now c.args.pages.titles.now in
    item_ended pages (items_of c.args.levels pages) c.args.text.now c.args.out.now c.args.rows.now
    c.append.new.self c.append_html.new.out c.append_links.new.out c.append-then-all_end.new.self
    c.in_ok-append.ensures
    (c.in_ok-append_html.ensures ∙ ap (λ text. c.append.new.self ++ escaped text) c.as_str.ensures)
    c.in_ok-append_links.ensures c.if-all_end.ensures c.in_ok-append-2.ensures

pub append_item-returns : goal.append_item-returns
append_item-returns t c =
    let pages = index_pages c.args.pages.plan.now c.args.pages.titles.now in
    item_open pages (items_of c.args.levels pages) c.args.text.now c.args.out.now c.args.rows.now
    c.append.new.self c.append_html.new.out c.append_links.new.out c.append-2.new.self c.append_items.new.out
    c.append-3.new.self c.in_ok-append.ensures
    (c.in_ok-append_html.ensures ∙ ap (λ text. c.append.new.self ++ escaped text) c.as_str.ensures)
    c.in_ok-append_links.ensures c.if-all_end.ensures c.in_ok-append-3.ensures c.in_ok-append_items.ensures
    c.in_ok-append-4.ensures

pub append_items-loop-text-init : goal.append_items-loop-text-init
append_items-loop-text-init t c =
    let pages = index_pages c.args.pages.plan.now c.args.pages.titles.now in
    let levels = c.args.levels in
    let entries = entries_of c.args.rows.now in
    let groups = c.in_ok-groups.groups.entries in
    let gives = c.into_iter-text-iterator.ensures.into_iter_gives in
    let one_more : suc (levels - 1) ≡ levels = omega arith in
    ap (λ more. c.args.out.now ++ more)
    (ap (written (item pages (items_of (levels - 1) pages))) gives.0
    ∙ items_written pages (levels - 1) entries groups c.in_ok-groups.ensures gives.6
    ∙ ap (λ n. items_of n pages entries) one_more)
