use Rattle.std.proofs.Common.{◌≡◌, ◌+◌, ◌-◌, ◌*◌, ◌++◌}
use Rattle.html_spec.specs.Terms.{item, items_of, index_pages}
use Rattle.index_page.specs.Rows.{entries_of}
use Rattle.index_page.proofs.GroupLaws.{written}
use Rattle.index_page.proofs.items.+items.Given as goal

abbrev pub decreases-append_items : goal.decreases-append_items
decreases-append_items l = 2 * l.levels

abbrev pub decreases-append_item : goal.decreases-append_item
decreases-append_item l = 2 * l.levels + 1

abbrev pub invariant-append_items-loop-text : goal.invariant-append_items-loop-text
invariant-append_items-loop-text l =
    let pages = index_pages l.pages.plan.now l.pages.titles.now in
    l.out ++ written (item pages (items_of (l.levels - 1) pages)) l.text-iterator
    ≡ l.fn.out ++ items_of l.levels pages (entries_of l.rows)
