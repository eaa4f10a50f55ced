use Rattle.std.proofs.Common.{◌≡◌, ◌++◌}
use Rattle.std.specs.List.{flat_map}
use Rattle.html_spec.specs.Terms.{index_link, pages_ended, index_pages}
use Rattle.index_page.specs.Rows.{entries_of}
use Rattle.index_page.proofs.items.append_links.Given as goal

abbrev pub invariant-loop-page : goal.invariant-loop-page
invariant-loop-page l =
    let link = index_link (index_pages l.pages.plan.now l.pages.titles.now) in
    l.out ++ flat_map link l.page-iterator ≡ l.fn.out ++ flat_map link (pages_ended (entries_of l.rows))
