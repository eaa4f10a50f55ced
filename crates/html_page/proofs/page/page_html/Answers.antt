use Rattle.std.proofs.Common.{◌∙◌}
use Rattle.html_spec.specs.PageHtml.{page_limit, page_text}
use Rattle.html_page.proofs.PageLaws.{page_instead, page_whole}
use Rattle.html_page.proofs.page.page_html.Goals as goal

pub returns-then-len-le-PAGE_LIMIT : goal.returns-then-len-le-PAGE_LIMIT
returns-then-len-le-PAGE_LIMIT c =
    page_whole page_limit c.args.name.now c.args.line c.args.title.now c.args.body.now c.args.links.now
    c.in_ok-bytes.bytes c.len.result
    (c.in_ok-bytes.ensures ∙ (λ i. page_text c.args.title.now (c.as_slice.ensures i) (c.as_slice-2.ensures i)))
    c.len.ensures.length c.in_ok-faults.faults
    (c.in_ok-faults.ensures ∙ c.as_slice-then-len-le-PAGE_LIMIT.ensures)
    c.if-len-le-PAGE_LIMIT.true

pub returns : goal.returns
returns c =
    page_instead page_limit c.args.name.now c.args.line c.args.title.now c.args.body.now c.args.links.now
    c.in_ok-bytes.bytes c.len.result
    (c.in_ok-bytes.ensures ∙ (λ i. page_text c.args.title.now (c.as_slice.ensures i) (c.as_slice-2.ensures i)))
    c.len.ensures.length c.large_page.result c.if-len-le-PAGE_LIMIT.false c.large_page.ensures
