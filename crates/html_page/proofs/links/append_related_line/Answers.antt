use Rattle.html_spec.specs.PageHtml.{link_item}
use Rattle.html_page.proofs.PieceLaws.{appended_last, piece_more}
use Rattle.html_page.proofs.RelatedLaws.{related_written}
use Rattle.html_page.proofs.links.append_related_line.Goals as goal

pub loop-link-preserved : goal.loop-link-preserved
loop-link-preserved c =
    piece_more link_item _ _ _ _ _ _ c.loop-link-test.true c.link-item.is c.loop-link.invariant
    c.in_ok-append_item.ensures

pub returns : goal.returns
returns c =
    let some = rw c.is_empty.ensures at c.if-is_empty.false in
    let written = rw c.in_ok-append.ensures at c.loop-link.invariant in
    appended_last c.append-2.result _ c.append-2.new.self _ _ c.append-2.ensures
    (related_written c.args.out.now _ c.args.links.now c.loop-link.link-index some c.loop-link-test.false written)
