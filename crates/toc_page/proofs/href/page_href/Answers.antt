use Rattle.toc_page.proofs.AskedLaws.{page_asked}
use Rattle.toc_page.proofs.href.page_href.Goals as goal

pub returns-clause-only : goal.returns-clause-only
returns-clause-only g c = page_asked _ _ c.args.name.now _ _ _ _ _
    c.in_ok-context.ensures.whole c.in_ok-page.ensures.told
