use Rattle.std.proofs.Common.{ap, sym}
use Rattle.toc_page.specs.Toc.{href_to}
use Rattle.toc_page.proofs.LabelLaws.{ok_as}
use Rattle.toc_page.proofs.NameLaws.{local_stays}
use Rattle.toc_page.proofs.AskedLaws.{page_local}
use Rattle.toc_page.proofs.href.href_by.Goals as goal

pub returns-in-Local-clause-known : goal.returns-in-Local-clause-known
returns-in-Local-clause-known g c = λ world agrees.
    ok_as c.page_href.result _ _
    (sym (ap (href_to (g.A.Reader.stand c.args.asker.now).setting.pages c.args.plan.now c.args.node.now) c.in-Local.is))
    (c.page_href.ensures.known world agrees)

pub returns-in-Local-clause-only : goal.returns-in-Local-clause-only
returns-in-Local-clause-only g c = page_local c.page_href.result c.args.plan.now c.args.node.now c.args.target.now _ _ _ _
    c.in-Local.is c.page_href.ensures.only

pub returns-in-Local-clause-founded : goal.returns-in-Local-clause-founded
returns-in-Local-clause-founded g c =
    local_stays c.args.target.now _ _ _ _ c.in-Local.is c.page_href.ensures.founded
