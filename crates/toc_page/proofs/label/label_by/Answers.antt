use Rattle.toc_page.proofs.NameLaws.{local_stays}
use Rattle.toc_page.proofs.AskedLaws.{title_local}
use Rattle.toc_page.proofs.label.label_by.Goals as goal

pub returns-in-Local-clause-only : goal.returns-in-Local-clause-only
returns-in-Local-clause-only g c = title_local c.document_title.result c.args.target.now _ _ _ _ c.in-Local.is
    c.document_title.ensures.told

pub returns-in-Local-clause-founded : goal.returns-in-Local-clause-founded
returns-in-Local-clause-founded g c =
    local_stays c.args.target.now _ _ _ _ c.in-Local.is c.document_title.ensures.founded
