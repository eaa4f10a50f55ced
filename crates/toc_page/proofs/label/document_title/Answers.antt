use Rattle.toc_page.proofs.AskedLaws.{title_empty}
use Rattle.toc_page.proofs.label.document_title.Goals as goal

pub returns-clause-told : goal.returns-clause-told
returns-clause-told g c =
    title_empty c.title.result c.args.name.now c.new-no_topic.result _ _ c.new-no_topic.ensures c.title.ensures.told
