use Rattle.dita_doc.specs.declared.fact.Part.TheVariants as parts
use Rattle.fact_maker.proofs.PartReadyLaws.{links_at, right_at, tables_at}
use Rattle.fact_maker.proofs.maker.html_of.Goals as goal

pub page_made-requires-clause-tables : goal.page_made-requires-clause-tables
page_made-requires-clause-tables c = tables_at c.args.ready.now.ready c.input-ground.result.plan.now
    c.input-ground.ensures.plan c.deref-sources.result.now c.deref-sources.ensures c.deref.result.now c.deref.ensures

pub page_made-requires-clause-links : goal.page_made-requires-clause-links
page_made-requires-clause-links c = links_at c.args.ready.now.ready c.input-ground.result.plan.now
    c.input-ground.ensures.plan c.deref-sources.result.now c.deref-sources.ensures

pub contents_made-requires-clause-tables : goal.contents_made-requires-clause-tables
contents_made-requires-clause-tables c = tables_at c.args.ready.now.ready c.input-ground.result.plan.now
    c.input-ground.ensures.plan c.deref-sources.result.now c.deref-sources.ensures c.deref-in-Contents.result.now
    c.deref-in-Contents.ensures

pub returns-in-Page-clause-right : goal.returns-in-Page-clause-right
returns-in-Page-clause-right c = right_at c.args.ready.now.ready c.input-ground.result c.input-ground.ensures.map
    c.input-ground.ensures.val c.input-ground.ensures.plan c.deref-sources.result.now c.deref-sources.ensures
    (parts.Page c.in-Page.index) c.args.part c.in-Page.is c.page_made.result c.page_made.ensures.right

pub returns-in-Contents-clause-right : goal.returns-in-Contents-clause-right
returns-in-Contents-clause-right c = right_at c.args.ready.now.ready c.input-ground.result c.input-ground.ensures.map
    c.input-ground.ensures.val c.input-ground.ensures.plan c.deref-sources.result.now c.deref-sources.ensures
    parts.Contents c.args.part c.in-Contents.is c.contents_made.result c.contents_made.ensures.right
