use Rattle.std.specs.Prelude.{◌∷◌}
use Rattle.std.proofs.Common.{refl, ap, ◌∙◌}
use Rattle.dita_doc.specs.declared.plan.Context.{Context}
use Rattle.readers.proofs.DocumentLaws.{asks_same}
use Rattle.readers.proofs.FoundedLaws.{stays_same}
use Rattle.readers.proofs.GrowthLaws.{grows_same}
use Rattle.readers.specs.Told.{page_of}
use Rattle.link_groups.proofs.link_nodes.link_node_of.Goals as goal

pub returns-in_err-context-clause-stand : goal.returns-in_err-context-clause-stand
returns-in_err-context-clause-stand g c = refl

pub returns-in_err-context-clause-founded : goal.returns-in_err-context-clause-founded
returns-in_err-context-clause-founded g c = stays_same _ _ _ refl

pub returns-in_err-context-clause-asks : goal.returns-in_err-context-clause-asks
returns-in_err-context-clause-asks g c = asks_same _ _ _ _ refl

pub returns-in_err-context-clause-grows : goal.returns-in_err-context-clause-grows
returns-in_err-context-clause-grows g c = grows_same _

pub returns-in_err-page-clause-stand : goal.returns-in_err-page-clause-stand
returns-in_err-page-clause-stand g c = c.page_of.ensures.stand

pub returns-in_err-page-clause-founded : goal.returns-in_err-page-clause-founded
returns-in_err-page-clause-founded g c = c.page_of.ensures.founded

pub returns-in_err-page-clause-asks : goal.returns-in_err-page-clause-asks
returns-in_err-page-clause-asks g c = c.page_of.ensures.asks

pub returns-in_err-page-clause-grows : goal.returns-in_err-page-clause-grows
returns-in_err-page-clause-grows g c = c.page_of.ensures.grows

pub returns-clause-stand : goal.returns-clause-stand
returns-clause-stand g c = c.page_of.ensures.stand

pub returns-clause-founded : goal.returns-clause-founded
returns-clause-founded g c = c.page_of.ensures.founded

pub returns-clause-asks : goal.returns-clause-asks
returns-clause-asks g c = c.page_of.ensures.asks

pub returns-clause-grows : goal.returns-clause-grows
returns-clause-grows g c = c.page_of.ensures.grows

pub returns-clause-asked : goal.returns-clause-asked
returns-clause-asked g c = record {
  place = c.in_ok-page.page;
  is = c.in_ok-page.ensures.told ∙ ap (λ (context : Context). page_of (g.A.Reader.stand c.args.asker.now).setting.pages
      c.args.name.now context c.in_ok-page.page ∷ g.A.Reader.told c.args.asker.now) c.in_ok-context.ensures.whole;
}
