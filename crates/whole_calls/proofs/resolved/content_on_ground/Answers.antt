use Rattle.std.specs.Prelude.{◌++◌, ◌∷◌, IfOk}
use Rattle.std.proofs.Common.{refl, subst}
use Rattle.conref_targets.specs.Asking.{of_content}
use Rattle.conref_pull.specs.Resolved.{IsResolved}
use Rattle.conref_targets.specs.Rules.{ditavals}
use Rattle.dita_doc.specs.declared.content.Resolved.{Resolved}
use Rattle.dita_doc.specs.declared.plan.Context.{Context}
use Rattle.map_spec.specs.Pushes.{pushed}
use Rattle.readers.proofs.DocumentLaws.{asks_same}
use Rattle.readers.proofs.FoundedLaws.{stays_same}
use Rattle.readers.specs.Documents.{AsksOnly}
use Rattle.readers.specs.Founded.{StaysFounded, homes}
use Rattle.clean_build.specs.Bodies.{content_of}
use Rattle.whole_calls.proofs.resolved.content_on_ground.Goals as goal

pub returns-clause-known : goal.returns-clause-known
returns-clause-known g c = λ world agrees ready.
    let plan = c.args.ground.plan.now in
    subst (λ (of : Context). IfOk c.resolved_for.result (λ (made : Resolved). IsResolved made (content_of world plan of)))
    c.in_ok-context.ensures (c.resolved_for.ensures.known world plan agrees ready.made (record {
      rules = c.new-tables.ensures.rules (g.A.Reader.stand c.args.asker.now).world;
      places = c.new-tables.ensures.places (pushed world plan.documents);
    }))

pub returns-in_err-context-clause-founded : goal.returns-in_err-context-clause-founded
returns-in_err-context-clause-founded g c = stays_same _ _ _ refl

pub returns-clause-founded : goal.returns-clause-founded
returns-clause-founded g c = subst (λ (of : Context).
    StaysFounded (homes (g.A.Reader.stand c.args.asker.now).setting.nodes
    ++ of.page.doc ∷ ditavals of.val of.page.filters) (g.A.Reader.told c.args.asker.now)
    (g.A.Reader.told c.resolved_for.new.asker)) c.in_ok-context.ensures c.resolved_for.ensures.founded

pub returns-in_err-context-clause-asks : goal.returns-in_err-context-clause-asks
returns-in_err-context-clause-asks g c = asks_same _ _ _ _ refl

pub returns-clause-asks : goal.returns-clause-asks
returns-clause-asks g c = subst (λ (of : Context).
    AsksOnly of_content (of.page.doc ∷ ditavals of.val of.page.filters) (g.A.Reader.told c.args.asker.now)
    (g.A.Reader.told c.resolved_for.new.asker)) c.in_ok-context.ensures c.resolved_for.ensures.asks
