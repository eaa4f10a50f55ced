use Rattle.std.specs.Prelude.{◌≡◌, ◌++◌, ◌∷◌, IfOk, OnOk}
use Rattle.std.proofs.Common.{sym, subst}
use Rattle.conref_targets.specs.Asking.{of_content}
use Rattle.conref_pull.specs.Resolved.{IsResolved, page_made}
use Rattle.conref_targets.specs.Rules.{all_kept, ditavals}
use Rattle.conref_targets.specs.ResolveInput.{documents_in}
use Rattle.conref_targets.specs.Tables.{AreTables}
use Rattle.dita_doc.specs.declared.content.Resolved.{Resolved}
use Rattle.dita_doc.specs.declared.plan.Context.{Context}
use Rattle.readers.specs.Documents.{AsksOnly}
use Rattle.readers.specs.Founded.{StaysFounded, homes}
use Rattle.readers.specs.Setting.{Setting}
use Rattle.clean_build.specs.Bodies.{content_of, rules_for}
use Rattle.conref_targets.specs.PageAsking.{AsksPage, page_at}
use Rattle.clean_build.proofs.content.resolved_for.Goals as goal

pub returns-clause-known : goal.returns-clause-known
returns-clause-known g c = λ world plan agrees made known.
    let context = c.deref.result.now in
    let places = subst (λ (s : Setting). AreTables (documents_in world s) c.args.tables.now.places) (sym made) known.places in
    subst (λ (of : Context). IfOk c.resolve_page_with.result (λ (it : Resolved). IsResolved it (content_of world plan of)))
    c.deref.ensures (subst (λ (s : Setting). IfOk c.resolve_page_with.result (λ (it : Resolved).
    IsResolved it (page_made world s context.val context.page))) made
    (c.resolve_page_with.ensures.known world agrees known.rules places))

pub returns-clause-kept : goal.returns-clause-kept
returns-clause-kept g c = c.resolve_page_with.ensures.kept

pub returns-clause-places : goal.returns-clause-places
returns-clause-places g c = λ world plan agrees made known.
    let tables = c.resolve_page_with.new.tables in
    let places = subst (λ (s : Setting). AreTables (documents_in world s) c.args.tables.now.places) (sym made) known.places in
    subst (λ (s : Setting). OnOk c.resolve_page_with.result (AreTables (documents_in world s) tables.places)) made
    (c.resolve_page_with.ensures.places world agrees known.rules places)

pub returns-clause-rules : goal.returns-clause-rules
returns-clause-rules g c = λ are world agrees. subst (λ (of : Context). OnOk c.resolve_page_with.result
    (all_kept c.resolve_page_with.new.tables.rules (ditavals of.val of.page.filters) ≡ rules_for world of))
    c.deref.ensures (c.resolve_page_with.ensures.rules are world agrees)

pub returns-clause-founded : goal.returns-clause-founded
returns-clause-founded g c = subst (λ (of : Context).
    StaysFounded (homes (g.A.Reader.stand c.args.asker.now).setting.nodes
    ++ of.page.doc ∷ ditavals of.val of.page.filters) (g.A.Reader.told c.args.asker.now)
    (g.A.Reader.told c.resolve_page_with.new.asker)) c.deref.ensures c.resolve_page_with.ensures.founded

pub returns-clause-asks : goal.returns-clause-asks
returns-clause-asks g c = subst (λ (of : Context).
    AsksOnly of_content (of.page.doc ∷ ditavals of.val of.page.filters) (g.A.Reader.told c.args.asker.now)
    (g.A.Reader.told c.resolve_page_with.new.asker)) c.deref.ensures c.resolve_page_with.ensures.asks

pub returns-clause-only : goal.returns-clause-only
returns-clause-only g c = λ world agrees. subst (λ (of : Context). OnOk c.resolve_page_with.result
    (AsksPage (page_at world (g.A.Reader.stand c.args.asker.now).setting of.val of.page)
    (g.A.Reader.told c.args.asker.now) (g.A.Reader.told c.resolve_page_with.new.asker))) c.deref.ensures
    (c.resolve_page_with.ensures.only world agrees)
