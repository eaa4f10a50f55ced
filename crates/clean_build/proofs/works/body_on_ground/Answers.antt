use Rattle.std.specs.Prelude.{◌++◌, ◌∷◌, IfOk, OnOk}
use Rattle.std.proofs.Common.{refl, sym, subst}
use Rattle.conref_targets.specs.Rules.{ditavals}
use Rattle.dita_doc.specs.declared.plan.Context.{Context}
use Rattle.readers.proofs.FoundedLaws.{stays_same}
use Rattle.readers.specs.Founded.{StaysFounded, homes}
use Rattle.xref_links.specs.Here.{IsPageOf}
use Rattle.clean_build.specs.Bodies.{IsBodyMade}
use Rattle.clean_build.proofs.ReadyLaws.{is_page}
use Rattle.conref_targets.specs.Asking.{of_content}
use Rattle.readers.proofs.DocumentLaws.{asks_same}
use Rattle.readers.specs.Documents.{AsksOnly}
use Rattle.clean_build.specs.Reads.{MayReadFor, ReadsOnly}
use Rattle.clean_build.proofs.works.body_on_ground.Goals as goal

pub returns-clause-known : goal.returns-clause-known
returns-clause-known g c = λ world index agrees ready there known.
    let ground = c.args.ground in
    let plan = ground.plan.now in
    let page = c.args.page.now in
    subst (λ (context : Context). IfOk c.page_body.result (IsBodyMade (g.A.Reader.stand c.args.asker.now).world
    world plan context page index c.args.behind c.args.number))
    c.in_ok-context.ensures
    (c.page_body.ensures.known world page index agrees ready.made
    (subst (λ (context : Context). IsPageOf plan context page index) (sym c.in_ok-context.ensures)
    (is_page world ground _ ready page index there)) known)

pub returns-clause-kept : goal.returns-clause-kept
returns-clause-kept g c = c.page_body.ensures.kept

pub returns-in_err-context-clause-founded : goal.returns-in_err-context-clause-founded
returns-in_err-context-clause-founded g c = stays_same _ _ _ refl

pub returns-clause-founded : goal.returns-clause-founded
returns-clause-founded g c = subst (λ (context : Context).
    StaysFounded (homes (g.A.Reader.stand c.args.asker.now).setting.nodes
    ++ context.page.doc ∷ ditavals context.val context.page.filters) (g.A.Reader.told c.args.asker.now)
    (g.A.Reader.told c.page_body.new.asker)) c.in_ok-context.ensures c.page_body.ensures.founded

pub returns-in_err-context-clause-asks : goal.returns-in_err-context-clause-asks
returns-in_err-context-clause-asks g c = asks_same _ _ _ _ refl

pub returns-clause-asks : goal.returns-clause-asks
returns-clause-asks g c = subst (λ (context : Context).
    AsksOnly of_content (context.page.doc ∷ ditavals context.val context.page.filters)
    (g.A.Reader.told c.args.asker.now) (g.A.Reader.told c.page_body.new.asker)) c.in_ok-context.ensures
    c.page_body.ensures.asks

pub returns-clause-only : goal.returns-clause-only
returns-clause-only g c = λ world agrees. subst (λ (context : Context). OnOk c.page_body.result
    (ReadsOnly (MayReadFor world (g.A.Reader.stand c.args.asker.now).setting context)
    (g.A.Reader.told c.args.asker.now) (g.A.Reader.told c.page_body.new.asker))) c.in_ok-context.ensures
    (c.page_body.ensures.only world agrees)
