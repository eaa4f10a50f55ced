use Rattle.std.specs.Option.{option_copied, option_map_or}
use Rattle.std.specs.Prelude.{ℕ, [], IfOk, is_some, List, Option}
use Rattle.std.proofs.Common.{refl, sym, ap, subst}
use Rattle.conref_targets.specs.Asking.{of_content}
use Rattle.conref_pull.specs.Resolved.{IsResolved}
use Rattle.conref_spec.specs.Content.{Made}
use Rattle.dita_doc.specs.declared.content.Resolved.{Resolved}
use Rattle.dita_doc.specs.declared.plan.PagePlan.{PagePlan}
use Rattle.readers.proofs.DocumentLaws.{asks_same}
use Rattle.readers.proofs.FoundedLaws.{stays_same}
use Rattle.readers.specs.Documents.{AsksOnly}
use Rattle.clean_build.specs.Names.{names_of_content}
use Rattle.clean_build.proofs.NameLaws.{stays_page}
use Rattle.clean_build.proofs.PageLaws.{content_there}
use Rattle.clean_build.proofs.ReadyLaws.{ok_under}
use Rattle.clean_build.proofs.PartLaws.{page_at}
use Rattle.whole_calls.proofs.SingleLaws.{content_nowhere, nothing_at}
use Rattle.whole_calls.proofs.resolved.ContentWorkPlanTask.run.Goals as goal

pub returns-in_default-clause-known : goal.returns-in_default-clause-known
returns-in_default-clause-known g c = λ world agrees ready.
    let ground = c.args.self.ground in
    let index = c.args.self.index in
    subst (IsResolved c.no_content.result) (content_nowhere world ground.plan.now (option_copied ground.val) index
    (nothing_at ground.plan.now.pages c.as_slice.result.now index _ c.as_slice.ensures c.get.ensures.lookup.0
    (ap is_some c.in_default.is))) c.no_content.ensures

pub returns-clause-known : goal.returns-clause-known
returns-clause-known g c = λ world agrees.
    let ground = c.args.self.ground in
    let plan = ground.plan.now in
    let index = c.args.self.index in
    let page = c.in-Some.page.now in
    let there = page_at plan.pages c.as_slice.result.now index page c.as_slice.ensures c.in-Some.ensures.lookup.3.0
    c.in-Some.ensures.lookup.1 in
    ok_under c.content_of_page.result _ (λ ready. subst
    (λ (made : Made). IfOk c.content_of_page.result (λ (resolved : Resolved). IsResolved resolved made))
    (content_there world plan (option_copied ground.val) index page there)
    (c.content_of_page.ensures.known world agrees ready))

pub returns-in_default-clause-founded : goal.returns-in_default-clause-founded
returns-in_default-clause-founded g c = stays_same _ _ _ refl

pub returns-clause-founded : goal.returns-clause-founded
returns-clause-founded g c =
    let ground = c.args.self.ground in
    let index = c.args.self.index in
    let page = c.in-Some.page.now in
    let there = page_at ground.plan.now.pages c.as_slice.result.now index page c.as_slice.ensures
    c.in-Some.ensures.lookup.3.0 c.in-Some.ensures.lookup.1 in
    stays_page _ _ _ ground page index there c.content_of_page.ensures.founded

pub returns-in_default-clause-asks : goal.returns-in_default-clause-asks
returns-in_default-clause-asks g c = asks_same _ _ _ _ refl

pub returns-clause-asks : goal.returns-clause-asks
returns-clause-asks g c =
    let ground = c.args.self.ground in
    let page = c.in-Some.page.now in
    let there = page_at ground.plan.now.pages c.as_slice.result.now c.args.self.index page c.as_slice.ensures
    c.in-Some.ensures.lookup.3.0 c.in-Some.ensures.lookup.1 in
    subst (λ (names : List (List ℕ)). AsksOnly of_content names (g.A.Reader.told c.args.asker.now)
    (g.A.Reader.told c.content_of_page.new.asker))
    (sym (ap (λ (found : Option PagePlan). option_map_or (names_of_content ground) found []) there))
    c.content_of_page.ensures.asks
