use Rattle.std.specs.Option.{option_copied}
use Rattle.std.specs.Prelude.{◌++◌, IfOk}
use Rattle.std.proofs.Common.{sym, ap, subst}
use Rattle.conref_pull.specs.Resolved.{IsResolved}
use Rattle.conref_spec.specs.Content.{Made}
use Rattle.dita_doc.specs.declared.content.Resolved.{Resolved}
use Rattle.readers.proofs.FoundedLaws.{stays_after}
use Rattle.readers.proofs.GrowthLaws.{agrees_before, grows_trans}
use Rattle.readers.specs.Setting.{Stand}
use Rattle.clean_build.specs.BuildInput.{IsReady}
use Rattle.clean_build.specs.Made.{IsRootLine}
use Rattle.clean_build.specs.Names.{names_of_build, names_of_page}
use Rattle.clean_build.proofs.AskLaws.{asks_first, asks_page}
use Rattle.clean_build.proofs.NameLaws.{stays_content, stays_doc, stays_with}
use Rattle.clean_build.proofs.PageLaws.{content_rooted, content_rootless}
use Rattle.whole_calls.proofs.resolved.content_of_page.Goals as goal

pub returns-in-Some-clause-known : goal.returns-in-Some-clause-known
returns-in-Some-clause-known g c = λ world agrees ready.
    let ground = c.args.ground in
    let page = c.args.page.now in
    let before = agrees_before world _ _ c.content_on_ground.ensures.grows agrees in
    let at = subst (IsRootLine world page.id.doc) c.in-Some.is (c.in_ok-root_line.ensures.known world before) in
    subst (λ (made : Made). IfOk c.content_on_ground.result (λ (resolved : Resolved). IsResolved resolved made))
    (content_rooted world ground.plan.now (option_copied ground.val) page _ at)
    (c.content_on_ground.ensures.known world agrees
    (subst (IsReady world ground) (sym (ap (λ (s : Stand). s.setting) c.in_ok-root_line.ensures.stand)) ready))

pub returns-in-None-clause-known : goal.returns-in-None-clause-known
returns-in-None-clause-known g c = λ world agrees ready.
    let ground = c.args.ground in
    let page = c.args.page.now in
    subst (IsResolved c.no_content.result) (content_rootless world ground.plan.now (option_copied ground.val) page
    (subst (IsRootLine world page.id.doc) c.in-None.is (c.in_ok-root_line.ensures.known world agrees)))
    c.no_content.ensures

pub returns-in_err-root_line-clause-founded : goal.returns-in_err-root_line-clause-founded
returns-in_err-root_line-clause-founded g c =
    stays_doc _ _ _ c.args.ground c.args.page.now c.root_line.ensures.founded

pub returns-in-None-clause-founded : goal.returns-in-None-clause-founded
returns-in-None-clause-founded g c = stays_doc _ _ _ c.args.ground c.args.page.now c.root_line.ensures.founded

pub returns-in-Some-clause-founded : goal.returns-in-Some-clause-founded
returns-in-Some-clause-founded g c =
    let ground = c.args.ground in
    let page = c.args.page.now in
    stays_after _ _ _ _ c.root_line.ensures.grows (stays_doc _ _ _ ground page c.root_line.ensures.founded)
    (stays_with _ _ (names_of_page page ++ names_of_build ground) _ _ c.in_ok-root_line.ensures.stand
    (stays_content _ _ _ ground page c.content_on_ground.ensures.founded))

pub returns-in-Some-clause-grows : goal.returns-in-Some-clause-grows
returns-in-Some-clause-grows g c = grows_trans _ _ _ c.root_line.ensures.grows c.content_on_ground.ensures.grows

pub returns-in_err-root_line-clause-asks : goal.returns-in_err-root_line-clause-asks
returns-in_err-root_line-clause-asks g c = asks_first _ _ _ _ c.root_line.ensures.asks

pub returns-in-None-clause-asks : goal.returns-in-None-clause-asks
returns-in-None-clause-asks g c = asks_first _ _ _ _ c.root_line.ensures.asks

pub returns-in-Some-clause-asks : goal.returns-in-Some-clause-asks
returns-in-Some-clause-asks g c =
    asks_page _ _ _ _ _ c.root_line.ensures.grows c.root_line.ensures.asks c.content_on_ground.ensures.asks
