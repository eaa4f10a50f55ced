use Rattle.std.specs.Option.{option_copied}
use Rattle.std.specs.Prelude.{is_some, List}
use Rattle.std.proofs.Common.{refl, sym, ap, subst, ◌∙◌}
use Rattle.dita_doc.specs.declared.fault.Fault.{Fault}
use Rattle.map_spec.specs.Pushes.{pushed}
use Rattle.part_spec.specs.Parts.{rooms}
use Rattle.readers.proofs.FoundedLaws.{stays_after, stays_same}
use Rattle.readers.proofs.GrowthLaws.{agrees_before, grows_trans}
use Rattle.readers.specs.Setting.{Stand}
use Rattle.clean_build.specs.BuildInput.{IsReady}
use Rattle.clean_build.specs.Made.{page_behind}
use Rattle.clean_build.specs.Names.{names_of_build}
use Rattle.clean_build.proofs.NameLaws.{stays_links, stays_page, stays_with}
use Rattle.clean_build.proofs.PageLaws.{page_there}
use Rattle.clean_build.proofs.ReadyLaws.{can_link}
use Rattle.clean_build.proofs.PartLaws.{page_at}
use Rattle.whole_calls.proofs.SingleLaws.{page_nowhere, nothing_at}
use Rattle.readers.proofs.DocumentLaws.{asks_same}
use Rattle.whole_calls.proofs.AskLaws.{asks_alone, asks_links}
use Rattle.whole_calls.proofs.single_parts.page_alone.Goals as goal

pub returns-in_default-clause-known : goal.returns-in_default-clause-known
returns-in_default-clause-known g c = λ world agrees ready.
    let ground = c.args.ground in
    c.no_html.ensures ∙ page_nowhere world ground.plan.now (option_copied ground.val) c.args.index
    (nothing_at ground.plan.now.pages c.as_slice.result.now c.args.index _ c.as_slice.ensures c.get.ensures.lookup.0
    (ap is_some c.in_default.is))

pub returns-clause-known : goal.returns-clause-known
returns-clause-known g c = λ world agrees ready.
    let ground = c.args.ground in
    let plan = ground.plan.now in
    let val = option_copied ground.val in
    let page = c.in-Some.page.now in
    let at_links = agrees_before world _ _ c.in_ok-html.ensures.grows agrees in
    let links = c.in_ok-links.ensures.known world at_links (can_link world ground _ ready) in
    let there = page_at plan.pages c.as_slice.result.now c.args.index page c.as_slice.ensures
    c.in-Some.ensures.lookup.3.0 c.in-Some.ensures.lookup.1 in
    let made = (c.in_ok-html.ensures.known world agrees).page
    (subst (IsReady world ground) (sym (ap (λ (s : Stand). s.setting) c.in_ok-links.ensures.stand)) ready) there links
    (record { rules = c.new.ensures.rules _; places = c.new.ensures.places (pushed world plan.documents) }) in
    made.html
    ∙ ap (λ (behind : List Fault). page_behind rooms world plan val c.args.index page behind)
    (c.in_ok-faults_by_row.ensures world links)
    ∙ page_there world plan val c.args.index page there

pub returns-in_default-clause-founded : goal.returns-in_default-clause-founded
returns-in_default-clause-founded g c = stays_same _ _ _ refl

pub returns-in_err-links-clause-founded : goal.returns-in_err-links-clause-founded
returns-in_err-links-clause-founded g c = stays_links _ _ _ c.args.ground c.of.ensures.founded

pub returns-in_err-faults_by_row-clause-founded : goal.returns-in_err-faults_by_row-clause-founded
returns-in_err-faults_by_row-clause-founded g c = stays_links _ _ _ c.args.ground c.of.ensures.founded

pub returns-in_err-html-clause-founded : goal.returns-in_err-html-clause-founded
returns-in_err-html-clause-founded g c =
    let page = c.in-Some.page.now in
    let there = page_at c.args.ground.plan.now.pages c.as_slice.result.now c.args.index page c.as_slice.ensures
    c.in-Some.ensures.lookup.3.0 c.in-Some.ensures.lookup.1 in
    let before = stays_links _ _ _ c.args.ground c.of.ensures.founded in
    stays_after _ _ _ _ c.of.ensures.grows before
    (stays_with _ _ (names_of_build c.args.ground) _ _ c.in_ok-links.ensures.stand
    (stays_page _ _ _ c.args.ground page c.args.index there c.run.ensures.founded))

pub returns-clause-founded : goal.returns-clause-founded
returns-clause-founded g c =
    let page = c.in-Some.page.now in
    let there = page_at c.args.ground.plan.now.pages c.as_slice.result.now c.args.index page c.as_slice.ensures
    c.in-Some.ensures.lookup.3.0 c.in-Some.ensures.lookup.1 in
    let before = stays_links _ _ _ c.args.ground c.of.ensures.founded in
    stays_after _ _ _ _ c.of.ensures.grows before
    (stays_with _ _ (names_of_build c.args.ground) _ _ c.in_ok-links.ensures.stand
    (stays_page _ _ _ c.args.ground page c.args.index there c.run.ensures.founded))

pub returns-in_err-html-clause-grows : goal.returns-in_err-html-clause-grows
returns-in_err-html-clause-grows g c = grows_trans _ _ _ c.of.ensures.grows c.run.ensures.grows

pub returns-clause-grows : goal.returns-clause-grows
returns-clause-grows g c = grows_trans _ _ _ c.of.ensures.grows c.run.ensures.grows

pub returns-in_default-clause-asks : goal.returns-in_default-clause-asks
returns-in_default-clause-asks g c = asks_same _ _ _ _ refl

pub returns-in_err-links-clause-asks : goal.returns-in_err-links-clause-asks
returns-in_err-links-clause-asks g c = asks_links c.args.ground c.args.index _ _ c.of.ensures.asks

pub returns-in_err-faults_by_row-clause-asks : goal.returns-in_err-faults_by_row-clause-asks
returns-in_err-faults_by_row-clause-asks g c = asks_links c.args.ground c.args.index _ _ c.of.ensures.asks

pub returns-in_err-html-clause-asks : goal.returns-in_err-html-clause-asks
returns-in_err-html-clause-asks g c =
    let page = c.in-Some.page.now in
    let there = page_at c.args.ground.plan.now.pages c.as_slice.result.now c.args.index page c.as_slice.ensures
    c.in-Some.ensures.lookup.3.0 c.in-Some.ensures.lookup.1 in
    asks_alone c.args.ground c.args.index page there _ _ _ c.of.ensures.grows c.of.ensures.asks c.run.ensures.asks

pub returns-clause-asks : goal.returns-clause-asks
returns-clause-asks g c =
    let page = c.in-Some.page.now in
    let there = page_at c.args.ground.plan.now.pages c.as_slice.result.now c.args.index page c.as_slice.ensures
    c.in-Some.ensures.lookup.3.0 c.in-Some.ensures.lookup.1 in
    asks_alone c.args.ground c.args.index page there _ _ _ c.of.ensures.grows c.of.ensures.asks c.run.ensures.asks
