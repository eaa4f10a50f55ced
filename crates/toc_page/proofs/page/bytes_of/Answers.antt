use Rattle.std.proofs.Common.{◌∙◌, [], ap, map}
use Rattle.map_spec.specs.Cascade.{whole_at}
use Rattle.html_spec.specs.Contents.{contents, contents_body}
use Rattle.html_spec.specs.PageHtml as page_html
use Rattle.readers.specs.Documents.{nothing}
use Rattle.readers.proofs.DocumentLaws.{asks_after, homes_asked}
use Rattle.readers.proofs.FoundedLaws.{stays_after}
use Rattle.readers.proofs.GrowthLaws.{agrees_before, grows_trans}
use Rattle.readers.specs.Setting.{Stand}
use Rattle.toc_page.proofs.NameLaws.{homes_stay}
use Rattle.toc_page.proofs.TextLaws.{title_known}
use Rattle.readers.proofs.OnlyLaws.{only_after}
use Rattle.toc_page.proofs.AskedLaws.{nodes_asked}
use Rattle.toc_page.proofs.page.bytes_of.Goals as goal

pub returns-in_err-homes-clause-founded : goal.returns-in_err-homes-clause-founded
returns-in_err-homes-clause-founded g c =
    homes_stay c.args.plan.now c.as_slice.result.now _ _ c.as_slice.ensures c.of.ensures.founded

pub returns-in_err-title-clause-founded : goal.returns-in_err-title-clause-founded
returns-in_err-title-clause-founded g c =
    homes_stay c.args.plan.now c.as_slice.result.now _ _ c.as_slice.ensures c.of.ensures.founded

pub returns-in_err-body-clause-founded : goal.returns-in_err-body-clause-founded
returns-in_err-body-clause-founded g c = stays_after _ _ _ _ c.of.ensures.grows
    (homes_stay c.args.plan.now c.as_slice.result.now _ _ c.as_slice.ensures c.of.ensures.founded)
    c.body_of.ensures.founded

pub returns-in_err-page_text-clause-founded : goal.returns-in_err-page_text-clause-founded
returns-in_err-page_text-clause-founded g c = stays_after _ _ _ _ c.of.ensures.grows
    (homes_stay c.args.plan.now c.as_slice.result.now _ _ c.as_slice.ensures c.of.ensures.founded)
    c.body_of.ensures.founded

pub returns-clause-founded : goal.returns-clause-founded
returns-clause-founded g c = stays_after _ _ _ _ c.of.ensures.grows
    (homes_stay c.args.plan.now c.as_slice.result.now _ _ c.as_slice.ensures c.of.ensures.founded)
    c.body_of.ensures.founded

pub returns-in_err-body-clause-stand : goal.returns-in_err-body-clause-stand
returns-in_err-body-clause-stand g c = c.body_of.ensures.stand ∙ c.of.ensures.stand

pub returns-in_err-body-clause-grows : goal.returns-in_err-body-clause-grows
returns-in_err-body-clause-grows g c = grows_trans _ _ _ c.of.ensures.grows c.body_of.ensures.grows

pub returns-in_err-page_text-clause-stand : goal.returns-in_err-page_text-clause-stand
returns-in_err-page_text-clause-stand g c = c.body_of.ensures.stand ∙ c.of.ensures.stand

pub returns-in_err-page_text-clause-grows : goal.returns-in_err-page_text-clause-grows
returns-in_err-page_text-clause-grows g c = grows_trans _ _ _ c.of.ensures.grows c.body_of.ensures.grows

pub returns-clause-stand : goal.returns-clause-stand
returns-clause-stand g c = c.body_of.ensures.stand ∙ c.of.ensures.stand

pub returns-clause-grows : goal.returns-clause-grows
returns-clause-grows g c = grows_trans _ _ _ c.of.ensures.grows c.body_of.ensures.grows

pub returns-clause-known : goal.returns-clause-known
unfolding contents
returns-clause-known g c = λ world agrees tree pages.
    let plan = c.args.plan.now in
    let homes =
    c.in_ok-homes.ensures.known world (agrees_before world _ _ c.in_ok-body.ensures.grows agrees)
    ∙ ap (map (whole_at world)) c.as_slice.ensures in
    let title = c.in_ok-title.ensures ∙ title_known world plan c.in_ok-homes.homes homes in
    let body = c.in_ok-body.ensures.known world agrees tree
    (ap (λ (s : Stand). s.setting.pages) c.of.ensures.stand ∙ pages) homes title in
    c.in_ok-page_text.ensures
    ∙ ap (λ text. page_html.page_text c.in_ok-title.title text []) (c.as_bytes.ensures.value ∙ body)
    ∙ ap (λ text. page_html.page_text text (contents_body world plan) []) title

pub returns-clause-only : goal.returns-clause-only
returns-clause-only g c = only_after _ _ _ _
    (nodes_asked c.args.plan.now _ _ c.as_slice.result.now c.as_slice.ensures c.in_ok-homes.ensures.only)
    c.in_ok-body.ensures.only

pub returns-in_err-homes-clause-asks : goal.returns-in_err-homes-clause-asks
returns-in_err-homes-clause-asks g c = homes_asked _ _ _ _ c.as_slice.ensures c.of.ensures.asks

pub returns-in_err-title-clause-asks : goal.returns-in_err-title-clause-asks
returns-in_err-title-clause-asks g c = homes_asked _ _ _ _ c.as_slice.ensures c.of.ensures.asks

pub returns-in_err-body-clause-asks : goal.returns-in_err-body-clause-asks
returns-in_err-body-clause-asks g c = asks_after nothing _ _ _ _ c.of.ensures.grows
    (homes_asked _ _ _ _ c.as_slice.ensures c.of.ensures.asks) c.body_of.ensures.asks

pub returns-in_err-page_text-clause-asks : goal.returns-in_err-page_text-clause-asks
returns-in_err-page_text-clause-asks g c = asks_after nothing _ _ _ _ c.of.ensures.grows
    (homes_asked _ _ _ _ c.as_slice.ensures c.of.ensures.asks) c.body_of.ensures.asks

pub returns-clause-asks : goal.returns-clause-asks
returns-clause-asks g c = asks_after nothing _ _ _ _ c.of.ensures.grows
    (homes_asked _ _ _ _ c.as_slice.ensures c.of.ensures.asks) c.body_of.ensures.asks
