use Rattle.std.proofs.Common.{◌∙◌, ◌++◌, ap, append_assoc}
use Rattle.std.specs.Prelude.{codes}
use Rattle.std.specs.List.{flat_map}
use Rattle.dita_doc.specs.HtmlEscapes.{escaped}
use Rattle.html_spec.specs.Blocks.{start_tag}
use Rattle.html_spec.specs.Contents.{data_text, href_by, label_of, linked}
use Rattle.link_spec.specs.Links.{plan_target}
use Rattle.readers.proofs.DocumentLaws.{asks_after}
use Rattle.readers.proofs.FoundedLaws.{stays_after}
use Rattle.readers.proofs.GrowthLaws.{agrees_before, grows_trans}
use Rattle.readers.specs.Setting.{Stand}
use Rattle.readers.proofs.OnlyLaws.{only_after}
use Rattle.toc_page.proofs.AskedLaws.{pages_asked, titles_asked}
use Rattle.toc_page.proofs.item.append_front.Goals as goal

pub returns-in_err-href-clause-stand : goal.returns-in_err-href-clause-stand
returns-in_err-href-clause-stand g c = c.href_of.ensures.stand ∙ c.label_of.ensures.stand

pub returns-in_err-href-clause-founded : goal.returns-in_err-href-clause-founded
returns-in_err-href-clause-founded g c =
    stays_after _ _ _ _ c.label_of.ensures.grows c.label_of.ensures.founded c.href_of.ensures.founded

pub returns-in_err-href-clause-asks : goal.returns-in_err-href-clause-asks
returns-in_err-href-clause-asks g c =
    asks_after _ _ _ _ _ c.label_of.ensures.grows c.label_of.ensures.asks c.href_of.ensures.asks

pub returns-in_err-href-clause-grows : goal.returns-in_err-href-clause-grows
returns-in_err-href-clause-grows g c = grows_trans _ _ _ c.label_of.ensures.grows c.href_of.ensures.grows

pub returns-in_err-append_linked-clause-stand : goal.returns-in_err-append_linked-clause-stand
returns-in_err-append_linked-clause-stand g c = c.href_of.ensures.stand ∙ c.label_of.ensures.stand

pub returns-in_err-append_linked-clause-founded : goal.returns-in_err-append_linked-clause-founded
returns-in_err-append_linked-clause-founded g c =
    stays_after _ _ _ _ c.label_of.ensures.grows c.label_of.ensures.founded c.href_of.ensures.founded

pub returns-in_err-append_linked-clause-asks : goal.returns-in_err-append_linked-clause-asks
returns-in_err-append_linked-clause-asks g c =
    asks_after _ _ _ _ _ c.label_of.ensures.grows c.label_of.ensures.asks c.href_of.ensures.asks

pub returns-in_err-append_linked-clause-grows : goal.returns-in_err-append_linked-clause-grows
returns-in_err-append_linked-clause-grows g c = grows_trans _ _ _ c.label_of.ensures.grows c.href_of.ensures.grows

pub returns-clause-stand : goal.returns-clause-stand
returns-clause-stand g c = c.href_of.ensures.stand ∙ c.label_of.ensures.stand

pub returns-clause-founded : goal.returns-clause-founded
returns-clause-founded g c =
    stays_after _ _ _ _ c.label_of.ensures.grows c.label_of.ensures.founded c.href_of.ensures.founded

pub returns-clause-asks : goal.returns-clause-asks
returns-clause-asks g c =
    asks_after _ _ _ _ _ c.label_of.ensures.grows c.label_of.ensures.asks c.href_of.ensures.asks

pub returns-clause-grows : goal.returns-clause-grows
returns-clause-grows g c = grows_trans _ _ _ c.label_of.ensures.grows c.href_of.ensures.grows

pub returns-clause-known : goal.returns-clause-known
returns-clause-known g c = λ world agrees is pages there title.
    let out = c.args.out.now in
    let plan = c.args.toc.plan.now in
    let start = start_tag (codes "li") (flat_map data_text c.args.node.now.cascaded) in
    let label =
    c.in_ok-label.ensures.known world (agrees_before world _ _ c.in_ok-href.ensures.grows agrees) is there title in
    let href = c.in_ok-href.ensures.known world agrees
    (ap (λ (s : Stand). s.setting.pages) c.in_ok-label.ensures.stand ∙ pages) there in
    c.in_ok-append_linked.ensures
    ∙ ap (λ l. l ++ linked c.in_ok-href.href (escaped c.in_ok-label.label)) c.in_ok-append_start.ensures
    ∙ ap (λ all. (out ++ start_tag (codes "li") (flat_map data_text all))
    ++ linked c.in_ok-href.href (escaped c.in_ok-label.label)) c.as_slice.ensures
    ∙ (λ i. (out ++ start) ++ linked (href i) (escaped (label i)))
    ∙ append_assoc out start (linked (href_by plan c.args.at (plan_target plan c.args.at))
    (escaped (label_of world plan c.args.at c.args.node.now)))

pub returns-clause-only : goal.returns-clause-only
returns-clause-only g c = λ there. only_after _ _ _ _ (titles_asked c.args.toc.plan.now _ _ c.in_ok-label.ensures.only)
    (pages_asked c.args.toc.plan.now _ _ (c.in_ok-href.ensures.only there))
