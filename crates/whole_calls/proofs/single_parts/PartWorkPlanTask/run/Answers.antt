use Rattle.std.specs.Option.{option_copied}
use Rattle.std.specs.Prelude.{◌≡◌, IfOk}
use Rattle.std.proofs.Common.{sym, ap, subst, ◌∙◌}
use Rattle.std.proofs.lemmas.Result.{IfOk-weaker}
use Rattle.dita_doc.specs.declared.fact.Html.{Html}
use Rattle.toc_page.specs.Made.{IsContents}
use Rattle.whole_calls.specs.Single.{part_html}
use Rattle.whole_calls.specs.declared.single_parts.Part.{Part}
use Rattle.clean_build.proofs.NameLaws.{stays_contents}
use Rattle.clean_build.proofs.ReadyLaws.{contents_html, ok_under, toc_ready}
use Rattle.conref_targets.specs.Asking.{of_content}
use Rattle.readers.specs.Documents.{AsksOnly}
use Rattle.whole_calls.specs.Single.{documents_for}
use Rattle.whole_calls.proofs.AskLaws.{asks_widely}
use Rattle.whole_calls.proofs.single_parts.PartWorkPlanTask.run.Goals as goal

pub returns-in-Page-clause-known : goal.returns-in-Page-clause-known
returns-in-Page-clause-known g c = λ world agrees.
    let ground = c.args.self.ground in
    ok_under c.page_alone.result _ (λ ready. subst (λ (part : Part). IfOk c.page_alone.result
    (λ (html : Html). html ≡ part_html part world ground.plan.now (option_copied ground.val))) (sym c.in-Page.is)
    (c.page_alone.ensures.known world agrees ready))

pub returns-in-Contents-clause-known : goal.returns-in-Contents-clause-known
returns-in-Contents-clause-known g c = λ world agrees.
    let ground = c.args.self.ground in
    ok_under c.contents.result _ (λ ready. IfOk-weaker c.contents.result (IsContents world ground.plan.now) _
    (λ made is. contents_html world ground.plan.now made is
    ∙ ap (λ (part : Part). part_html part world ground.plan.now (option_copied ground.val)) (sym c.in-Contents.is))
    (c.contents.ensures.known world agrees (toc_ready world ground _ ready)))

pub returns-in-Contents-clause-founded : goal.returns-in-Contents-clause-founded
returns-in-Contents-clause-founded g c = stays_contents _ _ _ c.args.self.ground c.contents.ensures.founded

pub returns-in-Page-clause-asks : goal.returns-in-Page-clause-asks
returns-in-Page-clause-asks g c = subst (λ (part : Part).
    AsksOnly of_content (documents_for c.args.self.ground part) (g.A.Reader.told c.args.asker.now)
    (g.A.Reader.told c.page_alone.new.asker)) (sym c.in-Page.is) c.page_alone.ensures.asks

pub returns-in-Contents-clause-asks : goal.returns-in-Contents-clause-asks
returns-in-Contents-clause-asks g c = subst (λ (part : Part).
    AsksOnly of_content (documents_for c.args.self.ground part) (g.A.Reader.told c.args.asker.now)
    (g.A.Reader.told c.contents.new.asker)) (sym c.in-Contents.is) (asks_widely _ _ _ c.contents.ensures.asks)
