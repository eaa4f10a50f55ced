use Rattle.std.specs.Prelude.{◌≡◌}
use Rattle.std.proofs.lemmas.Result.{IfOk-weaker}
use Rattle.dita_doc.specs.declared.fact.Html.{Html}
use Rattle.part_spec.specs.Parts.{contents_part}
use Rattle.toc_page.specs.Made.{IsContents}
use Rattle.clean_build.proofs.NameLaws.{stays_contents}
use Rattle.clean_build.proofs.ReadyLaws.{contents_html, ok_under, toc_ready}
use Rattle.clean_build.proofs.works.ContentsWorkPlanTask.run.Goals as goal

pub returns-clause-known : goal.returns-clause-known
returns-clause-known g c = λ world agrees.
    let ground = c.args.self.ground in
    ok_under c.contents.result (λ (made : Html). made ≡ contents_part world ground.plan.now)
    (λ ready. IfOk-weaker c.contents.result (IsContents world ground.plan.now) _
    (λ made is. contents_html world ground.plan.now made is)
    (c.contents.ensures.known world agrees (toc_ready world ground _ ready)))

pub returns-clause-founded : goal.returns-clause-founded
returns-clause-founded g c = stays_contents _ _ _ c.args.self.ground c.contents.ensures.founded

pub returns-clause-asks : goal.returns-clause-asks
returns-clause-asks g c = c.contents.ensures.asks

pub returns-clause-only : goal.returns-clause-only
returns-clause-only g c = λ world agrees. c.contents.ensures.only
