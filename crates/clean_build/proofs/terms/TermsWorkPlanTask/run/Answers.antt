use Rattle.std.specs.Prelude.{◌≡◌, ℕ, List, Option}
use Rattle.std.proofs.Common.{ap, ◌∙◌}
use Rattle.std.proofs.lemmas.Result.{IfOk-weaker}
use Rattle.dita_doc.specs.declared.fact.Html.{Html}
use Rattle.html_spec.specs.Terms.{terms_html}
use Rattle.clean_build.specs.Terms.{documents_of, titles_in}
use Rattle.clean_build.proofs.NameLaws.{stays_listed, stays_titles}
use Rattle.clean_build.proofs.ReadLaws.{reads_held, reads_none}
use Rattle.clean_build.proofs.terms.TermsWorkPlanTask.run.Goals as goal

pub returns-clause-known : goal.returns-clause-known
returns-clause-known g c = λ world agrees.
    let terms = c.args.self.terms.now in
    let plan = c.args.self.ground.plan.now in
    IfOk-weaker c.terms_html.result (λ (html : Option Html). html ≡ terms_html terms plan c.in_ok-titles.titles) _
    (λ html is. is ∙ ap (λ (titles : List (List ℕ)). terms_html terms plan titles)
    (c.in_ok-titles.ensures.known world agrees ∙ ap (titles_in world) c.as_slice.ensures)) c.terms_html.ensures

pub returns-in_err-titles-clause-founded : goal.returns-in_err-titles-clause-founded
returns-in_err-titles-clause-founded g c = stays_titles _ _ _ c.args.self.ground
    (stays_listed _ _ _ _ (ap documents_of c.as_slice.ensures) c.titles_of.ensures.founded)

pub returns-clause-founded : goal.returns-clause-founded
returns-clause-founded g c = stays_titles _ _ _ c.args.self.ground
    (stays_listed _ _ _ _ (ap documents_of c.as_slice.ensures) c.titles_of.ensures.founded)

pub returns-in_err-titles-clause-asks : goal.returns-in_err-titles-clause-asks
returns-in_err-titles-clause-asks g c = c.titles_of.ensures.asks

pub returns-clause-asks : goal.returns-clause-asks
returns-clause-asks g c = c.titles_of.ensures.asks

pub returns-clause-only : goal.returns-clause-only
returns-clause-only g c = λ world agrees. reads_held (λ name. ⊥) c.terms_html.result _ _
    (reads_none (λ name. ⊥) _ _ c.in_ok-titles.ensures.asks)
