use Rattle.std.proofs.Common.{ap, ◌∙◌}
use Rattle.std.specs.Prelude.{◌≡◌}
use Rattle.std.proofs.lemmas.Result.{IfOk-weaker}
use Rattle.dita_doc.specs.declared.fact.Html.{Html}
use Rattle.xref_links.specs.Body.{written_of}
use Rattle.clean_build.specs.Bodies.{with_faults}
use Rattle.clean_build.proofs.BodyLaws.{own_nodes}
use Rattle.clean_build.proofs.body.shown.Goals as goal

pub returns : goal.returns
returns c =
    let resolved = c.args.resolved in
    IfOk-weaker c.with_faults.result
    (λ (made : Html). made ≡ with_faults c.in_ok-html.html resolved.faults c.args.of_links c.args.behind) _
    (λ made is. is ∙ ap (λ (html : Html). with_faults html resolved.faults c.args.of_links c.args.behind)
    (c.in_ok-html.ensures (written_of resolved) (own_nodes resolved))) c.with_faults.ensures
