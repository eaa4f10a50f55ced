use Rattle.std.proofs.Common.{rules, arith}
use Rattle.std.proofs.lemmas.Grind.{common_steps}
use Rattle.dita_doc.proofs.EscapeLaws.{value_at_quote, value_without_quote}
use Rattle.dita_doc.proofs.escapes.append_html_value.Goals as goal

pub loop-front-preserved : goal.loop-front-preserved
loop-front-preserved c =
    let e = value_at_quote _ _ _ c.in-Some.ensures in
    (search rules, grind (arith, common_steps))

pub returns : goal.returns
returns c =
    let e = value_without_quote c.loop-front.rest.now c.in_default.ensures in
    grind (arith, common_steps)
