use Rattle.std.proofs.Common.{rules, arith}
use Rattle.std.proofs.lemmas.Grind.{common_steps}
use Rattle.dita_doc.proofs.EscapeLaws.{unescaped_at, unescaped_without}
use Rattle.dita_doc.proofs.escapes.append_unescaped.Goals as goal

pub loop-front-preserved : goal.loop-front-preserved
loop-front-preserved c =
    let meant = c.read_pyx_escape.result.0.now in
    let back = c.read_pyx_escape.result.1.now in
    let e = unescaped_at _ _ _ meant back c.in-Some.ensures c.read_pyx_escape.ensures.whole in
    (search rules, grind (arith, common_steps))

pub returns : goal.returns
returns c =
    let e = unescaped_without c.loop-front.rest.now c.in_default.ensures in
    grind (arith, common_steps)
