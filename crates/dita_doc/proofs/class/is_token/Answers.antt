use Rattle.std.proofs.Common.{sym, arith}
use Rattle.std.proofs.lemmas.Grind.{common_steps}
use Rattle.dita_doc.proofs.ClassLaws.{token_cut, token_uncut}
use Rattle.dita_doc.proofs.class.is_token.Goals as goal

pub returns-in_default : goal.returns-in_default
returns-in_default c = sym (token_uncut c.args.word.now c.in_default.ensures)

pub returns-then-not-is_empty-2 : goal.returns-then-not-is_empty-2
returns-then-not-is_empty-2 c =
    let cut = token_cut c.args.word.now c.in-Some.«module».now c.in-Some.kind.now c.in-Some.ensures in
    grind (arith, common_steps, c.contains.ensures.value)

pub returns-else-not-is_empty-2 : goal.returns-else-not-is_empty-2
returns-else-not-is_empty-2 c =
    let cut = token_cut c.args.word.now c.in-Some.«module».now c.in-Some.kind.now c.in-Some.ensures in
    grind (arith, common_steps)
