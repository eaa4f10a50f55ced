use Rattle.std.proofs.Common.{◌∙◌, sym}
use Rattle.ditaval_rules.proofs.DomainLaws.{second_declares}
use Rattle.ditaval_rules.proofs.domains.is_declaration.Goals as goal

pub returns-then-is_same : goal.returns-then-is_same
returns-then-is_same c =
    c.is_some.ensures
    ∙ second_declares c.args.piece.now c.in-Some.first.now c.in-Some.rest.now c.split_word-then-is_same.result
    c.in-Some.ensures.words (sym c.is_same.ensures ∙ c.if-is_same.true) c.split_word-then-is_same.ensures
