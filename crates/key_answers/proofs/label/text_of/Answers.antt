use Rattle.std.proofs.Common.{◌≡◌, rules, List, ℕ, Some, [], codes}
use Rattle.key_answers.proofs.TextLaws.{text_behind}
use Rattle.key_answers.proofs.label.text_of.Goals as goal

pub returns : goal.returns
returns c =
    text_behind c.from_str.result c.args.defined.homes.now c.args.at _ c.in_ok-text.text c.unwrap_or.result.now
    c.is_empty.result c.in-Some.ensures (c.in_ok-text.ensures _) c.is_empty.ensures c.if-not-is_empty.false (search rules) (search rules)
