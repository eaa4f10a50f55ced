use Rattle.key_answers.proofs.TextLaws.{label_own, label_title}
use Rattle.key_answers.proofs.label.label_of.Goals as goal

pub returns-then-not-is_empty-clause-known : goal.returns-then-not-is_empty-clause-known
returns-then-not-is_empty-clause-known g c = λ world agrees are.
    label_own world c.args.defined.homes.now c.args.defined.nodes.now c.args.met.now c.args.target.now are.homes
    c.in_ok-own.own c.is_empty.result c.in_ok-own.ensures c.is_empty.ensures c.if-not-is_empty.true

pub returns-clause-known : goal.returns-clause-known
returns-clause-known g c = λ world agrees are.
    label_title world c.args.defined.homes.now c.args.defined.nodes.now c.args.met.now c.args.target.now are.homes
    c.in_ok-own.own c.is_empty.result c.in_ok-own.ensures c.is_empty.ensures c.title_of.result c.if-not-is_empty.false
    (c.title_of.ensures.known world agrees)
