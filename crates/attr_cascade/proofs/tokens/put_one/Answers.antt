use Rattle.std.proofs.Common.{rules}
use Rattle.attr_cascade.proofs.TextLaws.{none_put, one_put}
use Rattle.attr_cascade.proofs.tokens.put_one.Goals as goal

pub returns-in_ok-push : goal.returns-in_ok-push
returns-in_ok-push c = λ all are.
    one_put c.args.tokens.now.items c.push.new.self.items c.args.known.now.keys c.insert.new.self.keys c.args.text all
    c.in_ok-insert.field-0 are c.in_ok-insert.ensures.added c.if-branch.true c.in_ok-push.ensures.items
    c.in_ok-insert.ensures.keys

pub returns-else-branch : goal.returns-else-branch
returns-else-branch c = λ all are.
    none_put c.args.tokens.now.items c.args.known.now.keys c.insert.new.self.keys c.args.text all
    c.in_ok-insert.field-0 are c.in_ok-insert.ensures.added c.if-branch.false (search rules)
