use Rattle.std.proofs.Common.{refl, rules}
use Rattle.page_names.proofs.NameLaws.{name_known, name_taken}
use Rattle.page_names.proofs.names.PageNames.take.Goals as goal

pub returns-then-branch : goal.returns-then-branch
returns-then-branch c = λ taken are.
    name_taken taken c.args.self.now (record { taken = c.insert.new.self; next = c.args.self.now.next }) c.args.text.now
    c.in_ok-name.name c.in_ok-clone.field-0 c.in_ok-insert.field-0 are c.in_ok-name.ensures c.in_ok-clone.ensures.cases
    c.in_ok-insert.ensures.added c.if-branch.true c.in_ok-insert.ensures.keys c.in_ok-insert.ensures.len refl

pub returns-else-branch : goal.returns-else-branch
returns-else-branch c = λ taken are.
    name_known taken c.args.self.now (record { taken = c.insert.new.self; next = c.args.self.now.next }) c.args.text.now
    c.in_ok-name.name c.in_ok-clone.field-0 c.in_ok-insert.field-0 are c.in_ok-name.ensures c.in_ok-clone.ensures.cases
    c.in_ok-insert.ensures.added c.if-branch.false (search rules) refl
