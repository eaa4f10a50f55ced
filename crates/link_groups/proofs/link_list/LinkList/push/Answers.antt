use Rattle.std.proofs.Common.{refl}
use Rattle.dita_doc.proofs.Tests.{not_false, not_true}
use Rattle.link_groups.proofs.ListLaws.{held_again, held_new, held_own}
use Rattle.link_groups.proofs.link_list.LinkList.push.Goals as goal

pub returns-then-page-self : goal.returns-then-page-self
returns-then-page-self c = λ own all holds.
    held_own own all c.args.kind c.args.page c.args.self.now c.if-page-self.true holds

pub returns-in_ok-push : goal.returns-in_ok-push
returns-in_ok-push c = λ own all holds.
    held_new own all c.args.kind c.args.page c.args.self.now
    (record { page = c.args.self.now.page; seen = c.insert.new.self; links = c.push.new.self }) c.if-page-self.false
    (not_true _ c.in_ok-insert.field-0 c.if-branch.true c.in_ok-insert.ensures.added) refl c.in_ok-push.ensures.items
    c.in_ok-insert.ensures.marks holds

pub returns-else-branch : goal.returns-else-branch
returns-else-branch c = λ own all holds.
    held_again own all c.args.kind c.args.page c.args.self.now
    (record { page = c.args.self.now.page; seen = c.insert.new.self; links = c.args.self.now.links }) c.if-page-self.false
    (not_false _ c.in_ok-insert.field-0 c.if-branch.false c.in_ok-insert.ensures.added) refl refl c.in_ok-insert.ensures.marks holds
