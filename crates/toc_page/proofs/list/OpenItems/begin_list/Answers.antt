use Rattle.std.proofs.Common.{◌∙◌, ap, sym}
use Rattle.std.specs.Prelude.{true}
use Rattle.toc_page.specs.Opened.{Page, has_list, stack_on, with_list}
use Rattle.toc_page.proofs.StackLaws.{stack_more}
use Rattle.toc_page.proofs.list.OpenItems.begin_list.Goals as goal

pub returns-clause-was : goal.returns-clause-was
returns-clause-was c =
    let around = Page c.args.self.now.has_list in
    sym (ap (λ items. has_list (stack_on items around)) c.in-Some.ensures.items
    ∙ ap has_list (stack_more c.pop.new.self.items c.in-Some.item around))

pub returns-clause-stack : goal.returns-clause-stack
returns-clause-stack c =
    let around = Page c.args.self.now.has_list in
    ap (λ items. stack_on items around) c.in_ok-push.ensures.items
    ∙ stack_more c.pop.new.self.items (record { end = c.in-Some.item.end; has_list = true }) around
    ∙ sym (ap (λ items. with_list (stack_on items around)) c.in-Some.ensures.items
    ∙ ap with_list (stack_more c.pop.new.self.items c.in-Some.item around))
