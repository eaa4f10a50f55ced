use Rattle.std.proofs.Common.{◌∙◌, ◌++◌, append_assoc, ap}
use Rattle.std.specs.Prelude.{false}
use Rattle.toc_page.specs.Opened.{Page, Within, around_place, begin_text, ends_before, has_list, stack_of, stack_on, with_list}
use Rattle.toc_page.specs.declared.list.OpenItem.{OpenItem}
use Rattle.toc_page.proofs.StackLaws.{stack_more}
use Rattle.toc_page.proofs.list.OpenItems.begin_item.Goals as goal

pub returns-clause-text : goal.returns-clause-text
returns-clause-text c =
    let stack = stack_of c.args.self.now in
    let was = c.in_ok-was_begun.ensures.was ∙ ap has_list c.in_ok-close_before.ensures.stack in
    c.in_ok-append_begin.ensures
    ∙ (λ i. c.in_ok-close_before.ensures.text i ++ begin_text (was i))
    ∙ append_assoc c.args.out.now (ends_before c.args.place stack)
    (begin_text (has_list (around_place c.args.place stack)))

pub returns-clause-stack : goal.returns-clause-stack
returns-clause-stack c =
    let begun = c.begin_list.new.self.has_list in
    let item : OpenItem = record { end = c.args.end; has_list = false } in
    ap (λ items. stack_on items (Page begun)) c.in_ok-push.ensures.items
    ∙ stack_more c.begin_list.new.self.items.items item (Page begun)
    ∙ ap (Within item) (c.in_ok-was_begun.ensures.stack ∙ ap with_list c.in_ok-close_before.ensures.stack)
