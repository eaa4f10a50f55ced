use Rattle.std.proofs.Common.{◌∙◌, ◌++◌, ap}
use Rattle.toc_page.specs.Opened.{Page, ends_all, stack_on}
use Rattle.toc_page.proofs.StackLaws.{ended_one}
use Rattle.toc_page.proofs.list.OpenItems.close.Goals as goal

pub loop-item-preserved : goal.loop-item-preserved
loop-item-preserved c =
    c.loop-item.invariant
    ∙ ap (λ items. c.loop-item.out ++ ends_all (stack_on items (Page c.loop-item.self.has_list))) c.in-Some.ensures.items
    ∙ ended_one c.loop-item.out c.append_end.new.out c.in-Some.item c.pop.new.self.items c.loop-item.self.has_list
    c.in_ok-append_end.ensures
