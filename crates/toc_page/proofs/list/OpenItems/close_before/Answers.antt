use Rattle.std.proofs.Common.{◌∙◌, ◌++◌, append-nil, ap, arith, sym}
use Rattle.toc_page.specs.Opened.{Page, around_place, ends_before, stack_on}
use Rattle.toc_page.proofs.StackLaws.{kept_open, kept_text, passed_open, passed_text}
use Rattle.toc_page.proofs.list.OpenItems.close_before.Goals as goal

pub returns-then-item-place-clause-text : goal.returns-then-item-place-clause-text
returns-then-item-place-clause-text c =
    let begun = c.loop-item.self.has_list in
    let out = c.loop-item.out in
    sym (c.loop-item.invariant.text
    ∙ ap (λ items. out ++ ends_before c.args.place (stack_on items (Page begun))) c.in-Some.ensures.items
    ∙ ap (λ l. out ++ l) (kept_text c.args.place c.in-Some.item c.pop.new.self.items begun
    (omega (arith, c.if-item-place.true)))
    ∙ append-nil out)

pub returns-then-item-place-clause-stack : goal.returns-then-item-place-clause-stack
returns-then-item-place-clause-stack c =
    let begun = c.loop-item.self.has_list in
    ap (λ items. stack_on items (Page begun)) c.in_ok-push.ensures.items
    ∙ sym (c.loop-item.invariant.stack
    ∙ ap (λ items. around_place c.args.place (stack_on items (Page begun))) c.in-Some.ensures.items
    ∙ kept_open c.args.place c.in-Some.item c.pop.new.self.items begun (omega (arith, c.if-item-place.true)))

pub loop-item-preserved : goal.loop-item-preserved
loop-item-preserved c =
    let begun = c.loop-item.self.has_list in
    let out = c.loop-item.out in
    record {
      text = c.loop-item.invariant.text
          ∙ ap (λ items. out ++ ends_before c.args.place (stack_on items (Page begun))) c.in-Some.ensures.items
          ∙ passed_text c.args.place out c.append_end.new.out c.in-Some.item c.pop.new.self.items begun
          (omega (arith, c.if-item-place.false)) c.in_ok-append_end.ensures;
      stack = c.loop-item.invariant.stack
          ∙ ap (λ items. around_place c.args.place (stack_on items (Page begun))) c.in-Some.ensures.items
          ∙ passed_open c.args.place c.in-Some.item c.pop.new.self.items begun (omega (arith, c.if-item-place.false));
    }
