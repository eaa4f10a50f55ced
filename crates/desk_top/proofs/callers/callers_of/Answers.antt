use Rattle.std.proofs.Common.{rules, ◌∙◌, ◌++◌, [], ◌∷◌, map, ap, sym, subst, arith, length, refl}
use Rattle.std.specs.List.{All}
use Rattle.std.proofs.lemmas.List.{map-append}
use Rattle.std.proofs.lemmas.List.Elements.{All-push, All-tail}
use Rattle.desk_lock.specs.declared.view.View.{View}
use Rattle.desk_top.specs.Served.{AreInOrder, IsReady}
use Rattle.desk_top.proofs.PileLaws.{order_push, pile_of}
use Rattle.desk_top.proofs.ServedLaws.{AllMayBeAsked, caller_ready, none_parted, same_limits}
use Rattle.desk_top.proofs.callers.callers_of.Goals as goal

pub loop-asked-preserved : goal.loop-asked-preserved
loop-asked-preserved c =
    let all = subst (All AllMayBeAsked) c.in-Some.ensures.steps.0 c.loop-asked.invariant.requests in
    record {
      size = omega (arith, c.in-Some.ensures.steps.1, c.loop-asked.invariant.size, ap length c.in-Some.ensures.steps.0);
      requests = All-tail AllMayBeAsked _ _ all;
      numbered = omega (arith, c.in-Some.ensures.steps.1, c.loop-asked.invariant.numbered);
      count = search rules;
      room = search rules;
      of = c.session.ensures.pass;
      parts = search rules;
      none = none_parted _ _ _ _ _ c.session.ensures.splits c.loop-asked.invariant.none;
      limits = same_limits _ _ _ _ _ c.session.ensures.splits ∙ c.loop-asked.invariant.limits;
      ready = subst (All (IsReady c.args.desk.now)) (sym c.push_reserved.ensures.items)
          (All-push (IsReady c.args.desk.now) _ _ c.loop-asked.invariant.ready
          (caller_ready c.args.desk.now _ _ _ _ c.session.ensures.new c.session.ensures.splits c.new.ensures.items
          (all 0 c.in-Some.asked (omega arith)) refl));
      order = subst AreInOrder (sym c.push_reserved.ensures.items) (order_push _ _ c.loop-asked.invariant.order
          (ap (λ (u : View). u.session) c.session.ensures.splits.got
          ∙ omega (arith, c.loop-asked.invariant.count, c.loop-asked.callers.ok.0)));
      asked = ap (map pile_of) c.push_reserved.ensures.items ∙ map-append pile_of c.loop-asked.callers.items _
          ∙ ap (λ list. list ++ c.in-Some.asked ∷ []) c.loop-asked.invariant.asked;
    }
