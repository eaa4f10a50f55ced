use Rattle.std.proofs.Common.{rules, ◌≡◌, ◌∙◌, ◌++◌, [], ◌∷◌, map, ap, sym, subst, arith, length, true≢false}
use Rattle.std.specs.List.{All}
use Rattle.std.proofs.lemmas.List.{map-append, nil_from_length}
use Rattle.std.proofs.lemmas.List.Elements.{All-nil, All-push, All-tail}
use Rattle.desk_lock.specs.Tokens.{pass_view}
use Rattle.desk_lock.specs.declared.view.View.{View}
use Rattle.desk_top.specs.Asked.{TakesIn}
use Rattle.desk_top.specs.Served.{HasEnded, HasGiven, HasItsPages, IsWell, built_by, together, view_of}
use Rattle.desk_top.specs.SessionMade.{TakesRows}
use Rattle.desk_top.proofs.GatherLaws.{rows_more, rows_none}
use Rattle.desk_top.proofs.HistoryLaws.{takes_more, takes_none}
use Rattle.desk_top.proofs.PileLaws.{vec_whole}
use Rattle.desk_top.proofs.ServedLaws.{given_none, given_together, pages_together}
use Rattle.desk_top.proofs.callers.end_all.Goals as goal
use Rattle.desk_top.proofs.callers.end_all.Goals.{then-failed, else-failed}

pub loop-caller-init : goal.loop-caller-init
loop-caller-init c =
    let none_left = nil_from_length c.args.left.now.items (omega (arith, c.requires.none_left, c.args.left.now.ok.0)) in
    record {
      size = search rules;
      ended = search rules;
      of = c.requires.pass;
      parts = search rules;
      room = search rules;
      pages = subst (λ left. All HasItsPages (together left)) (sym none_left) (All-nil HasItsPages);
      given = λ well. subst (λ left. HasGiven (pass_view c.args.pass.now) (together left)) (sym none_left)
          (given_none (pass_view c.args.pass.now) c.requires.none);
      left = none_left;
      well = λ well. All-nil IsWell;
      takes = takes_none (pass_view c.args.pass.now);
      rows = rows_none (pass_view c.args.pass.now);
    }

pub loop-caller-preserved : goal.loop-caller-preserved
loop-caller-preserved c =
    let all = subst (All (HasEnded c.args.desk.now)) c.in-Some.ensures.steps.0 c.loop-caller.invariant.ended in
    let first : HasEnded c.args.desk.now c.in-Some.caller = all 0 c.in-Some.caller (omega arith) in
    record {
      size = omega (arith, c.in-Some.ensures.steps.1, c.loop-caller.invariant.size, ap length c.in-Some.ensures.steps.0);
      ended = All-tail (HasEnded c.args.desk.now) _ _ all;
      of = c.end_session.ensures.pass;
      parts = omega (
        arith,
        ap (λ (u : View). u.parts) c.end_session.ensures.joins.knows,
        first.at.parts,
        c.in-Some.ensures.steps.1,
        c.loop-caller.invariant.parts,
      );
      room = omega (
        arith,
        c.push_reserved.ensures.len,
        c.push_reserved.ensures.capacity,
        c.in-Some.ensures.steps.1,
        c.loop-caller.invariant.room,
      );
      pages = subst (λ left. All HasItsPages (together left)) (sym c.push_reserved.ensures.items)
          (pages_together c.loop-caller.left.items c.in-Some.caller.session.built c.loop-caller.invariant.pages first.at.pages);
      given = λ well. elim c.if-failed.branch [
        | then-failed w ↦ absurd (true≢false (sym w.if-failed.true ∙ sym w.failed-is ∙ well))
        | else-failed w ↦ subst (λ left. HasGiven (pass_view c.end_session.new.pass) (together left))
            (sym c.push_reserved.ensures.items)
            (given_together (pass_view c.loop-caller.pass) (pass_view c.in-Some.caller.session.pass)
            (pass_view c.end_session.new.pass) c.loop-caller.left.items c.in-Some.caller.session.built
            c.end_session.ensures.joins (c.loop-caller.invariant.given w.if-failed.false)
            (first.answered (sym w.failed-is ∙ well)).given)
      ];
      left = c.push_reserved.ensures.items ∙ ap (λ list. list ++ built_by c.in-Some.caller ∷ []) c.loop-caller.invariant.left
          ∙ sym (map-append built_by c.loop-caller.yielded (c.in-Some.caller ∷ []));
      well = λ well. elim c.if-failed.branch [
        | then-failed w ↦ absurd (true≢false (sym w.if-failed.true ∙ sym w.failed-is ∙ well))
        | else-failed w ↦ All-push IsWell c.loop-caller.yielded c.in-Some.caller
            (c.loop-caller.invariant.well w.if-failed.false) (sym w.failed-is ∙ well)
      ];
      takes = subst (λ views. TakesIn (pass_view c.args.pass.now) views (pass_view c.end_session.new.pass))
          (sym (map-append view_of c.loop-caller.yielded (c.in-Some.caller ∷ [])))
          (takes_more _ _ _ _ _ c.loop-caller.invariant.takes c.end_session.ensures.joins);
      rows = subst (λ views. TakesRows (pass_view c.args.pass.now) views (pass_view c.end_session.new.pass))
          (sym (map-append view_of c.loop-caller.yielded (c.in-Some.caller ∷ [])))
          (rows_more _ _ _ _ _ c.loop-caller.invariant.rows c.end_session.ensures.joins);
    }

whole : (c : goal.After-drop-caller-iterator) → c.loop-caller.yielded ≡ c.args.callers.items
whole c = vec_whole c.args.callers c.into_iter-caller-iterator.result c.loop-caller.caller-iterator c.next.new.self
    c.loop-caller.yielded c.next.result c.into_iter-caller-iterator.ensures.into_iter_gives.0
    c.into_iter-caller-iterator.ensures.into_iter_gives.1 c.loop-caller.yielded_by c.in-None.is c.next.ensures.steps

pub returns-clause-left : goal.returns-clause-left
returns-clause-left c = c.loop-caller.invariant.left ∙ ap (map built_by) (whole c)

pub returns-clause-well : goal.returns-clause-well
returns-clause-well c = λ well. subst (All IsWell) (whole c) (c.loop-caller.invariant.well well)

pub returns-clause-takes : goal.returns-clause-takes
returns-clause-takes c = subst (λ list. TakesIn (pass_view c.args.pass.now) (map view_of list) (pass_view c.loop-caller.pass))
    (whole c) c.loop-caller.invariant.takes

pub returns-clause-rows : goal.returns-clause-rows
returns-clause-rows c = subst (λ list. TakesRows (pass_view c.args.pass.now) (map view_of list) (pass_view c.loop-caller.pass))
    (whole c) c.loop-caller.invariant.rows
