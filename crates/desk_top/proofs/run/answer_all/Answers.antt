use Rattle.std.proofs.Common.{rules, ◌≡◌, sym, ◌++◌, ℕ, List, ap, ◌∙◌, arith, length, subst}
use Rattle.std.specs.List.{All}
use Rattle.std.specs.Vec.Iter.{into_iter_items}
use Rattle.std.proofs.lemmas.List.Elements.{All-tail}
use Rattle.dita_doc.specs.Bytes.{Bytes}
use Rattle.dita_doc.specs.declared.request.Request as given
use Rattle.dita_doc.proofs.Lists.{no_more}
use Rattle.script_text.specs.Facts.{IsOwnStep}
use Rattle.script_text.specs.Read.{step_seen, steps_seen}
use Rattle.script_text.proofs.ScriptFacts.{script_fits}
use Rattle.version_store.specs.Kept.{Kept}
use Rattle.desk_top.proofs.RunLaws.{HasAnswered, none_answered, one_answered, room_left, answer_begun, none_left, all_told, all_in_form}
use Rattle.desk_top.proofs.TakesLaws.{puts_front}
use Rattle.desk_top.proofs.run.answer_all.Goals as goal

pub loop-session-init : goal.loop-session-init
loop-session-init g c =
    let items : into_iter_items c.into_iter-session-iterator.result ≡ c.args.script.steps =
    c.into_iter-session-iterator.ensures.into_iter_gives.0 ∙ c.into_vec-session-items.ensures in
    record {
      size = search rules;
      own = subst (All IsOwnStep) (sym items) c.args.script.origins;
      desk = search rules;
      answered = none_answered c.args.with_terms _ _ _ _ _ (script_fits c.args.script) (ap steps_seen items)
          (ap (λ (kept : Kept). kept.history) c.in_ok-store.ensures) c.in_ok-text.ensures;
      counted = search rules;
    }

pub answer-requires-clause-origin : goal.answer-requires-clause-origin
answer-requires-clause-origin g c =
    (subst (All IsOwnStep) c.in-Some.ensures.steps.0 c.loop-session.invariant.own) 0
    (c.in-Some.session, c.in-Some.request) (omega arith)

pub answer-requires-clause-room : goal.answer-requires-clause-room
answer-requires-clause-room g c =
    let all = steps_seen c.args.script.steps in
    let text = c.loop-session.text in
    let store = c.loop-session.store in
    let before =
    subst (λ (left : List (ℕ × given.Request)). HasAnswered c.args.with_terms all store.history (steps_seen left) text
    (g.O.Outlet.pages c.args.outlet.now) (g.O.Outlet.pages c.loop-session.outlet)) c.in-Some.ensures.steps.0
    c.loop-session.invariant.answered in
    room_left c.args.with_terms all store.history (step_seen (c.in-Some.session, c.in-Some.request))
    (steps_seen (into_iter_items c.next.new.self)) text _ _ (script_fits c.args.script) before

pub loop-session-preserved : goal.loop-session-preserved
loop-session-preserved g c =
    let all = steps_seen c.args.script.steps in
    let before =
    subst (λ (left : List (ℕ × given.Request)). HasAnswered c.args.with_terms all c.loop-session.store.history
    (steps_seen left) c.loop-session.text (g.O.Outlet.pages c.args.outlet.now)
    (g.O.Outlet.pages c.loop-session.outlet)) c.in-Some.ensures.steps.0 c.loop-session.invariant.answered in
    record {
      size = omega (
        arith,
        c.in-Some.ensures.steps.1,
        c.loop-session.invariant.size,
        ap length c.in-Some.ensures.steps.0,
      );
      own = All-tail IsOwnStep _ _ (subst (All IsOwnStep) c.in-Some.ensures.steps.0 c.loop-session.invariant.own);
      desk = c.in_ok-answer.ensures.desk;
      answered = one_answered c.args.with_terms _ _ _ _ _ _ _ _ _ _ before c.in_ok-answer.ensures.ok c.in_ok-answer.ensures.pages;
      counted = c.in_ok-answer.ensures.cause.stays ∙ c.loop-session.invariant.counted;
    }

pub returns-in_err-answer-clause-pages : goal.returns-in_err-answer-clause-pages
returns-in_err-answer-clause-pages g c =
    let all = steps_seen c.args.script.steps in
    let before =
    subst (λ (left : List (ℕ × given.Request)). HasAnswered c.args.with_terms all c.loop-session.store.history
    (steps_seen left) c.loop-session.text (g.O.Outlet.pages c.args.outlet.now)
    (g.O.Outlet.pages c.loop-session.outlet)) c.in-Some.ensures.steps.0 c.loop-session.invariant.answered in
    puts_front _ _ _ _ c.from_residual-in_err-answer.result c.from_residual-in_err-answer.ensures.1
    (answer_begun c.args.with_terms _ _ _ _ _ _ _ _ before c.in_err-answer.ensures.pages)

pub returns-clause-text : goal.returns-clause-text
returns-clause-text g c =
    let none = no_more (into_iter_items c.loop-session.session-iterator) _ c.loop-session.invariant.size
    c.in-None.ensures.steps.0 in
    let before = none_left c.args.with_terms _ _ _ _ _ _ (ap steps_seen none) c.loop-session.invariant.answered in
    all_told c.args.with_terms (steps_seen c.args.script.steps) c.loop-session.store.history c.loop-session.text c.append.new.self
    c.entries.result _ _ before c.entries.ensures.value
    (c.in_ok-append.ensures ∙ ap (λ (more : Bytes). c.loop-session.text ++ more) (c.as_slice.ensures
    ∙ c.in_ok-end.ensures))

pub returns-clause-form : goal.returns-clause-form
returns-clause-form g c =
    let none = no_more (into_iter_items c.loop-session.session-iterator) _ c.loop-session.invariant.size
    c.in-None.ensures.steps.0 in
    let before = none_left c.args.with_terms _ _ _ _ _ _ (ap steps_seen none) c.loop-session.invariant.answered in
    all_in_form c.args.with_terms (steps_seen c.args.script.steps) _ _ _ _ (script_fits c.args.script) before
