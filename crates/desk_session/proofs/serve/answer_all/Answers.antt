use Rattle.std.proofs.Common.{◌≡◌, ◌∙◌, [], Err, ap, arith, length, map, rules, subst, sym}
use Rattle.std.specs.List.{All}
use Rattle.std.specs.Vec.Iter.{into_iter_items}
use Rattle.std.proofs.lemmas.List.Elements.{All-tail}
use Rattle.std.proofs.lemmas.List.{nil_from_length}
use Rattle.dita_doc.specs.Seen.{request_seen}
use Rattle.script_text.specs.Pieces.{IsTaken}
use Rattle.desk_lock.specs.Tokens.{pass_view}
use Rattle.desk_session.specs.SoFar.{HasLeft, Leaves}
use Rattle.desk_session.proofs.serve.answer_all.Goals as goal

pub answer-requires-clause-taken : goal.answer-requires-clause-taken
answer-requires-clause-taken g c = λ κs lives.
    (subst (All IsTaken) c.in-Some.ensures.steps.0 c.loop-request.invariant.taken) 0 c.in-Some.request (omega arith)

pub loop-request-init : goal.loop-request-init
loop-request-init g c = record {
  size = search rules;
  taken = search rules;
  of = c.requires.pass;
  parts = search rules;
  left = λ start left. subst
      (λ requests. HasLeft g.M.Makers.language.clean start (pass_view c.args.pass.now) (g.L.Link.told c.args.link.now)
      c.args.reading.now (map request_seen requests))
      (sym (c.into_iter-request-iterator.ensures.into_iter_gives.0 ∙ c.into_vec-request-items.ensures)) left;
}

pub loop-request-preserved : goal.loop-request-preserved
loop-request-preserved g c = record {
  size = omega (
    arith,
    c.in-Some.ensures.steps.1,
    c.loop-request.invariant.size,
    ap length c.in-Some.ensures.steps.0,
  );
  taken = All-tail IsTaken _ _ (subst (All IsTaken) c.in-Some.ensures.steps.0 c.loop-request.invariant.taken);
  of = c.in_ok-answer.ensures.pass;
  parts = c.in_ok-answer.ensures.parts ∙ c.loop-request.invariant.parts;
  left = λ start left. c.in_ok-answer.ensures.answers start _ (subst
      (λ requests. HasLeft g.M.Makers.language.clean start (pass_view c.loop-request.pass)
      (g.L.Link.told c.loop-request.link) c.loop-request.reading (map request_seen requests))
      c.in-Some.ensures.steps.0 (c.loop-request.invariant.left start left));
}

pub returns-in_err-answer-clause-answers : goal.returns-in_err-answer-clause-answers
returns-in_err-answer-clause-answers g c = λ start left.
    let clean = g.M.Makers.language.clean in
    let ended = c.in_err-answer.field-0.0 in
    let is : c.from_residual.result ≡ Err ended = search rules in
    subst (λ answer. Leaves clean start [] answer (pass_view c.answer.new.pass) (g.L.Link.told c.answer.new.link)
    c.answer.new.reading) (sym is)
    (c.in_err-answer.ensures.answers start _ (subst
    (λ requests. HasLeft clean start (pass_view c.loop-request.pass) (g.L.Link.told c.loop-request.link)
    c.loop-request.reading (map request_seen requests))
    c.in-Some.ensures.steps.0 (c.loop-request.invariant.left start left)))

pub returns-clause-answers : goal.returns-clause-answers
returns-clause-answers g c = λ start left.
    let items = into_iter_items c.loop-request.request-iterator in
    subst (λ requests. HasLeft g.M.Makers.language.clean start (pass_view c.loop-request.pass)
    (g.L.Link.told c.loop-request.link) c.loop-request.reading (map request_seen requests))
    (nil_from_length items (omega (arith, c.loop-request.invariant.size, c.in-None.ensures.steps.0)))
    (c.loop-request.invariant.left start left)
