use Rattle.std.proofs.Common.{◌∙◌, ap, sym, subst, arith, length}
use Rattle.std.specs.List.{All}
use Rattle.std.proofs.lemmas.List.{nil_from_length}
use Rattle.std.proofs.lemmas.List.Elements.{All-tail}
use Rattle.script_text.specs.Facts.{IsInSession}
use Rattle.script_text.specs.Read.{steps_seen}
use Rattle.desk_top.specs.Served.{MayBeAsked}
use Rattle.desk_top.proofs.PileLaws.{AreFirstPiles, first_all, first_more}
use Rattle.desk_top.proofs.callers.put_all.Goals as goal

pub put-requires-clause-asked : goal.put-requires-clause-asked
put-requires-clause-asked c =
    let may = (subst (All MayBeAsked) c.in-Some.ensures.steps.0 c.loop-session.invariant.requests) 0
    (c.in-Some.session, c.in-Some.request) (omega arith) in
    record { origin = may.origin; few = may.few; utf8 = may.utf8 }

pub loop-session-preserved : goal.loop-session-preserved
loop-session-preserved c =
    let in_session = (subst (All IsInSession) c.in-Some.ensures.steps.0 c.loop-session.invariant.sessions) 0
    (c.in-Some.session, c.in-Some.request) (omega arith) in
    record {
      size = omega (arith, c.in-Some.ensures.steps.1, c.loop-session.invariant.size, ap length c.in-Some.ensures.steps.0);
      sessions = All-tail IsInSession _ _ (subst (All IsInSession) c.in-Some.ensures.steps.0 c.loop-session.invariant.sessions);
      requests = All-tail MayBeAsked _ _ (subst (All MayBeAsked) c.in-Some.ensures.steps.0 c.loop-session.invariant.requests);
      numbered = omega (
        arith,
        c.in-Some.ensures.steps.1,
        c.loop-session.invariant.size,
        c.loop-session.invariant.numbered,
        ap length c.in-Some.ensures.steps.0,
      );
      count = c.in_ok-put.ensures.count ∙ c.loop-session.invariant.count;
      asked = c.in_ok-put.ensures.all;
      piles = first_more (steps_seen c.args.steps) _ c.loop-session.number _ c.in-Some.session c.in-Some.request
          c.loop-session.piles _ (omega (arith, in_session.0)) c.in_ok-put.ensures.count c.in_ok-put.ensures.put
          (subst (λ list. AreFirstPiles (steps_seen c.args.steps) c.loop-session.number (steps_seen list) c.loop-session.piles)
          c.in-Some.ensures.steps.0 c.loop-session.invariant.piles);
    }

pub returns-clause-piles : goal.returns-clause-piles
returns-clause-piles c = first_all (steps_seen c.args.steps) c.loop-session.number c.loop-session.piles
    (subst (λ list. AreFirstPiles (steps_seen c.args.steps) c.loop-session.number (steps_seen list) c.loop-session.piles)
    (nil_from_length _ (sym c.loop-session.invariant.size ∙ c.in-None.ensures.steps.0)) c.loop-session.invariant.piles)
