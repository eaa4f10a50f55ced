use Rattle.std.proofs.Common.{ap, arith, length, subst, sym}
use Rattle.std.specs.List.{All}
use Rattle.std.proofs.lemmas.List.{length_push}
use Rattle.std.proofs.lemmas.List.Elements.{All-push, All-tail}
use Rattle.script_text.specs.Facts.{HasFew, HasUtf8, IsInSession, IsOwnStep}
use Rattle.desk_top.specs.Served.{MayBeAsked}
use Rattle.desk_top.proofs.TrialLaws.{one_moved}
use Rattle.desk_top.proofs.trial.in_one_session.Goals as goal

pub loop-request-preserved : goal.loop-request-preserved
loop-request-preserved c =
    let utf8 = subst (All HasUtf8) c.in-Some.ensures.steps.0 c.loop-request.invariant.utf8 in
    let few = subst (All HasFew) c.in-Some.ensures.steps.0 c.loop-request.invariant.few in
    let own = subst (All IsOwnStep) c.in-Some.ensures.steps.0 c.loop-request.invariant.own in
    record {
      size = omega (arith, c.in-Some.ensures.steps.1, c.loop-request.invariant.size, ap length c.in-Some.ensures.steps.0);
      utf8 = All-tail HasUtf8 _ _ utf8;
      few = All-tail HasFew _ _ few;
      own = All-tail IsOwnStep _ _ own;
      many = omega (
        arith,
        ap length c.in_ok-push.ensures,
        length_push c.loop-request.same (1, c.in-Some.request),
        c.in-Some.ensures.steps.1,
        c.loop-request.invariant.many,
      );
      told = one_moved _ _ _ _ _ c.in-Some.field-0-0 c.in-Some.request c.in_ok-push.ensures
          c.in-Some.ensures.steps.0 c.loop-request.invariant.told;
      sessions = subst (All IsInSession) (sym c.in_ok-push.ensures)
          (All-push IsInSession c.loop-request.same (1, c.in-Some.request) c.loop-request.invariant.sessions
          (omega arith, omega arith));
      asked = subst (All MayBeAsked) (sym c.in_ok-push.ensures)
          (All-push MayBeAsked c.loop-request.same (1, c.in-Some.request) c.loop-request.invariant.asked (record {
            origin = own 0 (c.in-Some.field-0-0, c.in-Some.request) (omega arith);
            few = few 0 (c.in-Some.field-0-0, c.in-Some.request) (omega arith);
            utf8 = utf8 0 (c.in-Some.field-0-0, c.in-Some.request) (omega arith);
          }));
    }
