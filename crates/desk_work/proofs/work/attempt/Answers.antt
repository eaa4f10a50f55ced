use Rattle.std.specs.Option.{option_map}
use Rattle.desk_core.specs.Seen.{snapshot_seen}
use Rattle.desk_lock.specs.Tokens.{hand_view}
use Rattle.desk_work.specs.Sites.{basis_of}
use Rattle.desk_work.proofs.AttemptLaws.{drawn_attempts, drawn_may, drawn_stays, err_attempts, have_attempts, have_stays, yours_draws}
use Rattle.desk_work.proofs.StayLaws.{at_work_stays}
use Rattle.desk_work.proofs.work.attempt.Goals as goal

pub returns-in_err-row-clause-attempts : goal.returns-in_err-row-clause-attempts
returns-in_err-row-clause-attempts g c =
    err_attempts (basis_of g.P.Parts.plan_agrees g.P.Parts.own_agrees g.P.Parts.is_sound g.M.Makers.language
    (snapshot_seen c.args.site.now.snapshot.now)) c.args.key.now
    (option_map g.M.Makers.ready_row c.args.site.now.ready.now) (hand_view c.args.hand.now) (hand_view c.claim.new.hand)
    c.from_residual.result c.from_residual.ensures.0 c.in_err-row.ensures.err

pub end_claim-requires-clause-may_publish : goal.end_claim-requires-clause-may_publish
end_claim-requires-clause-may_publish g c =
    let snapshot = snapshot_seen c.args.site.now.snapshot.now in
    let basis = basis_of g.P.Parts.plan_agrees g.P.Parts.own_agrees g.P.Parts.is_sound g.M.Makers.language snapshot in
    let plan = option_map g.M.Makers.ready_row c.args.site.now.ready.now in
    let v = hand_view c.args.hand.now in
    let u = hand_view c.claim.new.hand in
    drawn_may basis c.args.key.now plan v u c.in-Yours.ticket c.make-made.result c.requires.hand.saw
    c.requires.hand.knows (yours_draws basis c.args.key.now plan v u _ c.in-Yours.ticket c.in-Yours.is
    c.in_ok-row.ensures.ok) c.make-made.ensures.made

pub returns-in-Have-clause-hand : goal.returns-in-Have-clause-hand
returns-in-Have-clause-hand g c =
    let snapshot = snapshot_seen c.args.site.now.snapshot.now in
    let basis = basis_of g.P.Parts.plan_agrees g.P.Parts.own_agrees g.P.Parts.is_sound g.M.Makers.language snapshot in
    let plan = option_map g.M.Makers.ready_row c.args.site.now.ready.now in
    at_work_stays c.args.site.now.desk.now snapshot plan c.args.hand.now c.claim.new.hand c.requires.hand
    c.claim.ensures.hand (have_stays basis c.args.key.now plan (hand_view c.args.hand.now) (hand_view c.claim.new.hand) _
    c.in-Have.row c.in-Have.is c.in_ok-row.ensures.ok)

pub returns-in-Have-clause-attempts : goal.returns-in-Have-clause-attempts
returns-in-Have-clause-attempts g c =
    let snapshot = snapshot_seen c.args.site.now.snapshot.now in
    let basis = basis_of g.P.Parts.plan_agrees g.P.Parts.own_agrees g.P.Parts.is_sound g.M.Makers.language snapshot in
    let plan = option_map g.M.Makers.ready_row c.args.site.now.ready.now in
    have_attempts basis c.args.key.now plan (hand_view c.args.hand.now) (hand_view c.claim.new.hand) _ c.in-Have.row
    c.in-Have.is c.in_ok-row.ensures.ok

pub returns-in-Yours-clause-hand : goal.returns-in-Yours-clause-hand
returns-in-Yours-clause-hand g c =
    let snapshot = snapshot_seen c.args.site.now.snapshot.now in
    let basis = basis_of g.P.Parts.plan_agrees g.P.Parts.own_agrees g.P.Parts.is_sound g.M.Makers.language snapshot in
    let plan = option_map g.M.Makers.ready_row c.args.site.now.ready.now in
    let v = hand_view c.args.hand.now in
    let u = hand_view c.claim.new.hand in
    at_work_stays c.args.site.now.desk.now snapshot plan c.args.hand.now c.end_claim.new.hand c.requires.hand
    c.end_claim.ensures.hand (drawn_stays basis c.args.key.now plan v u (hand_view c.end_claim.new.hand)
    c.in-Yours.ticket c.make-made.result c.end_claim.result (yours_draws basis c.args.key.now plan v u _
    c.in-Yours.ticket c.in-Yours.is c.in_ok-row.ensures.ok) c.make-made.ensures.made c.end_claim.ensures.ends)

pub returns-in-Yours-clause-attempts : goal.returns-in-Yours-clause-attempts
returns-in-Yours-clause-attempts g c =
    let snapshot = snapshot_seen c.args.site.now.snapshot.now in
    let basis = basis_of g.P.Parts.plan_agrees g.P.Parts.own_agrees g.P.Parts.is_sound g.M.Makers.language snapshot in
    let plan = option_map g.M.Makers.ready_row c.args.site.now.ready.now in
    let v = hand_view c.args.hand.now in
    let u = hand_view c.claim.new.hand in
    drawn_attempts basis c.args.key.now plan v u (hand_view c.end_claim.new.hand) c.in-Yours.ticket c.make-made.result
    c.end_claim.result c.requires.hand.saw (yours_draws basis c.args.key.now plan v u _ c.in-Yours.ticket c.in-Yours.is
    c.in_ok-row.ensures.ok) c.make-made.ensures.made c.end_claim.ensures.ends
