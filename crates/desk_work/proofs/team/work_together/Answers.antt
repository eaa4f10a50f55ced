use Rattle.std.proofs.Common.{◌++◌, ap, sym, ◌∙◌, length, arith, take, drop, subst}
use Rattle.std.specs.Option.{option_map}
use Rattle.std.specs.Prelude.{All, vec_len}
use Rattle.desk_core.specs.Seen.{snapshot_seen}
use Rattle.desk_lock.specs.Tokens.{pass_view}
use Rattle.desk_work.specs.Dealing.{AreNew, piles_seen}
use Rattle.desk_work.specs.Sites.{ArePartsOf, basis_of}
use Rattle.desk_work.specs.declared.work.Worker.{Worker}
use Rattle.desk_work.proofs.HiredLaws.{all_worked, jobs_of, pile_of_each, rests_fails, team_does, team_fails, works_back}
use Rattle.desk_work.proofs.TeamLists.{written_back}
use Rattle.desk_work.proofs.team.work_together.Goals as goal

pub returns-in_err-team-clause-fails : goal.returns-in_err-team-clause-fails
returns-in_err-team-clause-fails g c =
    rests_fails (basis_of g.P.Parts.plan_agrees g.P.Parts.own_agrees g.P.Parts.is_sound g.M.Makers.language
    (snapshot_seen c.args.site.now.snapshot.now)) c.from_residual.result (pass_view c.args.pass.now)
    (pass_view c.hire.new.pass) (piles_seen c.args.piles.items) c.requires.new c.in_err-team.ensures.same

pub work_all-requires-clause-parts : goal.work_all-requires-clause-parts
work_all-requires-clause-parts g c κs within =
    let root = c.args.site.now.key.now in
    let plan = option_map g.M.Makers.ready_row c.args.site.now.ready.now in
    subst (λ list. All (λ (worker : Worker g.row.P.Denot). ArePartsOf root plan (jobs_of worker)) list)
    (sym c.as_mut_slice.ensures.value)
    (pile_of_each (ArePartsOf root plan) c.in_ok-team.team.workers.items c.args.piles.items c.in_ok-team.ensures.piles
    c.requires.parts)

pub join_all-requires-clause-hands : goal.join_all-requires-clause-hands
join_all-requires-clause-hands g c κs within =
    let snapshot = snapshot_seen c.args.site.now.snapshot.now in
    let basis = basis_of g.P.Parts.plan_agrees g.P.Parts.own_agrees g.P.Parts.is_sound g.M.Makers.language snapshot in
    let plan = option_map g.M.Makers.ready_row c.args.site.now.ready.now in
    let old = c.in_ok-team.team.workers.items in
    let lent = c.as_mut_slice.result.now in
    let new = c.work_all.new.workers in
    let size = c.in_ok-team.team.workers.len in
    let back_is = written_back old new size (omega (arith, c.work_all.ensures.many, c.as_mut_slice.ensures.len)) in
    all_worked basis c.args.site.now.desk.now snapshot plan (pass_view c.args.pass.now) (pass_view c.hire.new.pass)
    (vec_len c.args.piles) lent old new (take size (new ++ drop (length new) old)) c.as_mut_slice.ensures.value back_is
    c.work_all.ensures.many c.in_ok-team.ensures.parted c.in_ok-team.ensures.hands
    (pile_of_each AreNew old c.args.piles.items c.in_ok-team.ensures.piles c.requires.new) c.work_all.ensures.hands
    c.work_all.ensures.works

pub returns-clause-does : goal.returns-clause-does
returns-clause-does g c =
    let basis = basis_of g.P.Parts.plan_agrees g.P.Parts.own_agrees g.P.Parts.is_sound g.M.Makers.language
    (snapshot_seen c.args.site.now.snapshot.now) in
    let old = c.in_ok-team.team.workers.items in
    let lent = c.as_mut_slice.result.now in
    let new = c.work_all.new.workers in
    let size = c.in_ok-team.team.workers.len in
    let back = take size (new ++ drop (length new) old) in
    let back_is = written_back old new size (omega (arith, c.work_all.ensures.many, c.as_mut_slice.ensures.len)) in
    team_does basis (pass_view c.args.pass.now) (pass_view c.hire.new.pass) (pass_view c.join_all.new.pass)
    (vec_len c.args.piles) old back c.args.piles.items c.in_ok-team.ensures.parted c.in_ok-team.ensures.piles
    (ap length back_is ∙ c.work_all.ensures.many ∙ ap length c.as_mut_slice.ensures.value)
    (works_back basis lent old new back c.as_mut_slice.ensures.value back_is c.work_all.ensures.works)
    c.join_all.ensures.goes_on c.join_all.result c.join_all.ensures.left c.join_all.ensures.done

pub returns-clause-fails : goal.returns-clause-fails
returns-clause-fails g c =
    let basis = basis_of g.P.Parts.plan_agrees g.P.Parts.own_agrees g.P.Parts.is_sound g.M.Makers.language
    (snapshot_seen c.args.site.now.snapshot.now) in
    let old = c.in_ok-team.team.workers.items in
    let lent = c.as_mut_slice.result.now in
    let new = c.work_all.new.workers in
    let size = c.in_ok-team.team.workers.len in
    let back = take size (new ++ drop (length new) old) in
    let back_is = written_back old new size (omega (arith, c.work_all.ensures.many, c.as_mut_slice.ensures.len)) in
    team_fails basis (pass_view c.args.pass.now) (pass_view c.hire.new.pass) (pass_view c.join_all.new.pass)
    (vec_len c.args.piles) old back c.args.piles.items c.in_ok-team.ensures.parted c.in_ok-team.ensures.piles
    (ap length back_is ∙ c.work_all.ensures.many ∙ ap length c.as_mut_slice.ensures.value)
    (works_back basis lent old new back c.as_mut_slice.ensures.value back_is c.work_all.ensures.works)
    c.join_all.ensures.goes_on c.join_all.result
