use Rattle.std.specs.Option.{option_map}
use Rattle.desk_core.specs.Seen.{snapshot_seen}
use Rattle.desk_lock.specs.Tokens.{pass_view}
use Rattle.desk_work.specs.Attempts.{jobs_seen}
use Rattle.desk_work.specs.Cited.{rows_seen}
use Rattle.desk_work.specs.Dealing.{all_of, piles_seen}
use Rattle.desk_work.specs.Sites.{basis_of}
use Rattle.desk_work.proofs.RoundLaws.{dealt_still, done_same, on_err, piles_of, team_failed, team_got, team_tried, tries_none}
use Rattle.desk_work.proofs.rounds.rows_of.Goals as goal

pub returns-in_err-piles-clause-tries : goal.returns-in_err-piles-clause-tries
returns-in_err-piles-clause-tries g c =
    let basis = basis_of g.P.Parts.plan_agrees g.P.Parts.own_agrees g.P.Parts.is_sound g.M.Makers.language
    (snapshot_seen c.args.site.now.snapshot.now) in
    on_err c.from_residual.result (tries_none basis (pass_view c.args.pass.now) c.args.parts.items)

pub work_together-requires-clause-parts : goal.work_together-requires-clause-parts
work_together-requires-clause-parts g c κs within =
    piles_of c.args.site.now.key.now (option_map g.M.Makers.ready_row c.args.site.now.ready.now)
    c.in_ok-piles.field-0.homes.items c.args.parts.items (piles_seen c.in_ok-piles.field-0.piles.items)
    c.in_ok-piles.ensures.dealt c.requires.parts

pub returns-in_err-piles-2-clause-tries : goal.returns-in_err-piles-2-clause-tries
returns-in_err-piles-2-clause-tries g c =
    let basis = basis_of g.P.Parts.plan_agrees g.P.Parts.own_agrees g.P.Parts.is_sound g.M.Makers.language
    (snapshot_seen c.args.site.now.snapshot.now) in
    on_err c.from_residual-in_err-piles-2.result (team_failed basis (pass_view c.args.pass.now)
    (pass_view c.work_together.new.pass) c.in_ok-piles.field-0.homes.items c.args.parts.items
    (piles_seen c.in_ok-piles.field-0.piles.items) c.in_ok-piles.ensures.dealt c.in_err-piles-2.ensures.fails)

pub returns-in_err-jobs-clause-tries : goal.returns-in_err-jobs-clause-tries
returns-in_err-jobs-clause-tries g c =
    let basis = basis_of g.P.Parts.plan_agrees g.P.Parts.own_agrees g.P.Parts.is_sound g.M.Makers.language
    (snapshot_seen c.args.site.now.snapshot.now) in
    on_err c.from_residual-in_err-jobs.result (team_tried basis (pass_view c.args.pass.now)
    (pass_view c.work_together.new.pass) c.in_ok-piles.field-0.homes.items c.args.parts.items
    (piles_seen c.in_ok-piles.field-0.piles.items) (piles_seen c.in_ok-piles-2.piles.items) c.in_ok-piles.ensures.dealt
    c.in_ok-piles-2.ensures.does)

pub cited-requires : goal.cited-requires
cited-requires g c = done_same (all_of (piles_seen c.in_ok-piles-2.piles.items)) (jobs_seen c.in_ok-jobs.jobs.items)
    c.in_ok-jobs.ensures.same c.in_ok-piles-2.ensures.does.done

pub returns-in_err-cited-clause-tries : goal.returns-in_err-cited-clause-tries
returns-in_err-cited-clause-tries g c =
    let basis = basis_of g.P.Parts.plan_agrees g.P.Parts.own_agrees g.P.Parts.is_sound g.M.Makers.language
    (snapshot_seen c.args.site.now.snapshot.now) in
    on_err c.from_residual-in_err-cited.result (team_tried basis (pass_view c.args.pass.now)
    (pass_view c.work_together.new.pass) c.in_ok-piles.field-0.homes.items c.args.parts.items
    (piles_seen c.in_ok-piles.field-0.piles.items) (piles_seen c.in_ok-piles-2.piles.items) c.in_ok-piles.ensures.dealt
    c.in_ok-piles-2.ensures.does)

pub returns-clause-gets : goal.returns-clause-gets
returns-clause-gets g c =
    let basis = basis_of g.P.Parts.plan_agrees g.P.Parts.own_agrees g.P.Parts.is_sound g.M.Makers.language
    (snapshot_seen c.args.site.now.snapshot.now) in
    let piles = piles_seen c.in_ok-piles.field-0.piles.items in
    let more = piles_seen c.in_ok-piles-2.piles.items in
    team_got basis (pass_view c.args.pass.now) (pass_view c.work_together.new.pass) c.args.parts.items piles more
    (jobs_seen c.in_ok-jobs.jobs.items) (rows_seen c.in_ok-cited.field-0.items) c.in_ok-piles-2.ensures.does
    (c.in_ok-jobs.ensures.keys c.args.parts.items (dealt_still c.in_ok-piles.field-0.homes.items c.args.parts.items piles
    more c.in_ok-piles-2.ensures.does.teams.same c.in_ok-piles.ensures.dealt)) c.in_ok-jobs.ensures.same
    c.in_ok-cited.ensures
