use Rattle.std.proofs.Common.{◌∙◌}
use Rattle.desk_core.specs.Seen.{snapshot_seen}
use Rattle.desk_lock.specs.Tokens.{pass_view}
use Rattle.desk_work.specs.Cited.{rows_seen}
use Rattle.desk_work.specs.Rounds.{parts_behind}
use Rattle.desk_work.specs.Sites.{basis_of}
use Rattle.desk_work.proofs.BuildLaws.{gets_count, gets_tries, puts_together}
use Rattle.desk_work.proofs.RoundLaws.{on_err, tries_none}
use Rattle.desk_work.proofs.building.build_plan.Goals as goal

pub returns-in_err-ready-clause-tries : goal.returns-in_err-ready-clause-tries
returns-in_err-ready-clause-tries g c =
    let basis = basis_of g.P.Parts.plan_agrees g.P.Parts.own_agrees g.P.Parts.is_sound g.M.Makers.language
    (snapshot_seen c.args.site.now.snapshot.now) in
    on_err c.from_residual.result (tries_none basis (pass_view c.args.pass.now)
    (parts_behind c.args.site.now.key.now c.args.plan.now))

pub outcome_of-requires : goal.outcome_of-requires
outcome_of-requires g c =
    let basis = basis_of g.P.Parts.plan_agrees g.P.Parts.own_agrees g.P.Parts.is_sound g.M.Makers.language
    (snapshot_seen c.args.site.now.snapshot.now) in
    c.in_ok-rows.rows.ok.0 ∙ gets_count basis (pass_view c.args.pass.now) (pass_view c.part_rows.new.pass)
    c.args.site.now.key.now c.args.plan.now c.in_ok-rows.rows.items c.in_ok-rows.ensures.gets

pub returns-clause-together : goal.returns-clause-together
returns-clause-together g c =
    let basis = basis_of g.P.Parts.plan_agrees g.P.Parts.own_agrees g.P.Parts.is_sound g.M.Makers.language
    (snapshot_seen c.args.site.now.snapshot.now) in
    puts_together basis (pass_view c.args.pass.now) (pass_view c.part_rows.new.pass) c.args.site.now.key.now
    c.args.plan.now c.in_ok-rows.rows.items c.outcome_of.result c.in_ok-rows.ensures.gets c.outcome_of.ensures.outcome
    c.outcome_of.ensures.named

pub returns-clause-tries : goal.returns-clause-tries
returns-clause-tries g c =
    let basis = basis_of g.P.Parts.plan_agrees g.P.Parts.own_agrees g.P.Parts.is_sound g.M.Makers.language
    (snapshot_seen c.args.site.now.snapshot.now) in
    on_err c.outcome_of.result (gets_tries basis (pass_view c.args.pass.now) (pass_view c.part_rows.new.pass)
    (parts_behind c.args.site.now.key.now c.args.plan.now) (rows_seen c.in_ok-rows.rows.items) c.in_ok-rows.ensures.gets)
