use Rattle.std.proofs.Common.{◌≡◌, ℕ, List, ap, arith, length, subst, sym, vec_len}
use Rattle.std.specs.Option.{option_map}
use Rattle.dita_doc.specs.declared.fact.FactKey.{FactKey}
use Rattle.desk_core.specs.Seen.{snapshot_seen}
use Rattle.desk_lock.specs.Lists.{Each}
use Rattle.desk_lock.specs.Tokens.{pass_view}
use Rattle.desk_work.specs.Rounds.{parts_behind}
use Rattle.desk_work.specs.Sites.{IsPartOf, basis_of}
use Rattle.desk_work.proofs.BuildLaws.{behind_count, parts_are_of}
use Rattle.desk_work.proofs.RoundLaws.{on_err, tries_none}
use Rattle.desk_work.proofs.rounds.part_rows.Goals as goal

pub returns-in_err-parts-clause-tries : goal.returns-in_err-parts-clause-tries
returns-in_err-parts-clause-tries g c =
    let basis = basis_of g.P.Parts.plan_agrees g.P.Parts.own_agrees g.P.Parts.is_sound g.M.Makers.language
    (snapshot_seen c.args.site.now.snapshot.now) in
    on_err c.from_residual.result (tries_none basis (pass_view c.args.pass.now)
    (parts_behind c.args.site.now.key.now c.args.plan.now))

pub returns-in_err-weights-clause-tries : goal.returns-in_err-weights-clause-tries
returns-in_err-weights-clause-tries g c =
    let basis = basis_of g.P.Parts.plan_agrees g.P.Parts.own_agrees g.P.Parts.is_sound g.M.Makers.language
    (snapshot_seen c.args.site.now.snapshot.now) in
    on_err c.from_residual-in_err-weights.result (tries_none basis (pass_view c.args.pass.now)
    (parts_behind c.args.site.now.key.now c.args.plan.now))

pub team_size-count-requires-clause-some : goal.team_size-count-requires-clause-some
team_size-count-requires-clause-some g c =
    let parts = c.in_ok-parts.parts in
    let behind = behind_count c.args.site.now.key.now c.args.plan.now parts.items c.in_ok-parts.ensures in
    let size : vec_len parts ≡ length parts.items = parts.ok.0 in
    omega (arith, behind, size)

pub rows_of-requires-clause-weighed : goal.rows_of-requires-clause-weighed
rows_of-requires-clause-weighed g c κs within =
    let parts = c.in_ok-parts.parts in
    let weighs = c.in_ok-weights.weights in
    let behind = behind_count c.args.site.now.key.now c.args.plan.now parts.items c.in_ok-parts.ensures in
    let size : vec_len parts ≡ length parts.items = parts.ok.0 in
    let weighed : vec_len weighs ≡ length weighs.items = weighs.ok.0 in
    let lent = ap (λ (list : List ℕ). length list) c.as_slice.ensures.value in
    omega (arith, behind, size, weighed, lent, c.in_ok-weights.ensures)

pub rows_of-requires-clause-parts : goal.rows_of-requires-clause-parts
rows_of-requires-clause-parts g c κs within =
    let key = c.args.site.now.key.now in
    let plan = option_map g.M.Makers.ready_row c.args.site.now.ready.now in
    subst (λ (keys : List FactKey). Each (IsPartOf key plan) keys) (sym c.in_ok-parts.ensures)
    (parts_are_of key c.args.plan.now plan c.requires.plan)
