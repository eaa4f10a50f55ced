use Rattle.std.proofs.Common.{◌≡◌, [], ◌∷◌, Err, IfOk, Ok, OnErr, ap, refl, rules, subst}
use Rattle.std.specs.Option.{option_copied}
use Rattle.dita_doc.specs.declared.fact.FactKey.{FactKey}
use Rattle.dita_doc.specs.declared.fact.Part.TheVariants as part_spec
use Rattle.facts.specs.Rows.{plan_in, row_data}
use Rattle.desk_core.specs.Seen.{snapshot_seen}
use Rattle.desk_lock.specs.Tokens.{pass_view}
use Rattle.desk_language.specs.Language.{key_of}
use Rattle.desk_work.specs.Rounds.{Builds, ComesSoFar}
use Rattle.desk_work.specs.Sites.{basis_of}
use Rattle.desk_work.specs.declared.built.Outcome.TheVariants.{Stopped}
use Rattle.desk_work.proofs.BuildLaws.{builds_if, builds_stopped, got_plan, may_hire_on, none_so_far, plan_so_far, plan_told, so_far_if}
use Rattle.desk_work.proofs.RoundLaws.{on_err, tries_same}
use Rattle.desk_work.proofs.building.build_over.Goals as goal

pub returns-in_err-key-clause-so_far : goal.returns-in_err-key-clause-so_far
returns-in_err-key-clause-so_far g c =
    let basis = basis_of g.P.Parts.plan_agrees g.P.Parts.own_agrees g.P.Parts.is_sound g.M.Makers.language
    (snapshot_seen c.args.snapshot.now) in
    on_err c.from_residual.result (none_so_far basis (pass_view c.args.pass.now)
    (key_of c.args.map.now (option_copied c.args.val) part_spec.Plan))

pub returns-in_err-planned-clause-so_far : goal.returns-in_err-planned-clause-so_far
returns-in_err-planned-clause-so_far g c =
    let basis = basis_of g.P.Parts.plan_agrees g.P.Parts.own_agrees g.P.Parts.is_sound g.M.Makers.language
    (snapshot_seen c.args.snapshot.now) in
    let u = pass_view c.args.pass.now in
    let v = pass_view c.plan_row.new.pass in
    let root = key_of c.args.map.now (option_copied c.args.val) part_spec.Plan in
    on_err c.from_residual-in_err-planned.result (plan_so_far basis u v root refl
    (tries_same basis u v (c.in_ok-key.key ∷ []) (root ∷ []) (ap (λ (key : FactKey). key ∷ []) c.in_ok-key.ensures)
    c.in_err-planned.ensures.tries))

pub build_plan-requires-clause-pass : goal.build_plan-requires-clause-pass
build_plan-requires-clause-pass g c κs within =
    let basis = basis_of g.P.Parts.plan_agrees g.P.Parts.own_agrees g.P.Parts.is_sound g.M.Makers.language
    (snapshot_seen c.args.snapshot.now) in
    let row = row_data c.in_ok-planned.planned in
    may_hire_on basis c.args.desk.now c.args.pass.now c.plan_row.new.pass c.in_ok-key.key row c.plan_row.ensures.pass
    c.requires.saw (got_plan basis (pass_view c.args.pass.now) (pass_view c.plan_row.new.pass) c.in_ok-key.key row
    c.in_ok-planned.ensures.gets)

pub build_plan-requires-clause-right : goal.build_plan-requires-clause-right
build_plan-requires-clause-right g c κs within =
    let basis = basis_of g.P.Parts.plan_agrees g.P.Parts.own_agrees g.P.Parts.is_sound g.M.Makers.language
    (snapshot_seen c.args.snapshot.now) in
    let got = got_plan basis (pass_view c.args.pass.now) (pass_view c.plan_row.new.pass) c.in_ok-key.key
    (row_data c.in_ok-planned.planned) c.in_ok-planned.ensures.gets in
    got.right

pub returns-in-Ok-clause-builds : goal.returns-in-Ok-clause-builds
returns-in-Ok-clause-builds g c =
    let laws = g.met.M.Makers g.world.𝓛 g.world.𝓜 g.world.𝓡 ((λ s x. x), (λ x. x), (λ x. x), λ x. x) in
    let basis = basis_of g.P.Parts.plan_agrees g.P.Parts.own_agrees g.P.Parts.is_sound g.M.Makers.language
    (snapshot_seen c.args.snapshot.now) in
    let u = pass_view c.args.pass.now in
    let v = pass_view c.plan_row.new.pass in
    let w = pass_view c.build_plan.new.pass in
    let row = row_data c.in_ok-planned.planned in
    let got = got_plan basis u v c.in_ok-key.key row c.in_ok-planned.ensures.gets in
    let is : (plan_in row).value ≡ Ok c.in-Ok.plan = search rules in
    subst (λ (root : FactKey). IfOk c.build_plan.result (Builds basis root u w)) c.in_ok-key.ensures
    (builds_if basis u v w c.in_ok-key.key row c.in-Ok.plan c.build_plan.result laws.plan_tells
    laws.parts_tell (ap (λ (key : FactKey). key.part) c.in_ok-key.ensures) got is c.build_plan.ensures.together)

pub returns-in-Ok-clause-so_far : goal.returns-in-Ok-clause-so_far
returns-in-Ok-clause-so_far g c =
    let laws = g.met.M.Makers g.world.𝓛 g.world.𝓜 g.world.𝓡 ((λ s x. x), (λ x. x), (λ x. x), λ x. x) in
    let basis = basis_of g.P.Parts.plan_agrees g.P.Parts.own_agrees g.P.Parts.is_sound g.M.Makers.language
    (snapshot_seen c.args.snapshot.now) in
    let u = pass_view c.args.pass.now in
    let v = pass_view c.plan_row.new.pass in
    let w = pass_view c.build_plan.new.pass in
    let row = row_data c.in_ok-planned.planned in
    let got = got_plan basis u v c.in_ok-key.key row c.in_ok-planned.ensures.gets in
    let is : (plan_in row).value ≡ Ok c.in-Ok.plan = search rules in
    subst (λ (root : FactKey). OnErr c.build_plan.result (ComesSoFar basis root u w)) c.in_ok-key.ensures
    (so_far_if basis u v w c.in_ok-key.key row c.in-Ok.plan c.build_plan.result laws.plan_tells
    (ap (λ (key : FactKey). key.part) c.in_ok-key.ensures) got is c.build_plan.ensures.tries)

pub returns-clause-builds : goal.returns-clause-builds
returns-clause-builds g c =
    let laws = g.met.M.Makers g.world.𝓛 g.world.𝓜 g.world.𝓡 ((λ s x. x), (λ x. x), (λ x. x), λ x. x) in
    let basis = basis_of g.P.Parts.plan_agrees g.P.Parts.own_agrees g.P.Parts.is_sound g.M.Makers.language
    (snapshot_seen c.args.snapshot.now) in
    let u = pass_view c.args.pass.now in
    let v = pass_view c.plan_row.new.pass in
    let key = c.in_ok-key.key in
    let row = row_data c.in_ok-planned.planned in
    let got = got_plan basis u v key row c.in_ok-planned.ensures.gets in
    let is : (plan_in row).value ≡ Err c.in-Err.stop = search rules in
    let planned : key.part ≡ part_spec.Plan = ap (λ (one : FactKey). one.part) c.in_ok-key.ensures in
    subst (λ (root : FactKey). Builds basis root u v (Stopped c.in-Err.stop)) c.in_ok-key.ensures
    (builds_stopped basis u v key row c.in-Err.stop planned got
    (plan_told basis laws.plan_tells key row (Err c.in-Err.stop) got.right planned is))
