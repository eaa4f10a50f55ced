use Rattle.std.specs.Option.{option_copied}
use Rattle.std.specs.Prelude.{◌≡◌, Ok}
use Rattle.std.proofs.Common.{sym, ap, subst, ◌∙◌}
use Rattle.build_plan.specs.declared.scoped.Planned.{Planned}
use Rattle.clean_build.proofs.PartLaws.{stop_given}
use Rattle.map_spec.specs.PlanOf.{limits, plan_of}
use Rattle.readers.specs.Setting.{Stand}
use Rattle.readers.proofs.GrowthLaws.{agrees_before, are_allowed_before, grows_trans}
use Rattle.clean_build.proofs.FoundLaws.{documents_may, parts_may, plan_may}
use Rattle.whole_calls.proofs.SingleLaws.{ok_same}
use Rattle.whole_calls.proofs.found.find_plan.Goals as goal
use Rattle.readers.proofs.FoundedLaws.{stays_by, stays_when}

pub returns-clause-known : goal.returns-clause-known
returns-clause-known g c = λ world plan agrees is.
    let at_plan = agrees_before world _ _ c.in_ok-tables.ensures.grows agrees in
    ok_same c.in-Ok.planned.plan plan (sym (c.in-Ok.ensures.known world at_plan) ∙ is)

pub returns-clause-tells : goal.returns-clause-tells
returns-clause-tells g c = λ world agrees.
    let own = g.met.T.Reader.agrees c.planned.new.asker in
    let at_plan = agrees_before world _ _ c.in_ok-tables.ensures.grows agrees in
    c.in-Ok.ensures.known world at_plan
    ∙ sym (subst (λ (s : Stand). plan_of limits s.world c.args.map.now (option_copied c.args.val)
    ≡ Ok c.in-Ok.planned.plan) c.planned.ensures.stand (c.in-Ok.ensures.known _ own))

pub returns-in-Err-Fault-clause-tells : goal.returns-in-Err-Fault-clause-tells
returns-in-Err-Fault-clause-tells g c = λ world agrees.
    let own = g.met.T.Reader.agrees c.planned.new.asker in
    let there = stop_given (λ (p : Planned). p.plan) _ _ _ c.in-Err-Fault.field-0-is
    (c.in-Err-Fault.ensures.known world agrees) in
    let here = stop_given (λ (p : Planned). p.plan) _ _ _ c.in-Err-Fault.field-0-is
    (c.in-Err-Fault.ensures.known _ own) in
    there ∙ sym here
    ∙ ap (λ (s : Stand). plan_of limits s.world c.args.map.now (option_copied c.args.val)) c.planned.ensures.stand

pub returns-clause-given : goal.returns-clause-given
returns-clause-given g c = λ roots allowed founded.
    let world = (g.T.Reader.stand c.planned.new.asker).world in
    let agrees = g.met.T.Reader.agrees c.planned.new.asker in
    let planned = c.in-Ok.ensures in
    let name = c.args.map.now in
    let val = option_copied c.args.val in
    let at_plan = stays_by _ _ _ c.planned.ensures.founded roots allowed founded in
    let elements = planned.ready.elements world agrees in
    let nodes = planned.given roots at_plan in
    let is = planned.known world agrees in
    let plan = plan_may world name val _ _ _ is elements planned.ready.given roots nodes in
    let build = are_allowed_before roots _ _ _ c.planned.ensures.grows allowed in
    are_allowed_before roots _ _ _ c.of.ensures.grows (parts_may roots _ name val c.in-Ok.planned.plan build nodes plan)

pub returns-in_err-tables-clause-founded : goal.returns-in_err-tables-clause-founded
returns-in_err-tables-clause-founded g c = stays_when _ _ _
    (grows_trans _ _ _ c.planned.ensures.grows c.of.ensures.grows) (λ roots allowed founded.
    (let world = (g.T.Reader.stand c.planned.new.asker).world in
    let agrees = g.met.T.Reader.agrees c.planned.new.asker in
    let planned = c.in-Ok.ensures in
    stays_by _ _ _ c.of.ensures.founded roots
    (documents_may world c.args.map.now (option_copied c.args.val) _ _ _ (planned.known world agrees)
    (planned.ready.elements world agrees) planned.ready.given roots)
    (stays_by _ _ _ c.planned.ensures.founded roots allowed founded)))

pub returns-clause-founded : goal.returns-clause-founded
returns-clause-founded g c = stays_when _ _ _
    (grows_trans _ _ _ c.planned.ensures.grows c.of.ensures.grows) (λ roots allowed founded.
    (let world = (g.T.Reader.stand c.planned.new.asker).world in
    let agrees = g.met.T.Reader.agrees c.planned.new.asker in
    let planned = c.in-Ok.ensures in
    stays_by _ _ _ c.of.ensures.founded roots
    (documents_may world c.args.map.now (option_copied c.args.val) _ _ _ (planned.known world agrees)
    (planned.ready.elements world agrees) planned.ready.given roots)
    (stays_by _ _ _ c.planned.ensures.founded roots allowed founded)))

pub returns-in_err-tables-clause-grows : goal.returns-in_err-tables-clause-grows
returns-in_err-tables-clause-grows g c = grows_trans _ _ _ c.planned.ensures.grows c.of.ensures.grows

pub returns-clause-grows : goal.returns-clause-grows
returns-clause-grows g c = grows_trans _ _ _ c.planned.ensures.grows c.of.ensures.grows
