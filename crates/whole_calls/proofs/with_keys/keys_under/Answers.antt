use Rattle.std.specs.Prelude.{◌++◌, IfOk, List}
use Rattle.std.proofs.Common.{subst}
use Rattle.whole_calls.proofs.TableLaws.{tables_noted}
use Rattle.dita_doc.specs.declared.plan.PlanNode.{PlanNode}
use Rattle.key_layer.specs.Ready.{made_for}
use Rattle.readers.specs.Founded.{StaysFounded, homes}
use Rattle.readers.specs.Noted.{told_onto}
use Rattle.readers.specs.Setting.{Stand}
use Rattle.whole_calls.proofs.with_keys.keys_under.Goals as goal
use Rattle.readers.proofs.FoundedLaws.{stays_by, stays_when}

pub over_plan-requires-clause-tables : goal.over_plan-requires-clause-tables
over_plan-requires-clause-tables g c = tables_noted _ _ _ _ _ c.requires.asked c.requires.tables

pub returns-clause-known : goal.returns-clause-known
returns-clause-known g c = λ world agrees.
    let plan = c.args.plan.now in
    subst (λ (nodes : List PlanNode). IfOk c.over_plan.result (g.W.PlanTask.makes c.args.work g.S.LogStart.stand.world world
    (record { nodes = nodes; documents = plan.documents; pages = plan.pages }))) c.requires.nodes
    (subst (λ (s : Stand). IfOk c.over_plan.result (g.W.PlanTask.makes c.args.work s.world world
    (record { nodes = c.args.layer.now.nodes.now; documents = plan.documents; pages = plan.pages }))) c.args.layer.now.stand
    (c.over_plan.ensures.known world (c.over_plan.new.keys.carried.agrees world agrees)))

pub returns-clause-grows : goal.returns-clause-grows
returns-clause-grows g c = c.over_plan.new.keys.grown

pub returns-clause-founded : goal.returns-clause-founded
returns-clause-founded g c =
    let start = g.S.LogStart.stand.setting in
    let first = c.args.layer.now in
    let last = c.over_plan.new.keys in
    let about = g.W.PlanTask.about c.args.work in
    let above = told_onto (made_for last.nodes.now start) g.S.LogStart.told last.asked.now in
    let below = told_onto (made_for first.nodes.now start) g.S.LogStart.told in
    let stays = subst (λ (nodes : List PlanNode). StaysFounded (homes nodes ++ about) (below first.asked.now) above)
    c.requires.nodes c.over_plan.ensures.founded in
    let begun = subst (λ notes. StaysFounded (homes c.args.plan.now.nodes ++ about) (below notes) above)
    c.requires.asked stays in
    stays_when _ _ _ last.grown (λ roots allowed founded.
    last.carried.founded roots (stays_by _ _ _ begun roots allowed founded))
