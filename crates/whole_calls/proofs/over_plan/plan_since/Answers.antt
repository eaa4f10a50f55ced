use Rattle.whole_calls.proofs.over_plan.plan_since.Goals as goal

pub invariant_of-layer-clause-made : goal.invariant_of-layer-clause-made
invariant_of-layer-clause-made g c = c.new-memo.ensures _ _
