use Rattle.std.proofs.Common.{arith}
use Rattle.map_spec.specs.PlanOf.{limits}
use Rattle.build_plan.proofs.FitLaws.{plan_fits}
use Rattle.build_plan.proofs.NameLaws.{plan_differs}
use Rattle.language_laws.proofs.names_differ.Goals as goal

pub returns-clause-differ : goal.returns-clause-differ
returns-clause-differ c world map val plan is = plan_differs limits world map val plan (omega arith) is

pub returns-clause-fit : goal.returns-clause-fit
returns-clause-fit c = plan_fits
