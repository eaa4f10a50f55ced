use Rattle.std.proofs.Common.{◌≡◌, map, take}
use Rattle.dita_doc.specs.declared.plan.PagePlan.{PagePlan}
use Rattle.lock_examples.proofs.line_language.pages_of.Given as goal

abbrev pub invariant-loop-name : goal.invariant-loop-name
invariant-loop-name l = map (λ (page : PagePlan). page.name) l.pages ≡ take l.name-index l.names
