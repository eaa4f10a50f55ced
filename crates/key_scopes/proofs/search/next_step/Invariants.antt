use Rattle.std.proofs.Common.{◌≡◌, length, option_map, IfSome}
use Rattle.key_scopes.specs.Steps as spec
use Rattle.key_scopes.specs.Ways.{way_of}
use Rattle.key_scopes.specs.Found.{own_of}
use Rattle.key_scopes.proofs.CutLaws.{first_way}
use Rattle.key_scopes.proofs.search.next_step.Given as goal

pub record IsFirst (Short Value : Type 0) : Type 0 where
  pub short : Short
  pub value : Value

abbrev pub invariant-loop-dot : goal.invariant-loop-dot
invariant-loop-dot l = IsFirst (IfSome l.first (λ step. spec.IsStepBehind (length l.key) (spec.last_order l.after)
    (length step.rest.now) (spec.step_order step)))
    (option_map way_of l.first
    ≡ first_way l.table.scopes (own_of l.table) l.scope l.key (option_map way_of l.after) l.dot)
