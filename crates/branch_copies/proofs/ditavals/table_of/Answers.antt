use Rattle.std.proofs.Common.{◌≡◌, IfOk, subst}
use Rattle.std.specs.List.{each_same}
use Rattle.branch_copies.proofs.ditavals.table_of.Goals as goal

pub returns : goal.returns
returns c =
    subst (λ rules. IfOk c.of.result (λ table. table ≡ rules)) (each_same _ _ c.in_ok-clone.ensures.cases) c.of.ensures
