use Rattle.std.proofs.Common.{◌≡◌}
use Rattle.page_names.specs.Taken.{AreTaken, IsTried, Texts}
use Rattle.page_names.proofs.names.PageNames.take_numbered.Given as goal

abbrev pub invariant-loop-number : goal.invariant-loop-number
invariant-loop-number l = record {
  same : l.base ≡ l.fn.base;
  names : (taken : Texts) → AreTaken taken l.fn.self → AreTaken taken l.self × IsTried taken l.fn.base l.number;
}
