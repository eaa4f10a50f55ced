use Rattle.std.proofs.Common.{refl}
use Rattle.branch_copies.proofs.branch.read_branch.Goals as goal

pub returns-clause-known : goal.returns-clause-known
returns-clause-known g c = λ world agrees known. record {
  filter = c.in_ok-read_filter.ensures.known world agrees known;
  at = refl;
  resource = c.in_ok-resource_affix.ensures c.args.name.now;
  keyscope = c.in_ok-keyscope_affix.ensures c.args.name.now;
}
