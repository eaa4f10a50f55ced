use Rattle.std.proofs.Common.{◌≡◌, ◌++◌, drop, map}
use Rattle.ditaval_rules.specs.Declarations.{AreBefore, declaring_among, declaring_of}
use Rattle.ditaval_rules.proofs.declarations.Declarations.of.Given as goal

abbrev pub invariant-loop-node : goal.invariant-loop-node
invariant-loop-node l = record {
  before : AreBefore l.place l.entries.items;
  declaring : map declaring_of l.entries.items ++ declaring_among l.place (drop l.node-index l.node-items)
      ≡ declaring_among 0 l.node-items;
  here : l.place ≡ l.node-index;
}
