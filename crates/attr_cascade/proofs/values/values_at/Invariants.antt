use Rattle.std.proofs.Common.{◌≡◌, ◌++◌, ◌<◌, length, take}
use Rattle.ditaval_rules.specs.Verdict.{conditional_names}
use Rattle.reader_spec.specs.World.{World}
use Rattle.attr_cascade.specs.Tokens.{AreTables, Nodes}
use Rattle.attr_cascade.proofs.ValueLaws.{with_tokens}
use Rattle.attr_cascade.proofs.values.values_at.Given as goal

abbrev pub invariant-loop-table : goal.invariant-loop-table
invariant-loop-table l = (world : World) (nodes : Nodes) → l.at < length nodes
    → AreTables world nodes conditional_names l.tables
    → l.values ≡ l.initial.values ++ with_tokens world nodes l.at (take l.table-index conditional_names)
