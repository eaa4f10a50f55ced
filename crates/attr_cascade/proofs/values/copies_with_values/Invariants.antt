use Rattle.std.proofs.Common.{◌≡◌, ◌++◌, drop}
use Rattle.ditaval_rules.specs.Verdict.{conditional_names}
use Rattle.map_spec.specs.Cascade.{cascaded, cascaded_from}
use Rattle.plan_nodes.specs.Preorder.{tables_around}
use Rattle.reader_spec.specs.World.{World}
use Rattle.attr_cascade.specs.Nearest.{AreNearest}
use Rattle.attr_cascade.specs.Tokens.{AreTables}
use Rattle.attr_cascade.proofs.values.copies_with_values.Given as goal

abbrev pub invariant-loop-at : goal.invariant-loop-at
invariant-loop-at l = (world : World) → AreNearest world l.nodes l.nearest → AreTables world l.nodes conditional_names l.tables
    → l.inside ≡ tables_around l.nodes
    → l.made ++ cascaded_from world l.nodes l.at (drop l.at l.nodes) ≡ cascaded world l.nodes
