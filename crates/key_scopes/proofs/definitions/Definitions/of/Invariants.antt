use Rattle.std.proofs.Common.{◌≡◌, [], drop, filter}
use Rattle.key_scopes.specs.Defined.{firsts_by, is_level_within}
use Rattle.key_scopes.specs.Table.{firsts_of}
use Rattle.key_scopes.specs.Numbered.{entries}
use Rattle.key_scopes.specs.Outermost.{AreTopped}
use Rattle.key_scopes.proofs.definitions.Definitions.of.Given as goal

abbrev pub invariant-loop-entry : goal.invariant-loop-entry
invariant-loop-entry l = record {
  topped : AreTopped l.spans.ends.items l.sorted.items;
  firsts : firsts_by (firsts_of l.sorted.items)
      (filter (is_level_within l.count) (entries (drop l.entry-index l.entry-items)))
      ≡ firsts_by [] (filter (is_level_within l.count) (entries l.entry-items));
}
