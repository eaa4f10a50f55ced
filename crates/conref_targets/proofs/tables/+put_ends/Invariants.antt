use Rattle.std.proofs.Common.{◌≡◌, ◌+◌, ◌-◌, ◌++◌, ◌≤◌}
use Rattle.dita_doc.specs.Tree.{Content, size_of, tree_of}
use Rattle.readers.specs.Named.{under_names}
use Rattle.conref_targets.specs.Parts.{AreSiblingsAt, ends_from}
use Rattle.conref_targets.proofs.EndLaws.{Left}
use Rattle.conref_targets.proofs.tables.+put_ends.Given as goal

abbrev pub decreases-put_ends : goal.decreases-put_ends
decreases-put_ends l = l.to - l.from

abbrev pub invariant-loop : goal.invariant-loop
invariant-loop l = record {
  from : l.from ≤ l.place;
  way : (part : Content) → AreSiblingsAt (tree_of l.doc.nodes) l.from part → l.from + size_of part ≡ l.to
      → Left l.doc (l.fn.ends.items ++ ends_from l.to l.from (under_names l.doc.origins part)) l.ends.items l.to l.place l.counter;
}
