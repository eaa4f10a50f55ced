use Rattle.std.proofs.Common.{◌≡◌, ◌+◌}
use Rattle.dita_doc.specs.Tree.{Content, size_of, tree_of}
use Rattle.readers.specs.Named.{under_names}
use Rattle.conref_targets.specs.Parts.{AreSiblingsAt, end_place}
use Rattle.conref_targets.proofs.RangeLaws.{Left}
use Rattle.conref_targets.proofs.ranges.end_of_range.Given as goal

abbrev pub invariant-loop : goal.invariant-loop
invariant-loop l = (part : Content) → AreSiblingsAt (tree_of l.doc.nodes) l.from part → l.from + size_of part ≡ l.to
    → Left l.doc l.id (end_place l.id l.from (under_names l.doc.origins part)) l.to l.place l.counter
