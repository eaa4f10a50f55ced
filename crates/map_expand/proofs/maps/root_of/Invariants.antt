use Rattle.std.proofs.Common.{◌≡◌, ◌+◌, ◌-◌, ℕ, List, length}
use Rattle.dita_doc.specs.Tree.{tree_of}
use Rattle.map_expand.specs.Homes.{AreSiblings, content_between}
use Rattle.map_expand.specs.Known.{root_wanted}
use Rattle.map_spec.specs.Written.{first_place, first_sibling, written_in}
use Rattle.map_expand.proofs.maps.root_of.Given as goal

abbrev pub invariant-loop-place : goal.invariant-loop-place
invariant-loop-place l = record {
  siblings : (name : List ℕ) → AreSiblings (record { name = name; nodes = l.doc.nodes; root = 0 }) l.place (length l.doc.nodes);
  same : (name : List ℕ) → root_wanted name l.doc.nodes
      ≡ first_sibling (content_between (record { name = name; nodes = l.doc.nodes; root = 0 }) l.place (length l.doc.nodes));
  texts : (name : List ℕ) → first_place (written_in name (tree_of l.doc.nodes)) ≡ l.place
      + first_place (content_between (record { name = name; nodes = l.doc.nodes; root = 0 }) l.place
      (length l.doc.nodes));
}

abbrev pub decreases-loop-place : goal.decreases-loop-place
decreases-loop-place l = length l.doc.nodes - l.place
