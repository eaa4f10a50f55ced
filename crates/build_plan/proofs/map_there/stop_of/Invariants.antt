use Rattle.std.proofs.Common.{◌≡◌, ℕ, List}
use Rattle.dita_doc.specs.Siblings.{content}
use Rattle.dita_doc.specs.Tree.{size_of, tree_of}
use Rattle.doc_elements.specs.Walk.{content_in}
use Rattle.map_spec.specs.Written.{first_sibling, written_in}
use Rattle.build_plan.proofs.map_there.stop_of.Given as goal

abbrev pub invariant-loop-rest : goal.invariant-loop-rest
invariant-loop-rest l = (name : List ℕ)
    → first_sibling (written_in name (tree_of l.doc.nodes)) ≡ first_sibling (content_in name l.left)

abbrev pub decreases-loop-rest : goal.decreases-loop-rest
decreases-loop-rest l = size_of (content l.left)
