use Rattle.std.proofs.Common.{◌≡◌, ◌≤◌, ℕ, List}
use Rattle.dita_doc.specs.Siblings.{content}
use Rattle.dita_doc.specs.Tree.{size_of}
use Rattle.doc_elements.specs.Walk.{content_in, first_below}
use Rattle.doc_elements.proofs.below.+first_below.Given as goal

abbrev pub decreases-first_below : goal.decreases-first_below
decreases-first_below l = size_of (content l.siblings)

abbrev pub invariant-loop-rest : goal.invariant-loop-rest
invariant-loop-rest l = record {
  same : (name : List ℕ)
      → first_below l.token (content_in name l.fn.siblings) ≡ first_below l.token (content_in name l.left);
  size : size_of (content l.left) ≤ size_of (content l.fn.siblings);
}

abbrev pub decreases-loop-rest : goal.decreases-loop-rest
decreases-loop-rest l = size_of (content l.left)
