use Rattle.std.proofs.Common.{◌≡◌, ◌≤◌, ◌++◌, ℕ, List}
use Rattle.dita_doc.specs.Siblings.{content}
use Rattle.dita_doc.specs.Tree.{size_of}
use Rattle.map_spec.specs.Written.{characters}
use Rattle.doc_elements.specs.Walk.{content_in}
use Rattle.doc_elements.proofs.text.+append_characters.Given as goal

abbrev pub decreases-append_characters : goal.decreases-append_characters
decreases-append_characters l = size_of (content l.siblings)

abbrev pub invariant-loop-node : goal.invariant-loop-node
invariant-loop-node l = record {
  whole : (name : List ℕ)
      → l.out ++ characters (content_in name l.left) ≡ l.fn.out ++ characters (content_in name l.fn.siblings);
  size : size_of (content l.left) ≤ size_of (content l.fn.siblings);
}

abbrev pub decreases-loop-node : goal.decreases-loop-node
decreases-loop-node l = size_of (content l.left)
