use Rattle.std.proofs.Common.{◌≡◌, ◌≤◌, ◌++◌, ℕ, List}
use Rattle.dita_doc.specs.Siblings.{content}
use Rattle.dita_doc.specs.Tree.{size_of}
use Rattle.doc_elements.specs.Walk.{content_in}
use Rattle.html_spec.specs.Terms.{own_characters}
use Rattle.index_page.proofs.text.+append_own.Given as goal

abbrev pub decreases-append_own : goal.decreases-append_own
decreases-append_own l = size_of (content l.siblings)

abbrev pub invariant-loop-node : goal.invariant-loop-node
invariant-loop-node l = record {
  whole : (name : List ℕ)
      → l.out ++ own_characters (content_in name l.left) ≡ l.fn.out ++ own_characters (content_in name l.fn.siblings);
  size : size_of (content l.left) ≤ size_of (content l.fn.siblings);
}

abbrev pub decreases-loop-node : goal.decreases-loop-node
decreases-loop-node l = size_of (content l.left)
