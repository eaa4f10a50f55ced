use Rattle.std.proofs.Common.{◌≡◌, ◌≤◌, ℕ, List}
use Rattle.dita_doc.specs.Siblings.{content}
use Rattle.dita_doc.specs.Tree.{size_of}
use Rattle.doc_elements.specs.Walk.{content_in}
use Rattle.html_spec.specs.Terms.{holds_term}
use Rattle.index_page.proofs.text.+holds_term.Given as goal

abbrev pub decreases-holds_term : goal.decreases-holds_term
decreases-holds_term l = size_of (content l.siblings)

abbrev pub invariant-loop-rest : goal.invariant-loop-rest
invariant-loop-rest l = record {
  same : (name : List ℕ) → holds_term (content_in name l.fn.siblings) ≡ holds_term (content_in name l.left);
  size : size_of (content l.left) ≤ size_of (content l.fn.siblings);
}

abbrev pub decreases-loop-rest : goal.decreases-loop-rest
decreases-loop-rest l = size_of (content l.left)
