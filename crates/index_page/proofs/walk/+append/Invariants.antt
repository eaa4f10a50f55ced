use Rattle.std.proofs.Common.{◌≡◌, ◌+◌, ◌*◌, ◌≤◌, ◌++◌, ℕ, List}
use Rattle.dita_doc.specs.Siblings.{content}
use Rattle.dita_doc.specs.Tree.{size_of}
use Rattle.doc_elements.specs.Walk.{content_in}
use Rattle.index_page.specs.Walk.{entries_among}
use Rattle.index_page.proofs.walk.+append.Given as goal

abbrev pub decreases-append_terms : goal.decreases-append_terms
decreases-append_terms l = 2 * size_of (content l.siblings)

abbrev pub decreases-append_element : goal.decreases-append_element
decreases-append_element l = 2 * size_of (content l.inside) + 1

abbrev pub invariant-append_terms-loop-rest : goal.invariant-append_terms-loop-rest
invariant-append_terms-loop-rest l = record {
  whole : (name : List ℕ)
      → l.entries ++ entries_among l.page l.around (content_in name l.left)
      ≡ l.fn.entries ++ entries_among l.page l.around (content_in name l.fn.siblings);
  size : size_of (content l.left) ≤ size_of (content l.fn.siblings);
}

abbrev pub decreases-append_terms-loop-rest : goal.decreases-append_terms-loop-rest
decreases-append_terms-loop-rest l = size_of (content l.left)
