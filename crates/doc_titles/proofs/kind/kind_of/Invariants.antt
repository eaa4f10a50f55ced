use Rattle.std.proofs.Common.{◌≡◌, ℕ, List}
use Rattle.dita_doc.specs.Siblings.{content}
use Rattle.dita_doc.specs.Tree.{size_of, tree_of}
use Rattle.map_spec.specs.Titles.{kind_of_document}
use Rattle.map_spec.specs.Written.{written_in}
use Rattle.doc_elements.specs.Walk.{content_in}
use Rattle.doc_titles.proofs.kind.kind_of.Given as goal

abbrev pub invariant-loop-rest : goal.invariant-loop-rest
invariant-loop-rest l = (name : List ℕ)
    → kind_of_document (written_in name (tree_of l.doc.nodes)) ≡ kind_of_document (content_in name l.left)

abbrev pub decreases-loop-rest : goal.decreases-loop-rest
decreases-loop-rest l = size_of (content l.left)
