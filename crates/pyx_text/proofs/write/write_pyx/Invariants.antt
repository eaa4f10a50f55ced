use Rattle.std.proofs.Common.{◌≡◌, ◌+◌, ◌*◌, ◌++◌}
use Rattle.dita_doc.specs.Siblings.{content}
use Rattle.dita_doc.specs.Tree.{size_of, tree_of}
use Rattle.pyx_text.specs.Canonical.{text_of}
use Rattle.pyx_text.proofs.OpenElements.{text_behind, steps_behind}
use Rattle.pyx_text.proofs.write.write_pyx.Given as goal

abbrev pub invariant-loop-open_elements : goal.invariant-loop-open_elements
invariant-loop-open_elements l =
    l.text ++ (text_of (content l.left) ++ text_behind l.open_elements.items) ≡ text_of (tree_of l.doc.nodes)

abbrev pub decreases-loop-open_elements : goal.decreases-loop-open_elements
decreases-loop-open_elements l = 2 * size_of (content l.left) + steps_behind l.open_elements.items
