use Rattle.std.proofs.Common.{◌≡◌, ℕ, List, option_map}
use Rattle.dita_doc.specs.Siblings.{content}
use Rattle.dita_doc.specs.Tree.{size_of}
use Rattle.doc_elements.specs.Walk.{content_in}
use Rattle.map_spec.specs.Written.{first_sibling}
use Rattle.conref_push.specs.Sight.{label_of}
use Rattle.conref_push.proofs.pushing.first_element.Given as goal

abbrev pub invariant-loop-rest : goal.invariant-loop-rest
invariant-loop-rest l = (name : List ℕ) → option_map label_of (first_sibling (content_in name l.fn.siblings))
    ≡ option_map label_of (first_sibling (content_in name l.left))

abbrev pub decreases-loop-rest : goal.decreases-loop-rest
decreases-loop-rest l = size_of (content l.left)
