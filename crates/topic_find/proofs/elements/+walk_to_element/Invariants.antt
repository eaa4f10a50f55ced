use Rattle.std.proofs.Common.{◌≡◌, ◌+◌, ◌≤◌, ℕ, List, option_map}
use Rattle.dita_doc.specs.Siblings.{content}
use Rattle.dita_doc.specs.Tree.{size_of}
use Rattle.topic_find.specs.Walk.{content_in, is_element_meant, topic_at, walk_of}
use Rattle.topic_find.proofs.elements.+walk_to_element.Given as goal

abbrev pub decreases-walk_to_element : goal.decreases-walk_to_element
decreases-walk_to_element l = size_of (content l.siblings)

abbrev pub invariant-loop-rest : goal.invariant-loop-rest
invariant-loop-rest l = record {
  same : (name : List ℕ)
      → walk_of (is_element_meant l.meant) l.fn.place (option_map topic_at l.around) (content_in name l.fn.siblings)
      ≡ walk_of (is_element_meant l.meant) l.here (option_map topic_at l.around) (content_in name l.left);
  size : size_of (content l.left) ≤ size_of (content l.fn.siblings);
  room : l.here + size_of (content l.left) ≤ l.fn.place + size_of (content l.fn.siblings);
}

abbrev pub decreases-loop-rest : goal.decreases-loop-rest
decreases-loop-rest l = size_of (content l.left)
