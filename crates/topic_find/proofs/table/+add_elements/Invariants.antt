use Rattle.std.proofs.Common.{◌≡◌, ◌+◌, ◌++◌, ◌≤◌, ℕ, List, None, Option, option_map}
use Rattle.dita_doc.specs.Siblings.{content}
use Rattle.dita_doc.specs.Tree.{size_of}
use Rattle.map_spec.specs.Written.{Element}
use Rattle.map_spec.specs.Places.{Standing, first_topic, standing_from}
use Rattle.topic_find.specs.Table.{IsOnTheWay, IsTableOf}
use Rattle.topic_find.specs.Walk.{content_in, topic_at}
use Rattle.topic_find.proofs.table.+add_elements.Given as goal

abbrev pub decreases-add_elements : goal.decreases-add_elements
decreases-add_elements l = size_of (content l.siblings)

abbrev pub invariant-loop-rest : goal.invariant-loop-rest
invariant-loop-rest l = record {
  way : (name : List ℕ) (seen : List Standing) (before : Option Element) → IsTableOf l.fn.table seen
      → (first_topic seen ≡ None → option_map topic_at l.around ≡ None)
      → IsOnTheWay l.table l.here (option_map topic_at l.around) (content_in name l.left)
      (seen ++ standing_from l.fn.place (option_map topic_at l.around) before (content_in name l.fn.siblings));
  size : size_of (content l.left) ≤ size_of (content l.fn.siblings);
  room : l.here + size_of (content l.left) ≡ l.fn.place + size_of (content l.fn.siblings);
}

abbrev pub decreases-loop-rest : goal.decreases-loop-rest
decreases-loop-rest l = size_of (content l.left)
