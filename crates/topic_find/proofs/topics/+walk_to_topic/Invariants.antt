use Rattle.std.proofs.Common.{◌≡◌, ◌+◌, ◌≤◌, ℕ, List, Option}
use Rattle.dita_doc.specs.Siblings.{content}
use Rattle.dita_doc.specs.Tree.{size_of}
use Rattle.map_spec.specs.Places.{TopicAt}
use Rattle.topic_find.specs.Walk.{content_in, is_topic_wanted, walk_of}
use Rattle.topic_find.proofs.topics.+walk_to_topic.Given as goal

abbrev pub decreases-walk_to_topic : goal.decreases-walk_to_topic
decreases-walk_to_topic l = size_of (content l.siblings)

abbrev pub invariant-loop-rest : goal.invariant-loop-rest
invariant-loop-rest l = record {
  same : (name : List ℕ) (around : Option TopicAt)
      → walk_of (is_topic_wanted l.wanted) l.fn.place around (content_in name l.fn.siblings)
      ≡ walk_of (is_topic_wanted l.wanted) l.here around (content_in name l.left);
  size : size_of (content l.left) ≤ size_of (content l.fn.siblings);
  room : l.here + size_of (content l.left) ≤ l.fn.place + size_of (content l.fn.siblings);
}

abbrev pub decreases-loop-rest : goal.decreases-loop-rest
decreases-loop-rest l = size_of (content l.left)
