use Rattle.std.proofs.Common.{◌≡◌, ◌≤◌, ℕ, List}
use Rattle.dita_doc.specs.Siblings.{content}
use Rattle.dita_doc.specs.Tree.{size_of}
use Rattle.doc_elements.specs.Walk.{content_in}
use Rattle.doc_titles.specs.Topics.{topic_wanted}
use Rattle.doc_titles.proofs.topics.+find_topic.Given as goal

abbrev pub decreases-find_topic : goal.decreases-find_topic
decreases-find_topic l = size_of (content l.siblings)

abbrev pub invariant-loop-rest : goal.invariant-loop-rest
invariant-loop-rest l = record {
  same : (name : List ℕ)
      → topic_wanted l.wanted (content_in name l.fn.siblings) ≡ topic_wanted l.wanted (content_in name l.left);
  size : size_of (content l.left) ≤ size_of (content l.fn.siblings);
}

abbrev pub decreases-loop-rest : goal.decreases-loop-rest
decreases-loop-rest l = size_of (content l.left)
