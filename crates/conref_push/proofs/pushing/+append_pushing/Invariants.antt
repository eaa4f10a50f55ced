use Rattle.std.proofs.Common.{◌≡◌, ◌+◌, ◌++◌, ◌≤◌, ℕ, List, None, Option, map}
use Rattle.dita_doc.specs.Siblings.{content}
use Rattle.dita_doc.specs.Tree.{size_of}
use Rattle.doc_elements.specs.Walk.{content_in}
use Rattle.map_spec.specs.Places.{TopicAt, standing_from}
use Rattle.conref_push.specs.Sight.{all_seen, element_before, id_around, sight_of}
use Rattle.conref_push.proofs.pushing.+append_pushing.Given as goal

abbrev pub decreases-append_pushing : goal.decreases-append_pushing
decreases-append_pushing l = size_of (content l.siblings)

abbrev pub invariant-loop-rest : goal.invariant-loop-rest
invariant-loop-rest l = record {
  seen : (name : List ℕ) (around : Option TopicAt) → id_around around ≡ l.topic
      → map (sight_of name) l.out.items
      ++ all_seen (standing_from l.here around (element_before name l.before) (content_in name l.left))
      ≡ map (sight_of name) l.fn.out.items
      ++ all_seen (standing_from l.fn.place around None (content_in name l.fn.siblings));
  size : size_of (content l.left) ≤ size_of (content l.fn.siblings);
  room : l.here + size_of (content l.left) ≡ l.fn.place + size_of (content l.fn.siblings);
}

abbrev pub decreases-loop-rest : goal.decreases-loop-rest
decreases-loop-rest l = size_of (content l.left)
