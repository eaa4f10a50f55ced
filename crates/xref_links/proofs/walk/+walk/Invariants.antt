use Rattle.std.specs.Arc.{arc_value}
use Rattle.std.proofs.Common.{◌≡◌, ◌+◌, ◌≤◌, ℕ, List, IsTrue, Option, length}
use Rattle.dita_doc.specs.Siblings.{content, doc_of_siblings}
use Rattle.dita_doc.specs.Tree.{size_of}
use Rattle.dita_doc.specs.declared.plan.PlanNode.{PlanNode}
use Rattle.html_spec.specs.Anchors.{Here}
use Rattle.map_spec.specs.Places.{TopicAt}
use Rattle.readers.specs.Documents.{AsksOnly, nothing}
use Rattle.readers.specs.Founded.{Grows, StaysFounded, is_among}
use Rattle.readers.specs.Told.{Agrees}
use Rattle.std.specs.Prelude.{[]}
use Rattle.xref_links.specs.Adding.{AreOnTheWay, IsHere, added_from, topic_id}
use Rattle.xref_links.specs.Body.{written_at}
use Rattle.readers.specs.Named.{linked_in}
use Rattle.xref_links.specs.Names.{names_with}
use Rattle.xref_links.proofs.walk.+walk.Given as goal

abbrev pub decreases-walk : goal.decreases-walk
decreases-walk g l = size_of (content l.siblings)

abbrev pub invariant-loop-rest : goal.invariant-loop-rest
invariant-loop-rest g l = record {
  way : (here : Here) (around : Option TopicAt) → Agrees here.world (g.A.Reader.told l.asker)
      → IsHere (g.A.Reader.stand l.fn.asker) l.page here → topic_id around ≡ l.topic
      → AreOnTheWay l.fn.made l.made
      (added_from here l.fn.place around (written_at l.page.body.now l.fn.place (content l.fn.siblings)))
      (added_from here l.here around (written_at l.page.body.now l.here (content l.left)));
  size : size_of (content l.left) ≤ size_of (content l.fn.siblings);
  room : l.here + size_of (content l.left) ≡ l.fn.place + size_of (content l.fn.siblings);
  fits : l.here + size_of (content l.left) ≤ length l.page.body.now.doc.nodes;
  home : doc_of_siblings l.left ≡ l.page.body.now.doc;
  stand : g.A.Reader.stand l.asker ≡ g.A.Reader.stand l.fn.asker;
  founded : (nodes : List PlanNode) → (g.A.Reader.stand l.fn.asker).setting.nodes ≡ nodes
      → StaysFounded (names_with nodes (arc_value l.page.context.now).page.doc
      (linked_in (written_at l.page.body.now l.fn.place (content l.fn.siblings))))
      (g.A.Reader.told l.fn.asker) (g.A.Reader.told l.asker);
  within : (m : List ℕ) → IsTrue (is_among (linked_in (written_at l.page.body.now l.here (content l.left))) m)
      → IsTrue (is_among (linked_in (written_at l.page.body.now l.fn.place (content l.fn.siblings))) m);
  asks : AsksOnly nothing [] (g.A.Reader.told l.fn.asker) (g.A.Reader.told l.asker);
  grows : Grows (g.A.Reader.told l.fn.asker) (g.A.Reader.told l.asker);
}

abbrev pub decreases-loop-rest : goal.decreases-loop-rest
decreases-loop-rest g l = size_of (content l.left)
