use Rattle.std.proofs.Common.{◌≡◌, ◌+◌, ◌*◌, ◌≤◌, List}
use Rattle.dita_doc.specs.Siblings.{content}
use Rattle.dita_doc.specs.Tree.{size_of}
use Rattle.dita_doc.specs.declared.content.Push.{Push}
use Rattle.doc_elements.specs.Walk.{content_in}
use Rattle.doc_maker.specs.Building.{behind}
use Rattle.doc_maker.specs.Made.{building}
use Rattle.map_spec.specs.Pushes.{pushed_from}
use Rattle.reader_spec.specs.World.{World}
use Rattle.conref_push.specs.Making.{IsInto}
use Rattle.conref_push.proofs.pushed_doc.PushedInto.+put.Given as goal

abbrev pub decreases-put : goal.decreases-put
decreases-put l = 3 * size_of (content l.siblings)

abbrev pub decreases-put_unless_acts : goal.decreases-put_unless_acts
decreases-put_unless_acts l = 3 * size_of (content l.inside) + 2

abbrev pub decreases-put_itself_or : goal.decreases-put_itself_or
decreases-put_itself_or l = 3 * size_of (content l.inside) + 1

abbrev pub invariant-put-loop-node : goal.invariant-put-loop-node
invariant-put-loop-node l = record {
  put : (world : World) (pushes : List Push) → IsInto world pushes l.self
      → behind (building l.maker) (pushed_from world pushes l.here (content_in l.self.name.now l.left))
      ≡ behind (building l.fn.maker)
      (pushed_from world pushes l.fn.place (content_in l.self.name.now l.fn.siblings));
  size : size_of (content l.left) ≤ size_of (content l.fn.siblings);
  room : l.here + size_of (content l.left) ≡ l.fn.place + size_of (content l.fn.siblings);
}

abbrev pub decreases-put-loop-node : goal.decreases-put-loop-node
decreases-put-loop-node l = size_of (content l.left)
