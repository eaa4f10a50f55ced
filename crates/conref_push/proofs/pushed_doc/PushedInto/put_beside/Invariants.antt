use Rattle.std.proofs.Common.{◌≡◌, ℕ, List, take}
use Rattle.doc_maker.specs.Building.{behind}
use Rattle.doc_maker.specs.Made.{building}
use Rattle.reader_spec.specs.World.{World}
use Rattle.conref_push.specs.Into.{froms}
use Rattle.readers.specs.Founded.{AreAmong}
use Rattle.conref_push.specs.Making.{copies_of}
use Rattle.conref_push.specs.Sources.{AreSources}
use Rattle.conref_push.proofs.pushed_doc.PushedInto.put_beside.Given as goal

abbrev pub invariant-loop-push : goal.invariant-loop-push
invariant-loop-push l = (world : World) (names : List (List ℕ)) → AreSources world names l.self.sources
    → AreAmong (froms l.group) names
    → building l.maker ≡ behind (building l.fn.maker) (copies_of world l.kind (take l.push-index l.group))
