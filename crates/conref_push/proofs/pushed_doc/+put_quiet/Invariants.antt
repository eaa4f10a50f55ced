use Rattle.std.proofs.Common.{◌≡◌, ◌≤◌}
use Rattle.dita_doc.specs.Siblings.{content}
use Rattle.dita_doc.specs.Tree.{size_of}
use Rattle.doc_elements.specs.Walk.{content_in}
use Rattle.doc_maker.specs.Building.{behind}
use Rattle.doc_maker.specs.Made.{building}
use Rattle.map_spec.specs.Pushes.{without_acting}
use Rattle.conref_push.proofs.pushed_doc.+put_quiet.Given as goal

abbrev pub decreases-put_quiet : goal.decreases-put_quiet
decreases-put_quiet l = size_of (content l.siblings)

abbrev pub invariant-loop-node : goal.invariant-loop-node
invariant-loop-node l = record {
  put : behind (building l.maker) (without_acting (content_in l.name l.left))
      ≡ behind (building l.fn.maker) (without_acting (content_in l.name l.fn.siblings));
  size : size_of (content l.left) ≤ size_of (content l.fn.siblings);
}

abbrev pub decreases-loop-node : goal.decreases-loop-node
decreases-loop-node l = size_of (content l.left)
