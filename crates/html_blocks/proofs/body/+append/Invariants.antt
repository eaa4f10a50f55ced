use Rattle.std.proofs.Common.{◌≡◌, ◌+◌, ◌*◌, ◌≤◌}
use Rattle.dita_doc.specs.Siblings.{content, doc_of_siblings}
use Rattle.dita_doc.specs.Tree.{size_of}
use Rattle.html_blocks.specs.Walk.{IsWithin, content_of, overlay_of}
use Rattle.html_spec.specs.Blocks.{HtmlContext, shown_from}
use Rattle.html_blocks.proofs.WayLaws.{IsOnTheWay}
use Rattle.html_blocks.proofs.body.+append.Given as goal

abbrev pub decreases-append_siblings : goal.decreases-append_siblings
decreases-append_siblings l = 2 * size_of (content l.siblings)

abbrev pub decreases-append_element : goal.decreases-append_element
decreases-append_element l = 2 * size_of (content l.element.inside) + 1

abbrev pub invariant-append_siblings-loop-node : goal.invariant-append_siblings-loop-node
invariant-append_siblings-loop-node l = record {
  way : (around : HtmlContext) → IsWithin l.fn.page.groups l.context around
      → IsOnTheWay l.fn.page l.page (shown_from around (overlay_of l.overlay) l.fn.place (content_of l.fn.siblings))
      (shown_from around (overlay_of l.overlay) l.here (content_of l.left));
  size : size_of (content l.left) ≤ size_of (content l.fn.siblings);
  room : l.here + size_of (content l.left) ≡ l.fn.place + size_of (content l.fn.siblings);
  home : doc_of_siblings l.left ≡ doc_of_siblings l.fn.siblings;
}

abbrev pub decreases-append_siblings-loop-node : goal.decreases-append_siblings-loop-node
decreases-append_siblings-loop-node l = size_of (content l.left)
