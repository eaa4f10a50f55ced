use Rattle.std.proofs.Common.{append_assoc}
use Rattle.html_page.proofs.PieceLaws.{appended_last}
use Rattle.html_page.proofs.links.append_item.Goals as goal

pub returns : goal.returns
returns c =
    appended_last c.append-4.result _ c.append-4.new.self _ _ c.append-4.ensures
    (rw (
      c.in_ok-append_anchor.ensures,
      c.as_str-2.ensures,
      c.as_str.ensures,
      c.in_ok-append-3.ensures,
      c.in_ok-append-2.ensures,
      c.kind_text.ensures,
      c.in_ok-append.ensures,
    )
    (simp append_assoc))
