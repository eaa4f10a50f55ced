use Rattle.std.proofs.Common.{append_assoc}
use Rattle.html_page.proofs.page.before_body.Goals as goal

pub returns : goal.returns
returns c =
    rw (
      c.in_ok-append-4.ensures,
      c.in_ok-append-3.ensures,
      c.in_ok-append_title.ensures,
      c.as_str.ensures,
      c.in_ok-append-2.ensures,
      c.in_ok-append.ensures,
      c.new-text.ensures,
    )
    (simp append_assoc)
