use Rattle.std.proofs.Common.{◌≡◌, length, map}
use denote.Text.{Utf8}
use denote.Shadow.{shadow}
use Rattle.dita_doc.specs.Bytes.{is_slash, parts_by}
use Rattle.href_text.specs.Joined.{followed}
use Rattle.href_text.proofs.path.follow.Given as goal

abbrev pub invariant-loop-segment : goal.invariant-loop-segment
invariant-loop-segment l = shadow (Utf8 l.rest)
    × (followed (map (λ segment. segment.now) l.fn.stay.items) (parts_by is_slash l.path)
    ≡ followed (map (λ segment. segment.now) l.stay.items) (parts_by is_slash l.rest))

abbrev pub decreases-loop-segment : goal.decreases-loop-segment
decreases-loop-segment l = length l.rest
