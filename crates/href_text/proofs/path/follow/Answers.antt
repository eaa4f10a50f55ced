use Rattle.std.proofs.Common.{rules, ap, ◌∙◌, map}
use Rattle.dita_doc.specs.Bytes.{is_slash, parts_by}
use Rattle.dita_doc.proofs.PartLaws.{one_part}
use Rattle.href_text.proofs.JoinedLaws.{behind, steps_cut}
use Rattle.href_text.proofs.path.follow.Goals as goal

pub loop-segment-preserved : goal.loop-segment-preserved
loop-segment-preserved c = (
  search rules,
  c.loop-segment.invariant.1
      ∙ steps_cut (map (λ segment. segment.now) c.loop-segment.stay.items) c.loop-segment.rest.now _ _ c.in-Some.ensures
      ∙ ap (behind (parts_by is_slash c.in-Some.more.now)) c.in_ok-follow_one.ensures,
)

pub returns : goal.returns
returns c = rw (c.loop-segment.invariant.1, one_part is_slash c.loop-segment.rest.now c.in_default.ensures)
    c.follow_one-2.ensures
