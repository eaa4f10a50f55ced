use Rattle.std.proofs.lemmas.List.{map_push}
use Rattle.href_text.proofs.JoinedLaws.{segment_stays}
use Rattle.href_text.proofs.path.follow_one.Goals as goal

pub returns-in_ok-push-in_default : goal.returns-in_ok-push-in_default
returns-in_ok-push-in_default c =
    rw (c.in_ok-push-in_default.ensures.items, map_push)
    (segment_stays _ c.args.segment.now c.in_default.not-empty c.in_default.not-text c.in_default.not-text-2)
