use Rattle.std.proofs.Common.{sym, ap, ◌∙◌}
use Rattle.std.specs.Prelude.{is_some}
use Rattle.transcript_text.proofs.FaultLaws.{place_by, place_not_named}
use Rattle.transcript_text.proofs.below.is_place.Goals as goal

pub returns-then-is_name_word : goal.returns-then-is_name_word
returns-then-is_name_word c =
    place_by _ _ _ c.is_some.result c.in-Some.ensures c.if-is_name_word.ensures
    (sym (c.is_some.ensures ∙ ap is_some c.number32.ensures))

pub returns-else-is_name_word : goal.returns-else-is_name_word
returns-else-is_name_word c =
    rw c.if-is_name_word.false (place_not_named _ _ _ c.in-Some.ensures c.if-is_name_word.ensures)
