use Rattle.std.proofs.Common.{sym, ◌∙◌, ◌≡◌, ◌++◌, ◌∷◌}
use Rattle.dita_doc.proofs.Utf8Laws.{boundary_behind}
use Rattle.dita_doc.proofs.CutLaws.{cut_again}
use Rattle.dita_doc.proofs.bytes.split_text_at_first.Goals as goal
use Rattle.dita_doc.proofs.bytes.split_text_at_first.Goals.{In_ok-front}

-- the text is cut where its bytes are
whole : (c : In_ok-front) → c.args.text.now ≡ c.in_ok-front.front.now ++ c.args.byte ∷ c.in_ok-front.back.now
whole c = sym c.as_bytes.ensures.value ∙ c.in_ok-front.ensures.whole

pub range_from-requires : goal.range_from-requires
range_from-requires c some =
    let cut = whole (goal.at.range_from-requires c).In_ok-front in
    boundary_behind c.args.byte c.args.text.now c.in_ok-front.front.now c.in_ok-front.back.now c.requires cut
    c.utf8.text

pub returns : goal.returns
returns c =
    let cut = whole (goal.at.returns c).In_ok-front in
    cut_again c.args.byte c.args.text.now c.in_ok-front.front.now c.in_ok-front.back.now c.range.result.now
    c.range_from.result.now cut c.in_ok-front.ensures.first c.range.ensures.value c.range_from.ensures.value
