use Rattle.std.proofs.Common.{◌≡◌, ◌+◌, ◌%◌, ℕ, ap, arith}
use Rattle.std.proofs.lemmas.Grind.{common_steps}
use Rattle.std.proofs.lemmas.Result.{on_ok_weaker}
use Rattle.doc_gen.proofs.Turns.{edits_written}
use Rattle.doc_gen.proofs.requests.append_edits.Goals as goal

pub returns : goal.returns
returns c =
    let wide : c.from.result ≡ c.args.topics = grind (arith, common_steps) in
    on_ok_weaker _ (edits_written c.args.number c.args.topics c.args.session c.args.draw _ _ _ _ _ _ _
    c.draw_at-chosen.ensures c.value_of-choice.ensures (ap (λ (t : ℕ). 1 + c.value_of-choice.result % t) wide)
    c.next_draw-following.ensures c.value_of-text_value.ensures c.draw_at-own.ensures c.value_of-value.ensures
    _ _ _ c.in_ok-append_put.ensures) c.append_build.ensures
