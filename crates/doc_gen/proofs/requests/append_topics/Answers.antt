use Rattle.std.proofs.Common.{List, ℕ, ◌++◌, ap, ◌∙◌}
use Rattle.script_text.specs.Printed.{step_text}
use Rattle.doc_gen.specs.Project.{puts_first}
use Rattle.doc_gen.proofs.Turns.{drawn_more, put_drawn, turn_more, turn_done}
use Rattle.doc_gen.proofs.requests.append_topics.Goals as goal

pub loop-index-preserved : goal.loop-index-preserved
loop-index-preserved c =
    let next = drawn_more c.args.number c.loop-index.index c.loop-index.draw _ c.loop-index.invariant.draw
    c.next_draw-draw.ensures in record {
      draw = next;
      text = turn_more (λ index. step_text (puts_first c.args.number c.args.topics index)) c.loop-index.index
          c.args.topics c.loop-index.out _ c.loop-index.invariant.text _ c.loop-index-test.true
          (c.in_ok-append_put.ensures ∙ ap (λ (l : List ℕ). c.loop-index.out ++ l)
          (put_drawn c.args.number c.args.topics _ _ _ next c.value_of-value.ensures));
    }

pub returns : goal.returns
returns c =
    turn_done (λ index. step_text (puts_first c.args.number c.args.topics index)) c.loop-index.index
    c.args.topics c.loop-index.out _ c.loop-index.invariant.text c.loop-index-test.false
