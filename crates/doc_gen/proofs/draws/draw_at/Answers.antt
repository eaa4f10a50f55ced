use Rattle.doc_gen.proofs.Turns.{drawn_more}
use Rattle.doc_gen.proofs.draws.draw_at.Goals as goal

pub loop-preserved : goal.loop-preserved
loop-preserved c =
    drawn_more c.args.number c.loop.counter c.loop.draw _ c.loop.invariant c.next_draw-draw.ensures
