use Rattle.family_links.proofs.SequenceLaws.{sequence_added}
use Rattle.family_links.proofs.sequences.Sequences.add.Goals as goal

pub returns : goal.returns
returns c = λ groups before.
    sequence_added groups c.args.nodes.now c.args.self.now c.loop-at.self c.loop-at.at before c.loop-at-test.false
    c.loop-at.invariant.next c.loop-at.invariant.previous
