use Rattle.std.proofs.Common.{[]}
use Rattle.doc_gen.specs.Project.{topicref}
use Rattle.doc_gen.proofs.Turns.{turn_more, turn_done}
use Rattle.doc_gen.proofs.map.append_topicrefs.Goals as goal

pub loop-index-preserved : goal.loop-index-preserved
loop-index-preserved c =
    turn_more (λ index. topicref index []) c.loop-index.index c.args.topics c.loop-index.out _ c.loop-index.invariant _
    c.loop-index-test.true c.in_ok-append_topicref.ensures

pub returns : goal.returns
returns c =
    turn_done (λ index. topicref index []) c.loop-index.index c.args.topics c.loop-index.out _ c.loop-index.invariant
    c.loop-index-test.false
