use Rattle.std.proofs.Common.{ap}
use Rattle.dita_doc.specs.Siblings.{content}
use Rattle.ditaval_rules.specs.Rules.{props_among}
use Rattle.ditaval_rules.proofs.ReadingLaws.{all_read}
use Rattle.ditaval_rules.proofs.rules.read_props.Goals as goal

pub returns-in-End : goal.returns-in-End
returns-in-End c =
    all_read c.args.name.now c.loop-reading.reading (props_among (content c.loop-reading.rest))
    (props_among (content c.args.elements)) c.finish.result c.loop-reading.invariant
    (ap props_among c.in-End.ensures.content) c.finish.ensures.rules c.finish.ensures.faults
