use Rattle.dita_doc.specs.Siblings.{content}
use Rattle.dita_doc.specs.Tree.{size_of}
use Rattle.ditaval_rules.specs.Rules.{props_among}
use Rattle.ditaval_rules.proofs.ReadingLaws.{IsReadTo}
use Rattle.ditaval_rules.proofs.rules.read_props.Given as goal

abbrev pub invariant-loop-reading : goal.invariant-loop-reading
invariant-loop-reading l =
    IsReadTo l.name l.reading (props_among (content l.rest)) (props_among (content l.elements))

abbrev pub decreases-loop-reading : goal.decreases-loop-reading
decreases-loop-reading l = size_of (content l.rest)
