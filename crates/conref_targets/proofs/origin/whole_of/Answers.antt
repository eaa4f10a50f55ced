use Rattle.std.proofs.Common.{sym}
use Rattle.conref_targets.proofs.OriginLaws.{origin_there, whole_reused, whole_there}
use Rattle.conref_targets.specs.Hrefs.{HasNamed}
use Rattle.conref_targets.specs.PageAsking.{IsMet}
use Rattle.conref_targets.proofs.EachLaws.{inside_each, node_each, origin_each}
use Rattle.conref_targets.proofs.origin.whole_of.Goals as goal

pub returns-in-None-clause-whole : goal.returns-in-None-clause-whole
returns-in-None-clause-whole c = λ place part is there begins.
    absurd (origin_there c.args.doc.now place c.args.node.now is.here (sym c.in-None.ensures))

pub returns-in-Some-clause-whole : goal.returns-in-Some-clause-whole
returns-in-Some-clause-whole c = λ place part is there begins.
    whole_there c.args.doc.now place part c.args.node.now c.args.inside c.in-Some.origin.now there begins is.element
    is.within c.in-Some.ensures

pub returns-in-Some-clause-names : goal.returns-in-Some-clause-names
returns-in-Some-clause-names c = λ place is.
    whole_reused c.args.doc.now place c.args.node.now c.args.inside c.in-Some.origin.now is c.in-Some.ensures

pub returns-in-Some-clause-hrefs : goal.returns-in-Some-clause-hrefs
returns-in-Some-clause-hrefs c = λ told place is all. (
  origin_each (HasNamed told) c.args.inside c.args.node.now c.in-Some.origin.now c.args.doc.now (sym is.within)
      c.in-Some.ensures (node_each (HasNamed told) c.args.doc.now place c.args.node.now c.args.inside is all),
  inside_each (HasNamed told) c.args.doc.now place c.args.node.now c.args.inside is all,
)

pub returns-in-Some-clause-met : goal.returns-in-Some-clause-met
returns-in-Some-clause-met c = λ page place is all. (
  origin_each (IsMet page) c.args.inside c.args.node.now c.in-Some.origin.now c.args.doc.now (sym is.within)
      c.in-Some.ensures (node_each (IsMet page) c.args.doc.now place c.args.node.now c.args.inside is all),
  inside_each (IsMet page) c.args.doc.now place c.args.node.now c.args.inside is all,
)
