use Rattle.std.proofs.Common.{◌-◌, subst}
use Rattle.std.proofs.lemmas.Result.{IfOk-weaker}
use Rattle.doc_elements.specs.Walk.{element_of}
use Rattle.conref_pull.specs.Linked.{AreGivenTo}
use Rattle.conref_pull.specs.PutHrefs.{MergedNamed}
use Rattle.conref_pull.proofs.HrefMergeLaws.{by_element}
use Rattle.conref_pull.proofs.MergeLaws.{with_none, with_some}
use Rattle.conref_pull.proofs.merge.merged_with.Goals as goal

pub returns-in-None-clause-merged : goal.returns-in-None-clause-merged
returns-in-None-clause-merged c = λ path end taken inside linked.
    with_none (element_of c.args.origin.now c.args.element.now) inside path end taken c.args.links.now c.written.result
    linked c.in-None.ensures.cases c.written.ensures

pub returns-in-Some-clause-merged : goal.returns-in-Some-clause-merged
returns-in-Some-clause-merged c = λ path end taken inside linked.
    with_some (element_of c.args.origin.now c.args.element.now) inside path end taken c.args.links.now
    c.merged_from.result linked c.in-Some.farthest.now c.in-Some.nearer.now c.in-Some.ensures.cases.0
    (λ one others is rest. c.merged_from.ensures.merged path (end - 1) one others is rest)

pub returns-in-None-clause-hrefs : goal.returns-in-None-clause-hrefs
returns-in-None-clause-hrefs c = λ told named given.
    (let element = element_of c.args.origin.now c.args.element.now in
    IfOk-weaker c.written.result _ (MergedNamed told) (λ merged is. by_element told merged element is named)
    c.written.ensures)

pub returns-in-Some-clause-hrefs : goal.returns-in-Some-clause-hrefs
returns-in-Some-clause-hrefs c = λ told named given.
    (let both = subst (AreGivenTo told) c.in-Some.ensures.cases.0 given in
    c.merged_from.ensures.hrefs told named both.0 both.1)
