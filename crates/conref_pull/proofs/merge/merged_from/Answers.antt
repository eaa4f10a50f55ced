use Rattle.doc_elements.specs.Walk.{element_of}
use Rattle.conref_pull.specs.Merging.{own_part}
use Rattle.conref_pull.proofs.TakingLaws.{all_taken}
use Rattle.conref_pull.proofs.merge.merged_from.Goals as goal

pub returns-clause-merged : goal.returns-clause-merged
returns-clause-merged c = λ path end one taken is linked.
    let element = element_of c.args.origin.now c.args.element.now in
    let nearer = c.in_ok-merged.ensures.merged path end taken (own_part element) linked c.in_ok-own.ensures.merged in
    all_taken c.with_link.result element one.element taken nearer.made nearer.alike
    (c.with_link.ensures.merged nearer.made one nearer.is is)

pub returns-clause-hrefs : goal.returns-clause-hrefs
returns-clause-hrefs c = λ told named first more. c.with_link.ensures.hrefs told first
    (c.in_ok-merged.ensures.hrefs told more (c.in_ok-own.ensures.hrefs told named))
