use Rattle.std.proofs.Common.{rules}
use Rattle.doc_elements.specs.Walk.{element_of}
use Rattle.conref_pull.specs.Merging.{IsMerged, own_part}
use Rattle.conref_pull.specs.declared.merge.Merged.{Merged}
use Rattle.conref_pull.proofs.HrefMergeLaws.{by_element, own_named}
use Rattle.conref_pull.proofs.merge.Merged.specified.Goals as goal

pub returns-clause-hrefs : goal.returns-clause-hrefs
returns-clause-hrefs c = λ told named.
    (let element = element_of c.args.origin.now c.args.element.now in
    let merged : Merged =
    record { attributes = c.attributes.inside.content.items; href_doc = c.in_ok-clone.field-0 } in
    let is : IsMerged merged (own_part element) = search rules in
    by_element told merged (own_part element) is (own_named told element named))
