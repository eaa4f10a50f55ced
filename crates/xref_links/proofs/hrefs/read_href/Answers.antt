use Rattle.std.proofs.Common.{◌∙◌, ap, sym}
use Rattle.std.specs.Option.{option_copied}
use Rattle.xref_links.specs.Adding.{element_of}
use Rattle.xref_links.proofs.HrefLaws.{read_ends, read_some}
use Rattle.xref_links.proofs.hrefs.read_href.Goals as goal

pub returns : goal.returns
returns c = λ here same.
    let topic = c.args.standing.topic.now in
    let element = element_of c.args.page c.args.standing in
    read_ends here topic element c.in-Some-2.target c.in_topic.result c.args.faults.now
    (λ read leads. read_some here topic element c.in-Some.href.now c.value_or-format.result.now
    c.value_or-scope.result.now c.href_home-doc.result.now (sym c.value_of.ensures ∙ ap option_copied c.in-Some.is)
    c.value_or-format.ensures c.value_or-scope.ensures c.href_home-doc.ensures c.in_ok-target.field-0
    c.in-Some-2.target read c.args.faults.now c.in_ok-target.ensures c.in-Some-2.is leads)
    (c.in_topic.ensures here same)
