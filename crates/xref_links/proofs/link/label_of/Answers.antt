use Rattle.std.proofs.Common.{◌∙◌, ap, sym}
use Rattle.std.specs.Prelude.{[], unwrap_or}
use Rattle.html_spec.specs.Anchors.{text_of_target}
use Rattle.xref_links.specs.Adding.{element_of, inside_of, label_with}
use Rattle.xref_links.proofs.LabelLaws.{text_as, text_there}
use Rattle.xref_links.proofs.link.label_of.Goals as goal

pub returns-in-None-clause-known : goal.returns-in-None-clause-known
returns-in-None-clause-known g c = λ here page agrees.
    let text = text_of_target here (element_of page c.args.standing) c.args.target.now in
    text_as c.text_of_target.result _ (label_with c.args.types.is_link (inside_of page c.args.standing) text)
    (text_there here page c.args.standing c.args.target.now
    ∙ ap (λ label. unwrap_or label text) (sym c.in-None.is) ∙ c.in_ok-label.ensures page text)
    (c.text_of_target.ensures.known here [] agrees)

pub returns-in-None-clause-stand : goal.returns-in-None-clause-stand
returns-in-None-clause-stand g c = c.text_of_target.ensures.stand

pub returns-in-None-clause-founded : goal.returns-in-None-clause-founded
returns-in-None-clause-founded g c = c.text_of_target.ensures.founded

pub returns-in-None-clause-asks : goal.returns-in-None-clause-asks
returns-in-None-clause-asks g c = c.text_of_target.ensures.asks

pub returns-in-None-clause-grows : goal.returns-in-None-clause-grows
returns-in-None-clause-grows g c = c.text_of_target.ensures.grows
