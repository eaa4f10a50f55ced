use Rattle.std.proofs.Common.{◌∙◌, ap, sym}
use Rattle.std.specs.Prelude.{[], ◌+◌}
use Rattle.std.specs.Option.{option_map_or}
use Rattle.dita_doc.specs.Siblings.{content}
use Rattle.doc_elements.specs.Walk.{found_in}
use Rattle.map_spec.specs.Elements.{plain_text}
use Rattle.map_spec.specs.Written.{Whole}
use Rattle.xref_links.specs.Adding.{inside_of, label_with}
use Rattle.xref_links.proofs.LabelLaws.{label_found}
use Rattle.xref_links.proofs.link.own_label.Goals as goal

pub returns-in_ok-plain_text-in-Some : goal.returns-in_ok-plain_text-in-Some
returns-in_ok-plain_text-in-Some c = λ page other.
    c.in_ok-plain_text-in-Some.ensures []
    ∙ sym (ap (λ found. option_map_or (λ (text : Whole). plain_text text.1) (found_in [] found) other) c.in-Some.is)
    ∙ label_found page.body.now (c.args.standing.place + 1) [] (content c.args.standing.inside)
    (found_in [] c.first_child.result) other (c.first_child.ensures [])
    ∙ ap (λ is_link. label_with is_link (inside_of page c.args.standing) other) (sym c.if-not-types.false)

pub returns-in-None : goal.returns-in-None
returns-in-None c = λ page other.
    sym (ap (λ found. option_map_or (λ (text : Whole). plain_text text.1) (found_in [] found) other) c.in-None.is)
    ∙ label_found page.body.now (c.args.standing.place + 1) [] (content c.args.standing.inside)
    (found_in [] c.first_child.result) other (c.first_child.ensures [])
    ∙ ap (λ is_link. label_with is_link (inside_of page c.args.standing) other) (sym c.if-not-types.false)
