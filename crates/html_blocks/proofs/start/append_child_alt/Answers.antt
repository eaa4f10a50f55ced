use Rattle.std.proofs.Common.{◌∙◌, Some, [], ap, codes, sym}
use Rattle.dita_doc.specs.Siblings.{content}
use Rattle.doc_elements.specs.Walk.{found_in}
use Rattle.html_blocks.specs.Walk.{content_of, origins_of}
use Rattle.map_spec.specs.Elements.{first_child, text_of}
use Rattle.html_spec.specs.Blocks.{attribute_text}
use Rattle.html_blocks.proofs.BareLaws.{child_found}
use Rattle.html_blocks.proofs.TagLaws.{text_as}
use Rattle.html_blocks.proofs.start.append_child_alt.Goals as goal

pub returns-in-None : goal.returns-in-None
returns-in-None c =
    let inside = c.args.inside in
    let token = codes "topic/alt" in
    text_as c.append_attribute-in-None.result c.args.out.now c.append_attribute-in-None.new.out _
    (attribute_text (codes "alt") (Some (text_of (first_child token (content_of inside)))))
    (ap (λ text. attribute_text (codes "alt") (Some text))
    (ap (λ found. text_of (found_in [] found)) (sym c.in-None.is)
    ∙ child_found token (origins_of inside) [] (content inside) _ (c.first_child.ensures [])))
    c.append_attribute-in-None.ensures

pub returns-in_ok-text-in-Some : goal.returns-in_ok-text-in-Some
returns-in_ok-text-in-Some c =
    let inside = c.args.inside in
    let token = codes "topic/alt" in
    text_as c.append_attribute.result c.args.out.now c.append_attribute.new.out _
    (attribute_text (codes "alt") (Some (text_of (first_child token (content_of inside)))))
    (ap (λ text. attribute_text (codes "alt") (Some text))
    (c.as_str.ensures
    ∙ c.in_ok-text-in-Some.ensures []
    ∙ ap (λ found. text_of (found_in [] found)) (sym c.in-Some.is)
    ∙ child_found token (origins_of inside) [] (content inside) _ (c.first_child.ensures [])))
    c.append_attribute.ensures
