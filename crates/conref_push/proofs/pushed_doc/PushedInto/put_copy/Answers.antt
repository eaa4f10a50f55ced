use Rattle.std.proofs.Common.{◌∙◌, ap, refl, sym}
use Rattle.std.specs.Prelude.{Option}
use Rattle.std.specs.Option.{option_map_or}
use Rattle.dita_doc.specs.declared.doc.Attribute.{Attribute}
use Rattle.std.specs.Prelude.{List, ℕ}
use Rattle.doc_elements.specs.Walk.{content_in, element_of, found_in}
use Rattle.doc_maker.specs.Building.{behind, element, href_written, opened}
use Rattle.doc_maker.specs.Made.{building}
use Rattle.doc_maker.proofs.BuildingLaws.{behind_end, href_own}
use Rattle.map_spec.specs.Written.{End, Node, Whole}
use Rattle.map_spec.specs.Pushes.{without_acting}
use Rattle.conref_push.specs.Making.{pushed_copy}
use Rattle.conref_push.specs.Sight.{element_before}
use Rattle.conref_push.proofs.MakingLaws.{by_replaced, closed_with}
use Rattle.conref_push.proofs.pushed_doc.PushedInto.put_copy.Goals as goal

pub returns-in_default : goal.returns-in_default
returns-in_default c = λ world names name are from.
    let was = building c.args.maker.now in
    let replaced = element_before name c.args.replaced in
    sym (behind_end was)
    ∙ ap (λ (found : Option Whole). behind was (option_map_or
    (λ (whole : Whole). Node (pushed_copy replaced whole.0) (without_acting whole.1) End) found End))
    (sym (ap (found_in c.args.push.now.from) c.in_default.is)
    ∙ c.element.ensures world names are (from c.args.push.now refl))

pub returns : goal.returns
returns c = λ world names name are from.
    let was = building c.args.maker.now in
    let replaced = element_before name c.args.replaced in
    let doc = c.args.push.now.from in
    let node = c.in-Some.element.now in
    let label = element_of doc node in
    closed_with was (building c.open.new.self) (building c.put_quiet.new.maker) (building c.close.new.self)
    (pushed_copy replaced label) (without_acting (content_in doc c.in-Some.inside))
    (c.in_ok-open.ensures.opened
    ∙ ap (λ (l : List ℕ). opened was (element l c.in_ok-attributes.attributes doc node.line
    (href_written c.in_ok-attributes.attributes doc doc))) c.in_ok-clone.ensures.cases
    ∙ ap (λ (home : List ℕ). opened was (element node.text c.in_ok-attributes.attributes doc node.line home))
    (href_own c.in_ok-attributes.attributes doc)
    ∙ ap (λ (l : List Attribute). opened was (element node.text l doc node.line doc))
    (c.in_ok-attributes.ensures doc name)
    ∙ by_replaced was doc node replaced)
    c.in_ok-put_quiet.ensures c.close.ensures.closed
    ∙ ap (λ (found : Option Whole). behind was (option_map_or
    (λ (whole : Whole). Node (pushed_copy replaced whole.0) (without_acting whole.1) End) found End))
    (sym (ap (found_in doc) c.in-Some.is) ∙ c.element.ensures world names are (from c.args.push.now refl))
