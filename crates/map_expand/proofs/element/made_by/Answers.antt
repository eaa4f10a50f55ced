use Rattle.std.proofs.Common.{true, false, Some, None, ap, ◌∙◌}
use Rattle.std.proofs.lemmas.Bool.{not-false, not-true}
use Rattle.doc_elements.specs.Walk.{element_of}
use Rattle.map_expand.specs.Makes.{types_among}
use Rattle.map_expand.proofs.MakesLaws.{made_with, made_without}
use Rattle.map_expand.proofs.element.made_by.Goals as goal

pub returns-then-not-types : goal.returns-then-not-types
returns-then-not-types c = λ name. made_without (element_of name c.args.element.now) c.map_types-types.result
    (c.map_types-types.ensures ∙ ap types_among (c.tokens_of.ensures name)) c.made_without_class.result
    (not-true _ c.if-not-types.true) (c.made_without_class.ensures name)

pub returns-in-Some : goal.returns-in-Some
returns-in-Some c = λ name. made_with (element_of name c.args.element.now) c.map_types-types.result
    (c.map_types-types.ensures ∙ ap types_among (c.tokens_of.ensures name)) (Some c.in-Some.kind)
    (not-false _ c.if-not-types.false) c.in-Some.ensures

pub returns-in-None : goal.returns-in-None
returns-in-None c = λ name. made_with (element_of name c.args.element.now) c.map_types-types.result
    (c.map_types-types.ensures ∙ ap types_among (c.tokens_of.ensures name)) None
    (not-false _ c.if-not-types.false) c.in-None.ensures
