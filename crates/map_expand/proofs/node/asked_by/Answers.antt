use Rattle.std.proofs.Common.{Some, ap, sym, ◌∙◌}
use Rattle.std.specs.Option.{option_copied}
use Rattle.doc_elements.specs.Walk.{element_of}
use Rattle.map_spec.specs.Target.{named_of}
use Rattle.map_expand.proofs.node.asked_by.Goals as goal

pub returns-in_default : goal.returns-in_default
returns-in_default c = sym (c.map_href.ensures c.args.name.now) ∙ ap option_copied c.in_default.is

pub returns : goal.returns
returns c = (
  sym (c.in-Some.ensures c.args.name.now) ∙ ap (λ x. Some x) (sym c.in_ok-from_str.ensures),
  c.in_ok-named_of.ensures ∙ ap (named_of (element_of c.args.name.now c.args.element.now)) (sym c.in_ok-from_str.ensures),
)
