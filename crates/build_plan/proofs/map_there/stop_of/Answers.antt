use Rattle.std.proofs.Common.{sym, ap, ◌∙◌}
use Rattle.doc_elements.specs.Walk.{content_in}
use Rattle.map_spec.specs.Written.{first_sibling, written_in}
use Rattle.build_plan.specs.Stages.{map_stop}
use Rattle.build_plan.proofs.map_there.stop_of.Goals as goal

pub returns-in-Element : goal.returns-in-Element
returns-in-Element c = λ name. c.stop_of_root.ensures name (content_in name c.in-Element.inside)
    ∙ sym (ap map_stop (c.loop-rest.invariant name ∙ ap (λ t. first_sibling (written_in name t)) c.in-Element.ensures.content))
