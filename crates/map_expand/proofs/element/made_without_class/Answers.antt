use Rattle.std.proofs.Common.{refl}
use Rattle.map_expand.proofs.element.made_without_class.Goals as goal

pub returns-then-is_dita : goal.returns-then-is_dita
returns-then-is_dita c = λ name. rw (← c.if-is_dita.ensures name) refl

pub returns-else-is_dita : goal.returns-else-is_dita
returns-else-is_dita c = λ name. rw (← c.if-is_dita.ensures name) refl
