use Rattle.std.proofs.Common.{sym, ◌∙◌}
use Rattle.title_layer.proofs.layer.known_title.Goals as goal

pub returns-in_ok-clone-in-Some : goal.returns-in_ok-clone-in-Some
returns-in_ok-clone-in-Some c = λ world titles.
    c.in-Some.ensures world titles ∙ sym c.in_ok-clone-in-Some.ensures.cases
