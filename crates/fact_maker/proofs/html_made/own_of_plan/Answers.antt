use Rattle.std.specs.Prelude.{◌≡◌, ℕ, IfOk, length, reverse}
use Rattle.std.proofs.Common.{ap, subst, ◌∙◌}
use Rattle.readers.specs.Noted.{answered_of}
use Rattle.fact_maker.specs.Own.{own_asked}
use Rattle.fact_maker.proofs.html_made.own_of_plan.Goals as goal

pub returns : goal.returns
returns c = subst (λ (count : ℕ). IfOk c.own_asked.result
    (λ list. list ≡ own_asked count (answered_of (reverse c.args.asked))))
    (c.len.ensures.length ∙ ap length c.list.ensures) c.own_asked.ensures
