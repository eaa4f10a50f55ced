use Rattle.std.proofs.Common.{◌<◌, ℕ, ap, length, subst, ◌∙◌}
use Rattle.std.proofs.lemmas.Bool.Decides.{Decides-at}
use Rattle.fact_judge.proofs.EqLaws.{answer_decides}
use Rattle.fact_judge.proofs.TableLaws.{scope_count, tells_key}
use Rattle.fact_judge.proofs.planned.is_key.Goals as goal

pub returns-clause-tells : goal.returns-clause-tells
returns-clause-tells c = tells_key c.eq.result c.args.scope _ _ c.in_ok-given.given c.args.answer.now
    (subst (λ (n : ℕ). c.args.scope < n)
    (c.len.ensures.length ∙ ap length c.list.ensures ∙ scope_count _ _ _ _ c.requires) c.if-scope-len.false)
    c.in_ok-given.ensures.value
    (Decides-at c.eq.result _ c.eq.ensures (answer_decides c.in_ok-given.given c.args.answer.now))
