use Rattle.std.proofs.Common.{◌∙◌}
use Rattle.std.proofs.lemmas.Bool.Decides.{Decides-at}
use Rattle.fact_judge.proofs.EqLaws.{faults_decide, pushes_decide}
use Rattle.fact_judge.proofs.TableLaws.{tells_faults, tells_pushes}
use Rattle.fact_judge.proofs.planned.are_pushes.Goals.{then-eq, else-eq}
use Rattle.fact_judge.proofs.planned.are_pushes.Goals as goal

pub returns : goal.returns
returns c = λ world documents table.
    let given = c.in_ok-given.given in
    elim c.if-eq.branch [
      | then-eq w ↦ tells_faults _ c.eq.result w.eq-then-eq.result _ given c.args.pushes.now c.args.faults.now
          w.result-is w.if-eq.true (c.in_ok-given.ensures world documents table)
          (Decides-at c.eq.result _ c.eq.ensures (pushes_decide given.pushes c.args.pushes.now))
          (Decides-at w.eq-then-eq.result _ w.eq-then-eq.ensures (faults_decide given.faults c.args.faults.now))
      | else-eq w ↦ tells_pushes _ c.eq.result _ given c.args.pushes.now c.args.faults.now
          (w.result-is ∙ w.if-eq.false) w.if-eq.false (c.in_ok-given.ensures world documents table)
          (Decides-at c.eq.result _ c.eq.ensures (pushes_decide given.pushes c.args.pushes.now))
    ]
