use Rattle.std.proofs.Common.{◌∙◌, ap, arith, refl, sym, ◌∷◌}
use Rattle.html_spec.specs.Blocks.{marks_at}
use Rattle.html_blocks.proofs.MarkLaws.{mark_elsewhere, mark_here, none_left}
use Rattle.html_blocks.proofs.mark.ElementMarks.split_first.Goals as goal

pub loop-mark-init : goal.loop-mark-init
loop-mark-init c = record { same = refl; fewer = omega arith }

pub returns-then-mark-self-clause-some : goal.returns-then-mark-self-clause-some
returns-then-mark-self-clause-some c =
    let place = c.args.self.place in
    let among = c.in-Some.among.now in
    sym c.loop-mark.invariant.same
    ∙ mark_here c.loop-mark.left.now among c.in-Some.mark.now place c.in-Some.ensures.cases.0 c.if-mark-self.true
    ∙ ap (λ text. text ∷ marks_at among place) (sym c.as_str.ensures)

pub returns-then-mark-self-clause-fewer : goal.returns-then-mark-self-clause-fewer
returns-then-mark-self-clause-fewer c = omega (arith, c.loop-mark.invariant.fewer, c.in-Some.ensures.cases.1)

pub loop-mark-smaller : goal.loop-mark-smaller
loop-mark-smaller c = omega (arith, c.in-Some.ensures.cases.1)

pub loop-mark-preserved : goal.loop-mark-preserved
loop-mark-preserved c =
    let place = c.args.self.place in
    record {
      same = sym (mark_elsewhere c.loop-mark.left.now c.in-Some.among.now c.in-Some.mark.now place
          c.in-Some.ensures.cases.0 c.if-mark-self.false)
          ∙ c.loop-mark.invariant.same;
      fewer = omega (arith, c.loop-mark.invariant.fewer, c.in-Some.ensures.cases.1);
    }

pub returns-clause-none : goal.returns-clause-none
returns-clause-none c =
    sym c.loop-mark.invariant.same ∙ none_left c.loop-mark.left.now c.args.self.place c.in_default.ensures.cases
