use Rattle.std.proofs.Common.{[], arith, refl, sym}
use Rattle.conref_targets.proofs.RangeLaws.{left_found, left_missing, left_none, left_step}
use Rattle.conref_targets.proofs.ranges.end_of_range.Goals as goal

pub loop-init : goal.loop-init
loop-init c = λ part there ends. record { rest = part; there = there; ends = ends; far = omega arith; same = refl }

pub loop-preserved : goal.loop-preserved
loop-preserved c = λ part there ends.
    left_step c.args.doc.now c.args.id.now _ c.args.to c.loop.place c.loop.counter (c.loop.invariant part there ends)
    c.in-Some.node.now c.if-place-to.false (sym c.in-Some.ensures) (sym (c.if-has_id.ensures []))

pub returns-then-place-to : goal.returns-then-place-to
returns-then-place-to c = λ part there ends.
    left_none c.args.doc.now c.args.id.now _ c.args.to c.loop.place c.loop.counter (c.loop.invariant part there ends)
    c.if-place-to.true

pub returns-in_default : goal.returns-in_default
returns-in_default c = λ part there ends.
    left_missing c.args.doc.now c.args.id.now _ c.args.to c.loop.place c.loop.counter
    (c.loop.invariant part there ends) c.if-place-to.false (sym c.in_default.ensures)

pub returns-then-has_id : goal.returns-then-has_id
returns-then-has_id c = λ part there ends.
    left_found c.args.doc.now c.args.id.now _ c.args.to c.loop.place c.loop.counter (c.loop.invariant part there ends)
    c.in-Some.node.now c.if-place-to.false (sym c.in-Some.ensures) (sym (c.if-has_id.ensures []))

pub returns : goal.returns
returns c = λ part there ends.
    (let left = c.loop.invariant part there ends in
    left_none c.args.doc.now c.args.id.now _ c.args.to c.loop.place c.loop.counter left
    (omega (arith, left.far, c.loop-test.false)))
