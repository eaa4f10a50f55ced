use Rattle.std.proofs.Common.{List, Vec, Global, ℕ, arith, ◌+◌, ◌++◌, ◌∷◌, [], ap, min, refl, sym, ◌∙◌}
use Rattle.readers.specs.Named.{under_names}
use Rattle.conref_targets.specs.Parts.{ends_from}
use Rattle.conref_targets.proofs.EndLaws.{left_as, left_element, left_missing, left_none, left_text}
use Rattle.conref_targets.proofs.tables.+put_ends.Goals as goal
use Rattle.conref_targets.proofs.tables.+put_ends.Goals.{then-is_element+in_ok-put_ends, else-is_element}

pub loop-init : goal.loop-init
loop-init t c = record {
  from = omega arith;
  way = λ part there fits. record { rest = part; there = there; fits = fits; far = omega arith; same = refl };
}

pub loop-preserved : goal.loop-preserved
loop-preserved t c = record {
  from = omega (arith, c.loop.invariant.from, c.max-place.ensures);
  way = λ part there fits. elim c.if-is_element.branch [
    | then-is_element+in_ok-put_ends w ↦
        left_as c.args.doc.now _ _ _ c.args.to _ _ _ (ap (λ (v : Vec ℕ Global). v.items) w.ends-is)
        c.max-place.ensures
        (left_element c.args.doc.now _ c.loop.ends.items c.args.to c.loop.place c.loop.counter
        (c.loop.invariant.way part there fits) c.in-Some.node.now c.if-place-to.false (sym c.in-Some.ensures)
        (sym w.if-is_element.ensures) w.put_ends.new.ends.items
        (λ held at size.
        (let bound = w.min.ensures ∙ ap (λ n. min n c.args.to) c.max-place.ensures in
        w.in_ok-put_ends.ensures held at (size ∙ sym bound)
        ∙ ap (λ (es : List ℕ). es
        ++ ends_from w.min.result (c.loop.place + 1) (under_names c.args.doc.now.origins held))
        c.in_ok-push.ensures.items
        ∙ ap (λ n. (c.loop.ends.items ++ c.args.to ∷ []) ++ ends_from n (c.loop.place + 1)
        (under_names c.args.doc.now.origins held)) bound)))
    | else-is_element w ↦
        left_as c.args.doc.now _ _ _ c.args.to _ _ _
        (ap (λ (v : Vec ℕ Global). v.items) w.ends-is ∙ c.in_ok-push.ensures.items) c.max-place.ensures
        (left_text c.args.doc.now _ c.loop.ends.items c.args.to c.loop.place c.loop.counter
        (c.loop.invariant.way part there fits) c.in-Some.node.now c.if-place-to.false (sym c.in-Some.ensures)
        (sym w.if-is_element.ensures))
  ];
}

pub returns-then-place-to : goal.returns-then-place-to
returns-then-place-to t c = λ part there fits.
    left_none c.args.doc.now _ c.loop.ends.items c.args.to c.loop.place c.loop.counter
    (c.loop.invariant.way part there fits) c.if-place-to.true

pub returns-in_default : goal.returns-in_default
returns-in_default t c = λ part there fits.
    left_missing c.args.doc.now _ c.loop.ends.items c.args.to c.loop.place c.loop.counter
    (c.loop.invariant.way part there fits) c.if-place-to.false (sym c.in_default.ensures)

pub returns : goal.returns
returns t c = λ part there fits.
    (let left = c.loop.invariant.way part there fits in
    left_none c.args.doc.now _ c.loop.ends.items c.args.to c.loop.place c.loop.counter left
    (omega (arith, left.far, c.loop-test.false)))
