use Rattle.std.proofs.Common.{ap, arith, length, subst}
use Rattle.std.specs.Vec.Iter.{into_iter_items}
use Rattle.desk_top.specs.Cited.{AreCitedBut}
use Rattle.desk_top.proofs.ShownLaws.{one_cited}
use Rattle.desk_top.proofs.told.cited_by.Goals as goal

pub index_mut-requires : goal.index_mut-requires
index_mut-requires c =
    let cited = subst (AreCitedBut c.loop-place.shown.items c.loop-place.rows.entries c.args.built.items)
    c.in-Some.ensures.steps.0 c.loop-place.invariant.cited in
    let within = cited.within 0 c.in-Some.field-0.place (omega arith) in
    omega (arith, within, c.loop-place.shown.ok.0)

pub loop-place-preserved-in_ok-text_of : goal.loop-place-preserved-in_ok-text_of
loop-place-preserved-in_ok-text_of c = record {
  size = omega (arith, c.in-Some.ensures.steps.1, c.loop-place.invariant.size, ap length c.in-Some.ensures.steps.0);
  count = c.loop-place.invariant.count;
  cited = one_cited c.loop-place.shown.items c.loop-place.rows.entries c.text_of.new.rows.entries c.args.built.items
      c.in-Some.field-0 (into_iter_items c.next.new.self) c.in_ok-text_of.field-0 c.in_ok-text_of.ensures.text
      c.in_ok-text_of.ensures.rows
      (subst (AreCitedBut c.loop-place.shown.items c.loop-place.rows.entries c.args.built.items)
      c.in-Some.ensures.steps.0 c.loop-place.invariant.cited);
}

pub loop-place-preserved-in_ok-text_of-2 : goal.loop-place-preserved-in_ok-text_of-2
loop-place-preserved-in_ok-text_of-2 c = record {
  size = omega (arith, c.in-Some.ensures.steps.1, c.loop-place.invariant.size, ap length c.in-Some.ensures.steps.0);
  count = c.loop-place.invariant.count;
  cited = one_cited c.loop-place.shown.items c.loop-place.rows.entries c.text_of.new.rows.entries c.args.built.items
      c.in-Some.field-0 (into_iter_items c.next.new.self) c.in_ok-text_of.field-0 c.in_ok-text_of.ensures.text
      c.in_ok-text_of.ensures.rows
      (subst (AreCitedBut c.loop-place.shown.items c.loop-place.rows.entries c.args.built.items)
      c.in-Some.ensures.steps.0 c.loop-place.invariant.cited);
}

pub loop-place-preserved : goal.loop-place-preserved
loop-place-preserved c = record {
  size = omega (arith, c.in-Some.ensures.steps.1, c.loop-place.invariant.size, ap length c.in-Some.ensures.steps.0);
  count = c.loop-place.invariant.count;
  cited = one_cited c.loop-place.shown.items c.loop-place.rows.entries c.text_of.new.rows.entries c.args.built.items
      c.in-Some.field-0 (into_iter_items c.next.new.self) c.in_ok-text_of.field-0 c.in_ok-text_of.ensures.text
      c.in_ok-text_of.ensures.rows
      (subst (AreCitedBut c.loop-place.shown.items c.loop-place.rows.entries c.args.built.items)
      c.in-Some.ensures.steps.0 c.loop-place.invariant.cited);
}
