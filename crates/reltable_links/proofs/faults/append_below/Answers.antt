use Rattle.std.proofs.Common.{[], ◌++◌, ◌∙◌, append-nil, ap, refl, sym}
use Rattle.std.specs.Prelude.{nat_lt}
use Rattle.std.specs.List.{flat_map}
use Rattle.dita_doc.proofs.Lists.{filter_none}
use Rattle.reltable_links.specs.Below.{is_below_one}
use Rattle.reltable_links.specs.RowTable.{lost_fault}
use Rattle.reltable_links.proofs.BelowLaws.{done_more, none_before}
use Rattle.reltable_links.proofs.FaultLaws.{faults_more}
use Rattle.reltable_links.proofs.faults.append_below.Goals as goal

pub loop-cell-init : goal.loop-cell-init
loop-cell-init c = record {
  are = λ order rise.
      sym (ap (λ lost. c.args.faults.now ++ flat_map (lost_fault c.args.plan.now) lost)
      (filter_none (is_below_one []) (λ at. refl) c.args.lost.now)
      ∙ append-nil c.args.faults.now);
  done = none_before;
}

pub loop-cell-preserved : goal.loop-cell-preserved
loop-cell-preserved c = record {
  are = λ order rise.
      faults_more c.args.plan.now c.args.cells.now c.args.lost.now c.loop-cell.cell-index _ c.loop-cell.done
      c.args.faults.now c.loop-cell.faults c.append_faults.new.faults c.loop-cell-test.true c.loop-cell.invariant.done
      order rise (c.loop-cell.invariant.are order rise)
      (c.in_ok-append_faults.ensures ∙ ap (λ lost. c.loop-cell.faults ++ flat_map (lost_fault c.args.plan.now) lost)
      (c.below.ensures rise));
  done = λ at.
      ap (nat_lt at) c.max-done.ensures
      ∙ done_more c.args.cells.now c.loop-cell.cell-index _ c.loop-cell.done c.loop-cell-test.true
      c.loop-cell.invariant.done at;
}
