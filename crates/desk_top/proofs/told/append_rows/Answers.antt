use Rattle.std.proofs.Common.{All, subst}
use Rattle.std.specs.Map.{values_of}
use Rattle.std.proofs.lemmas.List.Elements.{All-tail}
use Rattle.desk_top.specs.Told.{HasUtf8Page, TellsRows}
use Rattle.desk_top.proofs.RowToldLaws.{more_rows}
use Rattle.desk_top.proofs.told.append_rows.Goals as goal

pub loop-row-preserved : goal.loop-row-preserved
loop-row-preserved c = record {
  told = more_rows (values_of c.args.rows.now.entries) (values_of c.next.new.self) c.in-Some.row.now c.args.text.now
      c.loop-row.text c.append_row.new.text
      (subst (λ entries. TellsRows (values_of c.args.rows.now.entries) (values_of entries) c.args.text.now
      c.loop-row.text) c.in-Some.ensures.steps c.loop-row.invariant.told) c.in_ok-append_row.ensures;
  utf8 = All-tail HasUtf8Page c.in-Some.row.now (values_of c.next.new.self)
      (subst (λ entries. All HasUtf8Page (values_of entries)) c.in-Some.ensures.steps c.loop-row.invariant.utf8);
}
