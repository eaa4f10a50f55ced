use Rattle.std.proofs.Common.{All}
use Rattle.std.specs.Map.{values_of}
use Rattle.desk_top.specs.Told.{HasUtf8Page, TellsRows}
use Rattle.desk_top.proofs.told.append_rows.Given as goal

abbrev pub invariant-loop-row : goal.invariant-loop-row
invariant-loop-row l = record {
  told : TellsRows (values_of l.rows.entries) (values_of l.row-iterator) l.fn.text l.text;
  utf8 : All HasUtf8Page (values_of l.row-iterator);
}
