use Rattle.std.proofs.Common.{take}
use Rattle.page_table.specs.Pages.{IsPageTable}
use Rattle.page_table.proofs.table.PageTable.of.Given as goal

abbrev pub invariant-loop-index : goal.invariant-loop-index
invariant-loop-index l = IsPageTable (take l.index l.pages) l.table
