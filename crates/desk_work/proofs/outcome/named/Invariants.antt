use Rattle.std.proofs.Common.{◌≡◌, ◌++◌, length, map, take}
use Rattle.std.specs.Vec.Iter.{into_iter_items}
use Rattle.desk_work.specs.Outcome.{page_names}
use Rattle.desk_work.specs.declared.built.PageRow.{PageRow}
use Rattle.desk_work.proofs.outcome.named.Given as goal

abbrev pub invariant-loop-row : goal.invariant-loop-row
invariant-loop-row l = record {
  count : length l.pages ≡ l.index;
  names : map (λ (page : PageRow). page.name) l.pages ≡ take l.index (page_names l.fn.plan);
  rows : map (λ (page : PageRow). page.row) l.pages ++ into_iter_items l.row-iterator ≡ l.fn.rows.items;
}
