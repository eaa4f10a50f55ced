use Rattle.std.proofs.Common.{◌≡◌, ◌++◌, length, map}
use Rattle.std.specs.Vec.Iter.{into_iter_items, into_iter_len}
use Rattle.desk_top.specs.Cited.{page_marked, row_in, with_rows}
use Rattle.desk_top.proofs.told.pages_text.Given as goal

abbrev pub invariant-loop-name : goal.invariant-loop-name
invariant-loop-name l = record {
  size : into_iter_len l.name-iterator ≡ length (into_iter_items l.name-iterator);
  marks : l.marks ++ map page_marked (into_iter_items l.name-iterator) ≡ map page_marked l.fn.pages;
  rows : with_rows l.rows.entries (map row_in (into_iter_items l.name-iterator))
      ≡ with_rows l.fn.rows.entries (map row_in l.fn.pages);
}
