use Rattle.std.proofs.Common.{◌≡◌, length}
use Rattle.std.specs.Prelude.{vec_len}
use Rattle.std.specs.Vec.Iter.{into_iter_items, into_iter_len}
use Rattle.desk_top.specs.Cited.{AreCitedBut}
use Rattle.desk_top.proofs.told.cited_by.Given as goal

abbrev pub invariant-loop-place : goal.invariant-loop-place
invariant-loop-place l = record {
  size : into_iter_len l.place-iterator ≡ length (into_iter_items l.place-iterator);
  count : vec_len l.shown ≡ l.entries;
  cited : AreCitedBut l.shown.items l.rows.entries l.fn.built.items (into_iter_items l.place-iterator);
}
