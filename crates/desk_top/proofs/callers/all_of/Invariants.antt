use Rattle.std.proofs.Common.{◌≡◌, ◌++◌, length}
use Rattle.std.specs.Vec.Iter.{into_iter_items, into_iter_len}
use Rattle.desk_top.specs.Served.{together}
use Rattle.desk_top.proofs.callers.all_of.Given as goal

abbrev pub invariant-loop-built : goal.invariant-loop-built
invariant-loop-built l = record {
  size : into_iter_len l.built-iterator ≡ length (into_iter_items l.built-iterator);
  all : l.all.items ++ together (into_iter_items l.built-iterator) ≡ together l.fn.left.items;
}
