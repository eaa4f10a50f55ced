use Rattle.std.proofs.Common.{◌≡◌, ◌++◌, vec_len}
use Rattle.toc_page.specs.Opened.{around_place, ends_before, stack_of}
use Rattle.toc_page.proofs.list.OpenItems.close_before.Given as goal

abbrev pub decreases-loop-item : goal.decreases-loop-item
decreases-loop-item l = vec_len l.self.items

abbrev pub invariant-loop-item : goal.invariant-loop-item
invariant-loop-item l = record {
  text : l.fn.out ++ ends_before l.place (stack_of l.fn.self) ≡ l.out ++ ends_before l.place (stack_of l.self);
  stack : around_place l.place (stack_of l.fn.self) ≡ around_place l.place (stack_of l.self);
}
