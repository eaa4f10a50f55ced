use Rattle.std.proofs.Common.{◌≡◌, ◌++◌, vec_len}
use Rattle.toc_page.specs.Opened.{ends_all, stack_of}
use Rattle.toc_page.proofs.list.OpenItems.close.Given as goal

abbrev pub decreases-loop-item : goal.decreases-loop-item
decreases-loop-item l = vec_len l.self.items

abbrev pub invariant-loop-item : goal.invariant-loop-item
invariant-loop-item l = l.fn.out ++ ends_all (stack_of l.fn.self) ≡ l.out ++ ends_all (stack_of l.self)
