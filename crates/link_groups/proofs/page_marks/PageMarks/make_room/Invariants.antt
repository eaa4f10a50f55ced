use Rattle.std.proofs.Common.{◌≡◌, ℕ, length, ◌+◌, ◌-◌}
use Rattle.link_groups.specs.PageMarks.{has_mark}
use Rattle.link_groups.proofs.page_marks.PageMarks.make_room.Given as goal

abbrev pub invariant-loop-self : goal.invariant-loop-self
invariant-loop-self l = (other : ℕ) → has_mark other l.self ≡ has_mark other l.fn.self

abbrev pub decreases-loop-self : goal.decreases-loop-self
decreases-loop-self l = l.page + 1 - length l.self.marks.items
