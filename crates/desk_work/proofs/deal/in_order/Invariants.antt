use Rattle.std.proofs.Common.{◌≡◌, ◌+◌, ◌≤◌, length, vec_capacity, vec_len}
use Rattle.std.specs.Vec.Iter.{into_iter_items}
use Rattle.desk_work.specs.Attempts.{jobs_seen}
use Rattle.desk_work.specs.Dealing.{piles_seen}
use Rattle.desk_work.proofs.TakeLaws.{AreTaken}
use Rattle.desk_work.proofs.deal.in_order.Given as goal

abbrev pub invariant-loop-home : goal.invariant-loop-home
invariant-loop-home l = record {
  many : vec_len l.jobs + length (into_iter_items l.home-iterator) ≡ length l.fn.dealt.homes.items;
  room : length l.fn.dealt.homes.items ≤ vec_capacity l.jobs;
  taken : AreTaken l.fn.dealt.homes.items (into_iter_items l.home-iterator) (piles_seen l.fn.dealt.piles.items)
      (jobs_seen l.jobs.items) (piles_seen l.piles.items);
}
