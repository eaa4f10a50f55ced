use Rattle.std.proofs.Common.{◌≡◌, ◌≤◌, [], List, vec_capacity, vec_len}
use Rattle.desk_lock.specs.Lists.{Each}
use Rattle.desk_work.specs.Dealing.{piles_seen}
use Rattle.desk_work.specs.Work.{Job}
use Rattle.desk_work.proofs.deal.empty_piles.Given as goal

abbrev pub invariant-loop : goal.invariant-loop
invariant-loop l = record {
  many : vec_len l.piles ≡ l.counter;
  room : l.count ≤ vec_capacity l.piles;
  empty : Each (λ (pile : List Job). pile ≡ []) (piles_seen l.piles.items);
}
