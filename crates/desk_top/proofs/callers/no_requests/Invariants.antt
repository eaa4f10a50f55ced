use Rattle.std.proofs.Common.{◌≡◌, ◌≤◌, []}
use Rattle.std.specs.List.{All}
use Rattle.std.specs.Prelude.{vec_capacity, vec_len}
use Rattle.desk_top.proofs.callers.no_requests.Given as goal

abbrev pub invariant-loop : goal.invariant-loop
invariant-loop l = record {
  count : vec_len l.piles ≡ l.counter;
  room : 16 ≤ vec_capacity l.piles;
  none : All (λ pile. pile.items ≡ []) l.piles.items;
}
