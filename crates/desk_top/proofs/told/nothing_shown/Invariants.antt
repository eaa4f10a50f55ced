use Rattle.std.proofs.Common.{◌≡◌, ◌≤◌, None}
use Rattle.std.specs.List.{All}
use Rattle.std.specs.Prelude.{vec_capacity, vec_len}
use Rattle.desk_top.proofs.told.nothing_shown.Given as goal

abbrev pub invariant-loop : goal.invariant-loop
invariant-loop l = record {
  count : vec_len l.shown ≡ l.counter;
  room : l.entries ≤ vec_capacity l.shown;
  none : All (λ one. one ≡ None) l.shown.items;
}
