-- The parts so far and those that are left are all parts.
use Rattle.std.proofs.Common.{◌≡◌, ◌+◌, ◌-◌, ◌≤◌, ◌++◌, length, vec_capacity, vec_len}
use Rattle.desk_language.specs.Language.{pages_from}
use Rattle.desk_work.specs.Rounds.{parts_behind}
use Rattle.desk_work.proofs.rounds.parts_of.Given as goal

abbrev pub invariant-loop-index : goal.invariant-loop-index
invariant-loop-index l = record {
  parts : l.parts.items ++ pages_from l.key.map l.key.val l.index (length l.plan.pages - l.index)
      ≡ parts_behind l.key l.plan;
  count : vec_len l.parts ≡ l.index;
  room : length l.plan.pages + 1 ≤ vec_capacity l.parts;
}
