use Rattle.std.proofs.Common.{arith, not, rules, tests}
use Rattle.std.proofs.lemmas.List.Sorted.{IsPartitionPoint-from_clause}
use Rattle.key_scopes.specs.Ways.{is_later}
use Rattle.key_scopes.proofs.CutLaws.{later_higher}
use Rattle.key_scopes.proofs.TurnLaws.{parted_in_turn}
use Rattle.key_scopes.proofs.search.count_until.Goals as goal

pub returns-clause-order : goal.returns-clause-order
returns-clause-order c = λ name later. later_higher c.args.until name (omega (arith, c.ranges.until)) later

pub returns-clause-place : goal.returns-clause-place
returns-clause-place c = λ turn.
    IsPartitionPoint-from_clause (λ name. not (is_later c.args.until.child c.args.until.rank name)) c.args.names.now
    c.partition_point.result c.partition_point.ensures.partitioned
    (parted_in_turn c.args.until.child c.args.until.rank c.args.names.now turn) (λ x b q k. search (rules, tests))
