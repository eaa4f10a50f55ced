use Rattle.std.proofs.Common.{◌∙◌, nat_le, nat_lt, rules, tests}
use Rattle.std.proofs.lemmas.List.Sorted.{IsPartitionPoint-from_clause}
use Rattle.key_scopes.specs.declared.children.ChildName.{ChildName}
use Rattle.key_scopes.proofs.PartLaws.{back_part, from_scope, parted_by_scope}
use Rattle.key_scopes.proofs.search.names_from.Goals as goal

pub returns-clause-value : goal.returns-clause-value
returns-clause-value c = λ turn.
    c.names_behind.ensures
    ∙ back_part (λ (name : ChildName). nat_lt name.child c.args.scope)
    (λ (name : ChildName). nat_le c.args.scope name.child) c.args.names.now c.partition_point-count.result
    (from_scope c.args.scope) (IsPartitionPoint-from_clause (λ (name : ChildName). nat_lt name.child c.args.scope)
    c.args.names.now c.partition_point-count.result c.partition_point-count.ensures.partitioned
    (parted_by_scope c.args.scope c.args.names.now turn) (λ x b q k. search (rules, tests)))
