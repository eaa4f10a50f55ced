use Rattle.std.proofs.Common.{◌≡◌, ◌++◌, drop}
use Rattle.key_scopes.specs.Children.{child_names_of, names_written, ranked}
use Rattle.key_scopes.proofs.children.push_names.Given as goal

abbrev pub invariant-loop-rank : goal.invariant-loop-rank
invariant-loop-rank l =
    names_written l.written.items ++ ranked l.scope.parent l.child l.rank (drop l.rank l.scope.names)
    ≡ names_written l.initial.written.items ++ child_names_of (l.scope, l.child)
