use Rattle.std.proofs.Common.{◌≡◌, ◌++◌, drop}
use Rattle.std.specs.List.{flat_map}
use Rattle.key_scopes.specs.Children.{all_names, child_names_of, names_written}
use Rattle.map_spec.specs.Scopes.{numbered}
use Rattle.key_scopes.proofs.children.ChildNames.of.Given as goal

abbrev pub invariant-loop-at : goal.invariant-loop-at
invariant-loop-at l = names_written l.written.items ++ flat_map child_names_of (numbered l.at (drop l.at l.scopes))
    ≡ all_names l.scopes
