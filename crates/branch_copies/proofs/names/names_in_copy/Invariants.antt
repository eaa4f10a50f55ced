use Rattle.std.proofs.Common.{◌≡◌, ◌++◌, List, ℕ, map, take}
use Rattle.branch_copies.proofs.names.names_in_copy.Given as goal

abbrev pub invariant-loop-name : goal.invariant-loop-name
invariant-loop-name l =
    l.copies ≡ map (λ (each : List ℕ). l.affix.prefix ++ each ++ l.affix.suffix) (take l.name-index l.names)
