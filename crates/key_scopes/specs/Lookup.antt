-- Scopes in which nothing is found for what is left of a key (own): each with how many bytes are left.
use Rattle.std.specs.Prelude.{◌≡◌, ◌-◌, ℕ, true, List, None, drop, length}
use Rattle.std.specs.BTreeSet.{BTreeSet, contains}
use Rattle.std.specs.Ordering.{nat_cmp, ordering_then}
use Rattle.std.proofs.Common.{Ordering}
use Rattle.key_scopes.specs.Found.{own_of}
use Rattle.key_scopes.specs.Rising.{by_names}
use Rattle.key_scopes.specs.Table.{Table}

abbrev pub DeadEnd : Type 0
DeadEnd = ℕ × ℕ

abbrev pub dead_end_cmp : DeadEnd → DeadEnd → Ordering
dead_end_cmp one other = ordering_then (nat_cmp one.0 other.0) (nat_cmp one.1 other.1)

-- the key ends with this
abbrev pub EndsWith : List ℕ → List ℕ → Type 0
EndsWith key rest = drop (length key - length rest) key ≡ rest

-- nothing is found in these scopes for so many last bytes of the key
abbrev pub AreDeadEnds : Table → List ℕ → BTreeSet DeadEnd → Type 0
AreDeadEnds table key ends = (scope : ℕ) (rest : List ℕ) → EndsWith key rest
    → contains dead_end_cmp ends (scope, length rest) ≡ true → by_names table.scopes (own_of table) rest scope ≡ None

-- where nothing is found in this scope either, those that are known now are right for each key of which so many bytes are left
abbrev pub IsNoted : ℕ → ℕ → BTreeSet DeadEnd → BTreeSet DeadEnd → Type 0
IsNoted scope left old new = (table : Table) (key rest : List ℕ) → AreDeadEnds table key old → EndsWith key rest
    → length rest ≡ left → by_names table.scopes (own_of table) rest scope ≡ None → AreDeadEnds table key new
