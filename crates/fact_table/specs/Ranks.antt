-- The rank of each key's newest row, kept in a map (own). A key without an entry has the rank 0, which is no row's.
use Rattle.std.specs.Prelude.{◌≡◌, ℕ, Option, Some, None, IsSome}
use Rattle.std.specs.BTreeMap as tree
use Rattle.dita_doc.specs.declared.fact.FactKey.{FactKey}
use Rattle.fact_table.specs.Order.{order}

abbrev pub Ranks : Type 0
Ranks = tree.BTreeMap FactKey ℕ

abbrev pub or_zero : Option ℕ → ℕ
or_zero None = 0
or_zero (Some rank) = rank

abbrev pub rank_in : Ranks → FactKey → ℕ
rank_in ranks key = or_zero (tree.get order ranks key)

-- the key has an entry
abbrev pub IsKnown : Ranks → FactKey → Type 0
IsKnown ranks key = IsSome (tree.get order ranks key)

-- no rank is another, and no entry is lost
pub record AreSame (old new : Ranks) : Type 0 where
  pub rank : (key : FactKey) → rank_in new key ≡ rank_in old key
  pub known : (key : FactKey) → IsKnown old key → IsKnown new key

-- this key has this rank, and each other key has its own
pub record IsRenewed (key : FactKey) (rank : ℕ) (old new : Ranks) : Type 0 where
  pub here : rank_in new key ≡ rank
  pub others : (other : FactKey) → (other ≡ key → ⊥) → rank_in new other ≡ rank_in old other
  pub known : (other : FactKey) → (other ≡ key → ⊥) → IsKnown old other → IsKnown new other
