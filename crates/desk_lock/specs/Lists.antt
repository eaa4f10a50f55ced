-- Lists (own): facts of each item, what a list begins with, and lists with the same items. Two lists that weigh the
-- same however items are weighed have the same items, each as often, in some order.
use Rattle.std.specs.Prelude.{◌≡◌, ◌≢◌, ◌+◌, ℕ, zero, suc, List, [], ◌∷◌, ◌++◌, sum_by}

-- the fact holds of each item of the list
abbrev pub Each : {X : Type 0} → (X → Type 0) → List X → Type 0
Each Fact [] = Unit {0}
Each Fact (item ∷ items) = Fact item × Each Fact items

-- the number is none of these
abbrev pub IsNoneOf : List ℕ → ℕ → Type 0
IsNoneOf numbers number = Each (λ other. other ≢ number) numbers

-- the list begins with these
abbrev pub StartsWith : {X : Type 0} → List X → List X → Type 0
StartsWith {X} items first = (rest : List X) × (items ≡ first ++ rest)

-- the same items in some order, each as often
abbrev pub IsReordered : {X : Type 0} → List X → List X → Type 0
IsReordered {X} items others = (weight : X → ℕ) → sum_by weight items ≡ sum_by weight others

-- so many numbers from this one on
abbrev pub counted : ℕ → ℕ → List ℕ
counted from zero = []
counted from (suc count) = from ∷ counted (from + 1) count
