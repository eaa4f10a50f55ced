-- The branches of chains (own): each chain by its place, none beyond the end.
use Rattle.std.specs.Prelude.{ℕ, List, [], map, slice_get, Vec}
use Rattle.std.specs.Option.{option_map_or}
use Rattle.std.specs.declared.alloc.Global.{Global}

abbrev pub shown : List (Vec ℕ Global) → List (List ℕ)
shown chains = map (λ (chain : Vec ℕ Global). chain.items) chains

abbrev pub chain_at : List (Vec ℕ Global) → ℕ → List ℕ
chain_at chains at = option_map_or (λ (chain : Vec ℕ Global). chain.items) (slice_get chains at) []
