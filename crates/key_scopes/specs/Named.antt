-- The names that a node has written (own): each once, the good ones and the bad ones apart.
use Rattle.std.specs.Prelude.{◌≡◌, ℕ, List, bytes_eq, map}
use Rattle.std.specs.Borrow.{Bor}
use Rattle.std.specs.List.{list_any}
use Rattle.key_scopes.specs.declared.names.Names.{Names}
use Rattle.map_spec.specs.Scopes.{bad_names, good_names}

abbrev pub Texts : Type 0
Texts = List (List ℕ)

abbrev pub texts : List (Bor (List ℕ)) → List (List ℕ)
texts all = map (λ (text : Bor (List ℕ)). text.now) all

pub record AreNames (written : List (List ℕ)) (names : Names) : Type 0 where
  pub good : texts names.good.items ≡ good_names written
  pub bad : texts names.bad.items ≡ bad_names written
  pub known : (name : List ℕ) → list_any (bytes_eq name) (texts names.known.keys) ≡ list_any (bytes_eq name) written
