-- Names that were seen (own): a set has the same names as a list of them.
use Rattle.std.specs.Prelude.{◌≡◌, ℕ, List, bytes_eq}
use Rattle.std.specs.List.{list_any}

abbrev pub AreSeen : List (List ℕ) → List (List ℕ) → Type 0
AreSeen names keys = (name : List ℕ) → list_any (bytes_eq name) names ≡ list_any (bytes_eq name) keys
