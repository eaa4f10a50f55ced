-- The texts of affixes, by which pages are put in an order (own).
use Rattle.std.specs.Prelude.{ℕ, List, [], ◌∷◌}
use Rattle.std.specs.List.{flat_map}
use Rattle.dita_doc.specs.declared.plan.Affix.{Affix}

-- prefixes and suffixes in turn
abbrev pub texts_of : List Affix → List (List ℕ)
texts_of affixes = flat_map (λ (affix : Affix). affix.prefix ∷ affix.suffix ∷ []) affixes
