-- The elements of nodes (own): for each node in order its element, if it has one, by the node's place.
use Rattle.std.specs.Prelude.{ℕ, List, [], Option, option_map, slice_get}
use Rattle.std.specs.Option.{option_and_then, option_map_or}
use Rattle.std.specs.Borrow.{Bor}
use Rattle.dita_doc.specs.declared.doc.Node as doc
use Rattle.map_spec.specs.Elements.{attribute}
use Rattle.map_spec.specs.Written.{Element, Whole}
use Rattle.doc_elements.specs.Walk.{element_of}

-- the element at a place, and what it holds; none beyond the end
abbrev pub whole_at : List (Option Whole) → ℕ → Option Whole
whole_at homes at = option_and_then (λ (whole : Option Whole). whole) (slice_get homes at)

abbrev pub element_among : List (Option Whole) → ℕ → Option Element
element_among homes at = option_map (λ (whole : Whole). whole.0) (whole_at homes at)

-- the document in which it was written
abbrev pub doc_of : List (Option Whole) → ℕ → List ℕ
doc_of homes at = option_map_or (λ (whole : Whole). whole.0.doc) (whole_at homes at) []

abbrev pub value_at : List (Option Whole) → ℕ → List ℕ → Option (List ℕ)
value_at homes at name = option_and_then (λ (whole : Whole). attribute name whole.0) (whole_at homes at)

-- an element that was found, if its document stands under a name
abbrev pub found_in : List ℕ → Option (Bor doc.Node) → Option Element
found_in name found = option_map (λ (node : Bor doc.Node). element_of name node.now) found
