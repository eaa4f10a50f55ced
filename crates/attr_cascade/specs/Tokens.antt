-- The tokens of all nodes (own): nodes with the same tokens share a list, and a node without tokens has none.
use Rattle.std.specs.Prelude.{◌≡◌, ◌<◌, ◌++◌, ℕ, Bool, not, List, [], ◌∷◌, Option, None, Some, length, map, slice_get, unwrap_or, codes, bytes_eq, if◌then◌else◌}
use Rattle.std.specs.List.{list_any}
use Rattle.std.specs.Borrow.{Bor}
use Rattle.std.specs.Option.{option_and_then, option_map_or}
use Rattle.dita_doc.specs.declared.plan.PlanNode.{PlanNode}
use Rattle.map_spec.specs.Cascade.{if_not_grouped, spaced, tokens_on, walk}
use Rattle.reader_spec.specs.World.{World}
use Rattle.attr_cascade.specs.declared.tokens.TokenList.{TokenList}
use Rattle.attr_cascade.specs.declared.tokens.TokenTable.{TokenTable}

abbrev pub Text : Type 0
Text = List ℕ

abbrev pub Texts : Type 0
Texts = List (List ℕ)

abbrev pub Nodes : Type 0
Nodes = List PlanNode

abbrev pub texts : List (Bor (List ℕ)) → List (List ℕ)
texts tokens = map (λ (token : Bor (List ℕ)). token.now) tokens

abbrev pub tokens_in : TokenList → List (List ℕ)
tokens_in list = texts list.tokens.items

abbrev pub tokens_of : Option TokenList → List (List ℕ)
tokens_of list = option_map_or tokens_in list []

-- texts with the set of them
pub record AreTexts (tokens keys : List (Bor (List ℕ))) (all : List (List ℕ)) : Type 0 where
  pub are : texts tokens ≡ all
  pub set : (text : List ℕ) → list_any (bytes_eq text) (texts keys) ≡ list_any (bytes_eq text) all

-- one more, unless it is there
abbrev pub with_one : List (List ℕ) → List ℕ → List (List ℕ)
with_one tokens own = if list_any (bytes_eq own) tokens then tokens else tokens ++ own ∷ []

-- tokens as a value, if there are some
abbrev pub value_of : List (List ℕ) → Option (List ℕ)
value_of [] = None
value_of (token ∷ tokens) = Some (spaced (token ∷ tokens))

-- the list at a place has these tokens; without a place there are none
pub record IsListOf (list : TokenList) (tokens : List (List ℕ)) : Type 0 where
  pub are : tokens_in list ≡ tokens
  pub value : Some list.value ≡ value_of tokens

abbrev pub IsTokens : List TokenList → Option ℕ → List (List ℕ) → Type 0
IsTokens lists None tokens = tokens ≡ []
IsTokens lists (Some at) tokens = (list : TokenList) × (slice_get lists at ≡ Some list) × IsListOf list tokens

-- a node's own tokens, by its value; and whether they stand beside those above it, by the value of `cascade`
abbrev pub own_tokens : Option (List ℕ) → Option (List (List ℕ))
own_tokens value = option_and_then if_not_grouped value

abbrev pub value_merges : Option (List ℕ) → Bool
value_merges value = not (bytes_eq (unwrap_or value (codes "merge")) (codes "nomerge"))

abbrev pub Longer : List TokenList → List TokenList → Type 0
Longer old new = (more : List TokenList) × (new ≡ old ++ more)

pub record IsPlaceOf (old new : List TokenList) (place : Option ℕ) (tokens : List (List ℕ)) : Type 0 where
  pub longer : Longer old new
  pub is : IsTokens new place tokens

abbrev pub tokens_at : World → List ℕ → List PlanNode → ℕ → List (List ℕ)
tokens_at world name nodes at = tokens_on world name (walk nodes at)

abbrev pub place_at : List (Option ℕ) → ℕ → Option ℕ
place_at places at = option_and_then (λ (place : Option ℕ). place) (slice_get places at)

-- for so many nodes
pub record AreTokens (world : World) (name : List ℕ) (nodes : List PlanNode) (lists : List TokenList)
    (places : List (Option ℕ)) (count : ℕ) : Type 0 where
  pub many : length places ≡ count
  pub each : (at : ℕ) → at < count → IsTokens lists (place_at places at) (tokens_at world name nodes at)

pub record IsTableOf (world : World) (nodes : List PlanNode) (name : List ℕ) (table : TokenTable) : Type 0 where
  pub name_is : table.name.now ≡ name
  pub tokens : AreTokens world name nodes table.lists.items table.places.items (length nodes)

abbrev pub AreTables : World → List PlanNode → List (List ℕ) → List TokenTable → Type 0
AreTables world nodes [] [] = Unit {0}
AreTables world nodes [] (table ∷ tables) = ⊥
AreTables world nodes (name ∷ names) [] = ⊥
AreTables world nodes (name ∷ names) (table ∷ tables) =
    IsTableOf world nodes name table × AreTables world nodes names tables
