-- The values that are passed down a map of UTF-8 are UTF-8.
use Rattle.std.specs.Prelude.{◌+◌, ◌||◌, ℕ, Bool, true, false, List, [], ◌∷◌, ◌++◌, Option, Some, None, IfSome, map, slice_get, bytes_eq, codes, if◌then◌else◌}
use Rattle.std.specs.List.{AllByRecursion, filter_map, list_any}
use Rattle.std.specs.Str.{IsUtf8}
use Rattle.std.proofs.Common.{refl, arith}
use Rattle.std.proofs.lemmas.Str.{IsUtf8-append, IsUtf8-nil}
use Rattle.dita_doc.specs.ClassValue.{words_of}
use Rattle.dita_doc.specs.declared.doc.Attribute.{Attribute}
use Rattle.dita_doc.specs.declared.plan.PlanNode.{PlanNode}
use Rattle.dita_doc.proofs.Utf8Laws.{utf8_cons}
use Rattle.ditaval_rules.specs.Verdict.{conditional_names, is_grouped}
use Rattle.reader_spec.specs.World.{World}
use Rattle.map_spec.specs.Cascade.{attribute_at, cascaded, cascaded_from, cascaded_on, cascaded_value, default_of, if_not_grouped, is_in_table, merged_tokens, merges, named_tokens, nearest, nearest_names, own_tokens, passed, places_up, spaced, stays_behind, stops_at, tokens_on, walk, with_new}
use Rattle.map_spec.specs.Scopes.{scoped_from}
use Rattle.html_laws.specs.Utf8.{HasUtf8Value, IsUtf8Node, IsUtf8World}
use Rattle.html_laws.proofs.ContentUtf8Laws.{utf8_attribute_at}
use Rattle.html_laws.proofs.DomainUtf8Laws.{utf8_words}
use Rattle.html_laws.proofs.EachLaws.{chosen, of_and_then, of_any, of_both, of_either, of_filter_map, of_mapped, of_option, of_place}
use Rattle.html_laws.proofs.KeyUtf8Laws.{HasUtf8Doc}
use Rattle.html_laws.proofs.TextUtf8Laws.{IsUtf8If, utf8_codes}
use Rattle.html_laws.proofs.TreeUtf8Laws.{IsUtf8Affix, IsUtf8Made}

-- Tokens

utf8_with_new : (tokens own : List (List ℕ)) → AllByRecursion IsUtf8 tokens → AllByRecursion IsUtf8 own
    → AllByRecursion IsUtf8 (with_new tokens own)
utf8_with_new tokens [] first second = first
utf8_with_new tokens (own ∷ others) first second =
    utf8_with_new (if list_any (bytes_eq own) tokens then tokens else tokens ++ own ∷ []) others
    (chosen (AllByRecursion IsUtf8) (list_any (bytes_eq own) tokens) tokens (tokens ++ own ∷ []) first
    (of_both IsUtf8 tokens (own ∷ []) first (second.0, tt))) second.1

abbrev AreUtf8Tokens : Option (List (List ℕ)) → Type 0
AreUtf8Tokens tokens = IfSome tokens (AllByRecursion IsUtf8)

utf8_merged : (merges : Bool) (own : Option (List (List ℕ))) (tokens : List (List ℕ)) → AreUtf8Tokens own
    → AllByRecursion IsUtf8 tokens → AllByRecursion IsUtf8 (merged_tokens merges own tokens)
utf8_merged merges None tokens first second = second
utf8_merged true (Some own) tokens first second = utf8_with_new tokens own second first
utf8_merged false (Some own) tokens first second = first

utf8_spaced : (texts : List (List ℕ)) → AllByRecursion IsUtf8 texts → IsUtf8 (spaced texts)
utf8_spaced [] all = IsUtf8-nil
utf8_spaced (text ∷ []) all = all.0
utf8_spaced (text ∷ next ∷ texts) all = IsUtf8-append text (32 ∷ spaced (next ∷ texts)) all.0
    (utf8_cons 32 (spaced (next ∷ texts)) (omega arith) (utf8_spaced (next ∷ texts) all.1))

utf8_named_tokens : (name : List ℕ) (tokens : List (List ℕ)) → AllByRecursion IsUtf8 tokens
    → IfSome (named_tokens name tokens) HasUtf8Value
utf8_named_tokens name [] all = tt
utf8_named_tokens name (token ∷ tokens) all = utf8_spaced (token ∷ tokens) all

-- Values

utf8_default : (name : List ℕ) (nodes : List PlanNode) → IsUtf8 (default_of name nodes)
utf8_default name nodes =
    chosen IsUtf8 (bytes_eq name (codes "toc")) (if is_in_table nodes then codes "no" else codes "yes") _
    (chosen IsUtf8 (is_in_table nodes) (codes "no") (codes "yes") (utf8_codes (codes "no") refl)
    (utf8_codes (codes "yes") refl))
    (chosen IsUtf8 (bytes_eq name (codes "format")) (codes "dita") _ (utf8_codes (codes "dita") refl)
    (chosen IsUtf8 (bytes_eq name (codes "scope")) (codes "local") _ (utf8_codes (codes "local") refl)
    (chosen IsUtf8 (bytes_eq name (codes "cascade")) (codes "merge") (codes "normal") (utf8_codes (codes "merge") refl)
    (utf8_codes (codes "normal") refl))))

-- a node with its affixes and the values that are passed down to it
abbrev pub IsUtf8Planned : PlanNode → Type 0
IsUtf8Planned node =
    IsUtf8 node.doc × AllByRecursion IsUtf8Affix node.affixes × AllByRecursion HasUtf8Value node.cascaded

module _ (world : World) (all : IsUtf8World world) where
  utf8_nearest : (name : List ℕ) (nodes : List PlanNode) → AllByRecursion HasUtf8Doc nodes
      → IfSome (nearest world name nodes) IsUtf8
  utf8_nearest name [] docs = tt
  utf8_nearest name (node ∷ around) docs =
      let above = nearest world name around in
      of_either IsUtf8 (attribute_at world name node) (passed name node around above)
      (utf8_attribute_at world name node all docs.0)
      (chosen IsUtf8If (stops_at name node around || stays_behind name above) None above tt
      (utf8_nearest name around docs.1))

  utf8_cascaded_value : (name : List ℕ) (nodes : List PlanNode) → AllByRecursion HasUtf8Doc nodes
      → IsUtf8 (cascaded_value world name nodes)
  utf8_cascaded_value name nodes docs =
      of_option IsUtf8 (nearest world name nodes) (default_of name nodes) (utf8_nearest name nodes docs)
      (utf8_default name nodes)

  utf8_own_tokens : (name : List ℕ) (node : PlanNode) → IsUtf8 node.doc → AreUtf8Tokens (own_tokens world name node)
  utf8_own_tokens name node named =
      of_and_then IsUtf8 (AllByRecursion IsUtf8) if_not_grouped (attribute_at world name node)
      (λ value is. chosen AreUtf8Tokens (is_grouped value) None (Some (words_of value)) tt (utf8_words value is))
      (utf8_attribute_at world name node all named)

  utf8_tokens_on : (name : List ℕ) (nodes : List PlanNode) → AllByRecursion HasUtf8Doc nodes
      → AllByRecursion IsUtf8 (tokens_on world name nodes)
  utf8_tokens_on name [] docs = tt
  utf8_tokens_on name (node ∷ around) docs =
      utf8_merged (merges world (node ∷ around)) (own_tokens world name node) (tokens_on world name around)
      (utf8_own_tokens name node docs.0) (utf8_tokens_on name around docs.1)

  utf8_cascaded_on : (nodes : List PlanNode) → AllByRecursion HasUtf8Doc nodes
      → AllByRecursion HasUtf8Value (cascaded_on world nodes)
  utf8_cascaded_on nodes docs =
      let any : List ℕ → Type 0 = λ name. Unit {0} in
      let value_of = λ (name : List ℕ).
      let made : Attribute = record { name = name; value = cascaded_value world name nodes } in made in
      let tokens_of = λ (name : List ℕ). named_tokens name (tokens_on world name nodes) in
      of_both HasUtf8Value (map value_of nearest_names) (filter_map tokens_of conditional_names)
      (of_mapped any HasUtf8Value value_of nearest_names (λ name is. utf8_cascaded_value name nodes docs)
      (of_any any nearest_names (λ name. tt)))
      (of_filter_map any HasUtf8Value tokens_of conditional_names
      (λ name is. utf8_named_tokens name (tokens_on world name nodes) (utf8_tokens_on name nodes docs))
      (of_any any conditional_names (λ name. tt)))

  -- Nodes with their values

  utf8_walk : (nodes : List PlanNode) (at : ℕ) → AllByRecursion HasUtf8Doc nodes
      → AllByRecursion HasUtf8Doc (walk nodes at)
  utf8_walk nodes at docs =
      let any : ℕ → Type 0 = λ place. Unit {0} in
      of_filter_map any HasUtf8Doc (slice_get nodes) (places_up nodes at)
      (λ place is. of_place HasUtf8Doc nodes place docs) (of_any any (places_up nodes at) (λ place. tt))

  utf8_docs : (nodes : List PlanNode) → AllByRecursion IsUtf8Made nodes → AllByRecursion HasUtf8Doc nodes
  utf8_docs [] is = tt
  utf8_docs (node ∷ nodes) is = (is.0.0, utf8_docs nodes is.1)

  utf8_cascaded_from : (nodes : List PlanNode) (at : ℕ) (more : List PlanNode) → AllByRecursion HasUtf8Doc nodes
      → AllByRecursion IsUtf8Made more → AllByRecursion IsUtf8Planned (cascaded_from world nodes at more)
  utf8_cascaded_from nodes at [] docs is = tt
  utf8_cascaded_from nodes at (node ∷ more) docs is = (
    (is.0.0, is.0.1, utf8_cascaded_on (walk nodes at) (utf8_walk nodes at docs)),
    utf8_cascaded_from nodes (at + 1) more docs is.1,
  )

  pub utf8_cascaded : (nodes : List PlanNode) → AllByRecursion IsUtf8Made nodes
      → AllByRecursion IsUtf8Planned (cascaded world nodes)
  utf8_cascaded nodes is = utf8_cascaded_from nodes 0 nodes (utf8_docs nodes is) is

-- and with its scope
pub utf8_scoped_from : (nodes : List PlanNode) (at : ℕ) (more : List PlanNode) → AllByRecursion IsUtf8Planned more
    → AllByRecursion IsUtf8Node (scoped_from nodes at more)
utf8_scoped_from nodes at [] is = tt
utf8_scoped_from nodes at (node ∷ more) is = ((is.0.0, is.0.2), utf8_scoped_from nodes (at + 1) more is.1)
