-- Rules of which none flags give no mark.
use Rattle.std.specs.Prelude.{◌≡◌, ◌+◌, ◌++◌, ℕ, Bool, true, false, List, [], ◌∷◌, Option, None, Some, find, map, if◌then◌else◌}
use Rattle.std.specs.List.{flat_map, list_any}
use Rattle.std.specs.Option.{option_map_or}
use Rattle.std.proofs.Common.{refl, ap}
use Rattle.std.proofs.lemmas.Bool.{or_parts}
use Rattle.dita_doc.specs.ClassValue.{value_of, words_of}
use Rattle.dita_doc.specs.declared.content.Rule.{Rule}
use Rattle.dita_doc.specs.declared.doc.Attribute.{Attribute}
use Rattle.dita_doc.proofs.Lists.{filter_none}
use Rattle.ditaval_rules.specs.Verdict.{conditional_names, decided, is_default, is_for_attribute, is_for_token, is_grouped, or_else}
use Rattle.flag_marks.specs.Marks.{rule_flags, have_flag, is_flag, is_flagging, mark_text, marks_by, marks_from, marks_of_attribute, marks_of_tokens, marks_of_value}

flat_none : {X Y : Type 0} (f : X → List Y) → ((x : X) → f x ≡ []) → (xs : List X) → flat_map f xs ≡ []
flat_none f none [] = refl
flat_none f none (x ∷ xs) = rw (none x) (flat_none f none xs)

-- what decides among rules of which none flags does not flag

found_none : (p : Rule → Bool) (rules : List Rule) → have_flag rules ≡ false → is_flag (decided (find p rules)) ≡ false
found_none p [] none = refl
found_none p (rule ∷ rules) none =
    let each = or_parts (is_flagging rule) (have_flag rules) none in
    by_test (p rule) each.0 (found_none p rules each.1)
  where
    by_test : (test : Bool) → is_flagging rule ≡ false → is_flag (decided (find p rules)) ≡ false
        → is_flag (decided (if test then Some rule else find p rules)) ≡ false
    by_test true first more = first
    by_test false first more = more

or_none : (one other : Option Rule) → is_flag (decided one) ≡ false → is_flag (decided other) ≡ false
    → is_flag (decided (or_else one other)) ≡ false
or_none None other first second = second
or_none (Some one) other first second = first

flags_none : (rules : List Rule) → have_flag rules ≡ false → (att token : List ℕ) → rule_flags rules att token ≡ false
flags_none rules none att token =
    or_none (find (is_for_token att token) rules) _ (found_none (is_for_token att token) rules none)
    (or_none (find (is_for_attribute att) rules) (find is_default rules) (found_none (is_for_attribute att) rules none)
    (found_none is_default rules none))

-- so there is no mark

value_none : (rules : List Rule) → have_flag rules ≡ false → (att value : List ℕ) → marks_of_value rules att value ≡ []
value_none rules none att value = by_test (is_grouped value)
  where
    by_test : (grouped : Bool) → (if grouped then [] else marks_of_tokens rules att (words_of value)) ≡ []
    by_test true = refl
    by_test false =
        ap (map (mark_text att)) (filter_none (rule_flags rules att) (flags_none rules none att) (words_of value))

attribute_none : (rules : List Rule) → have_flag rules ≡ false → (attributes : List Attribute) (att : List ℕ)
    → marks_of_attribute rules attributes att ≡ []
attribute_none rules none attributes att = by_value (value_of att attributes)
  where
    by_value : (value : Option (List ℕ)) → option_map_or (marks_of_value rules att) value [] ≡ []
    by_value None = refl
    by_value (Some value) = value_none rules none att value

lists_none : (all : List (List Rule)) → list_any have_flag all ≡ false → (declared : List (List ℕ))
    (attributes : List Attribute) → flat_map (marks_by declared attributes) all ≡ []
lists_none [] none declared attributes = refl
lists_none (rules ∷ all) none declared attributes =
    let each = or_parts (have_flag rules) (list_any have_flag all) none in
    rw (flat_none (marks_of_attribute rules attributes) (attribute_none rules each.0 attributes)
    (conditional_names ++ declared))
    (lists_none all each.1 declared attributes)

pub none_from : (all : List (List Rule)) → list_any have_flag all ≡ false → (place : ℕ)
    (names : List (List (List ℕ))) (nodes : List (Option (List Attribute))) → marks_from all place names nodes ≡ []
none_from all none place names [] = refl
none_from all none place [] (first ∷ nodes) = refl
none_from all none place (declared ∷ names) (None ∷ nodes) = none_from all none (place + 1) names nodes
none_from all none place (declared ∷ names) (Some attributes ∷ nodes) =
    rw (lists_none all none declared attributes) (none_from all none (place + 1) names nodes)
