-- Which elements a DITAVAL excludes (DITA 1.3, "Conditional processing (profiling)", "Filtering based on metadata
-- attributes"). The names of the attributes that are conditional in every document, and that a grouped value counts as
-- absent, are our profile (own).
use Rattle.std.specs.Prelude.{◌==◌, ◌&&◌, ◌||◌, ℕ, Bool, true, false, not, List, [], ◌∷◌, Option, Some, None, length, find, is_some, codes, bytes_eq}
use Rattle.std.specs.List.{list_all, list_any}
use Rattle.dita_doc.specs.Bytes.{open_parenthesis}
use Rattle.dita_doc.specs.ClassValue.{words_of}
use Rattle.dita_doc.specs.declared.content.Action.{Action}
use Rattle.dita_doc.specs.declared.content.Action.TheVariants as actions
use Rattle.dita_doc.specs.declared.content.Rule.{Rule}
use Rattle.dita_doc.specs.declared.doc.Attribute.{Attribute}

abbrev pub conditional_names : List (List ℕ)
conditional_names =
    codes "audience" ∷ codes "platform" ∷ codes "product" ∷ codes "otherprops" ∷ codes "props"
    ∷ codes "deliveryTarget" ∷ []

abbrev pub is_conditional : List ℕ → Bool
is_conditional name = list_any (bytes_eq name) conditional_names

-- an element's conditional attributes are those of these names, and those whose names are declared for it
abbrev pub is_conditional_among : List (List ℕ) → List ℕ → Bool
is_conditional_among declared name = is_conditional name || list_any (bytes_eq name) declared

-- Which rule decides a token of an attribute

abbrev pub is_this_text : List ℕ → Option (List ℕ) → Bool
is_this_text text None = false
is_this_text text (Some own) = bytes_eq own text

abbrev pub is_for_token : List ℕ → List ℕ → Rule → Bool
is_for_token att token rule = is_this_text att rule.att && is_this_text token rule.val

abbrev pub is_for_attribute : List ℕ → Rule → Bool
is_for_attribute att rule = is_this_text att rule.att && not (is_some rule.val)

abbrev pub is_default : Rule → Bool
is_default rule = not (is_some rule.att)

abbrev pub or_else : Option Rule → Option Rule → Option Rule
or_else None other = other
or_else (Some rule) other = Some rule

-- that for the token wins over that for the attribute, and that over the default rule; of each kind the first counts
abbrev pub deciding : List Rule → List ℕ → List ℕ → Option Rule
deciding rules att token =
    or_else (find (is_for_token att token) rules)
    (or_else (find (is_for_attribute att) rules) (find is_default rules))

abbrev pub is_exclude : Action → Bool
is_exclude actions.Include = false
is_exclude actions.Exclude = true
is_exclude actions.Passthrough = false
is_exclude actions.Flag = false

-- what becomes of a token; with no rule it is included
abbrev pub decided : Option Rule → Action
decided None = actions.Include
decided (Some rule) = rule.action

-- with no rule a token is included
abbrev pub decides_exclude : Option Rule → Bool
decides_exclude None = false
decides_exclude (Some rule) = is_exclude rule.action

-- Which elements are excluded

abbrev pub is_open_parenthesis : ℕ → Bool
is_open_parenthesis b = b == open_parenthesis

-- a value of groups counts as absent
abbrev pub is_grouped : List ℕ → Bool
is_grouped value = list_any is_open_parenthesis value

abbrev pub is_some_token : List (List ℕ) → Bool
is_some_token tokens = not (length tokens == 0)

-- a conditional attribute that has a token excludes, if each of its tokens is excluded
abbrev pub excludes : List Rule → List (List ℕ) → Attribute → Bool
excludes rules declared attribute =
    is_conditional_among declared attribute.name && not (is_grouped attribute.value)
    && is_some_token (words_of attribute.value)
    && list_all (λ token. decides_exclude (deciding rules attribute.name token)) (words_of attribute.value)

-- an element for which these names are declared is excluded, if one of its attributes excludes
abbrev pub excluded : List Rule → List (List ℕ) → List Attribute → Bool
excluded rules declared attributes = list_any (excludes rules declared) attributes
