-- The flags of elements (DITA 1.3, "Conditional processing (profiling)", "Flagging"): rules with the action flag mark
-- the elements that they decide. The form of a mark is our own.
use Rattle.std.specs.Prelude.{◌+◌, ℕ, Bool, true, false, List, [], ◌∷◌, ◌++◌, Option, Some, None, filter, map, codes, if◌then◌else◌}
use Rattle.std.specs.List.{flat_map, list_any}
use Rattle.std.specs.Option.{option_map_or}
use Rattle.dita_doc.specs.ClassValue.{value_of, words_of}
use Rattle.dita_doc.specs.declared.content.Action.{Action}
use Rattle.dita_doc.specs.declared.content.Action.TheVariants as actions
use Rattle.dita_doc.specs.declared.content.Mark.{Mark}
use Rattle.dita_doc.specs.declared.content.Rule.{Rule}
use Rattle.dita_doc.specs.declared.doc.Attribute.{Attribute}
use Rattle.dita_doc.specs.declared.doc.Node.{Node}
use Rattle.dita_doc.specs.declared.doc.NodeKind.{NodeKind}
use Rattle.dita_doc.specs.declared.doc.NodeKind.TheVariants as kinds
use Rattle.ditaval_rules.specs.Domains.{first_of_each}
use Rattle.ditaval_rules.specs.Verdict.{conditional_names, decided, deciding, is_grouped}

abbrev pub is_flag : Action → Bool
is_flag actions.Include = false
is_flag actions.Exclude = false
is_flag actions.Passthrough = false
is_flag actions.Flag = true

-- some of the rules flag
abbrev pub is_flagging : Rule → Bool
is_flagging rule = is_flag rule.action

abbrev pub have_flag : List Rule → Bool
have_flag rules = list_any is_flagging rules

-- the rules flag a token of an attribute
abbrev pub rule_flags : List Rule → List ℕ → List ℕ → Bool
rule_flags rules att token = is_flag (decided (deciding rules att token))

abbrev pub mark_text : List ℕ → List ℕ → List ℕ
mark_text att token = codes "flag-" ++ att ++ codes "-" ++ token

abbrev pub marks_of_tokens : List Rule → List ℕ → List (List ℕ) → List (List ℕ)
marks_of_tokens rules att tokens = map (mark_text att) (filter (rule_flags rules att) tokens)

-- a value of groups gives none
abbrev pub marks_of_value : List Rule → List ℕ → List ℕ → List (List ℕ)
marks_of_value rules att value = if is_grouped value then [] else marks_of_tokens rules att (words_of value)

abbrev pub marks_of_attribute : List Rule → List Attribute → List ℕ → List (List ℕ)
marks_of_attribute rules attributes att = option_map_or (marks_of_value rules att) (value_of att attributes) []

-- by one list of rules: each conditional attribute in order, those that are declared last
abbrev pub marks_by : List (List ℕ) → List Attribute → List Rule → List (List ℕ)
marks_by declared attributes rules = flat_map (marks_of_attribute rules attributes) (conditional_names ++ declared)

-- the marks of an element of these attributes, for which these names are declared, by each list of rules in order, each
-- once
abbrev pub marks_of_element : List (List Rule) → List (List ℕ) → List Attribute → List (List ℕ)
marks_of_element all declared attributes = first_of_each (flat_map (marks_by declared attributes) all)

abbrev pub at_place : ℕ → List ℕ → Mark
at_place place text = record { place = place; text = text }

-- the marks of the node at this place: an element has attributes
abbrev pub marks_of_node : List (List Rule) → ℕ → List (List ℕ) → Option (List Attribute) → List Mark
marks_of_node all place declared None = []
marks_of_node all place declared (Some attributes) = map (at_place place) (marks_of_element all declared attributes)

-- the marks of nodes, of which the first stands at this place; each has a list of declared names, and an element its
-- attributes
abbrev pub marks_from : List (List Rule) → ℕ → List (List (List ℕ)) → List (Option (List Attribute)) → List Mark
marks_from all place names [] = []
marks_from all place [] (first ∷ nodes) = []
marks_from all place (declared ∷ names) (node ∷ nodes) =
    marks_of_node all place declared node ++ marks_from all (place + 1) names nodes

-- the attributes of the nodes of a document, of those that are elements
abbrev pub attributes_of_kind : NodeKind → List Attribute → Option (List Attribute)
attributes_of_kind kinds.Chars attributes = None
attributes_of_kind kinds.Element attributes = Some attributes

abbrev pub attributes_at : Node → Option (List Attribute)
attributes_at node = attributes_of_kind node.kind node.attributes
