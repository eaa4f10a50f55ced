-- The rules of a DITAVAL (DITA 1.3, "DITAVAL elements": "val" and "prop"). What is dropped, and its faults, are our
-- own.
use Rattle.std.specs.Prelude.{◌&&◌, ℕ, Bool, true, false, not, List, [], ◌∷◌, ◌++◌, Option, Some, None, Result, Ok, Err, filter, if◌then◌else◌, codes, bytes_eq}
use Rattle.std.specs.List.{filter_map, list_any}
use Rattle.std.specs.Option.{option_to_list}
use Rattle.dita_doc.specs.ClassValue.{value_of}
use Rattle.dita_doc.specs.Tree.{Content, End, Chars, Element}
use Rattle.dita_doc.specs.declared.content.Action.{Action}
use Rattle.dita_doc.specs.declared.content.Action.TheVariants as actions
use Rattle.dita_doc.specs.declared.content.Rule.{Rule}
use Rattle.dita_doc.specs.declared.doc.Attribute.{Attribute}
use Rattle.dita_doc.specs.declared.fault.Fault.{Fault}
use Rattle.dita_doc.specs.declared.fault.FaultCode.{FaultCode}
use Rattle.dita_doc.specs.declared.fault.FaultCode.TheVariants as faults
use Rattle.ditaval_rules.specs.declared.rules.NotDitaval.{NotDitaval}
use Rattle.ditaval_rules.specs.declared.rules.RulesRead.{RulesRead}

-- a `prop` of a DITAVAL: its attributes, and the line of its start
pub record Prop : Type 0 where
  pub attributes : List Attribute
  pub line : ℕ

-- the `prop`s among some elements, in order; all else is passed over
abbrev pub props_among : Content → List Prop
props_among End = []
props_among (Chars text origin line rest) = props_among rest
props_among (Element name attributes origin line inside rest) =
    if bytes_eq name (codes "prop") then record { attributes = attributes; line = line } ∷ props_among rest
    else props_among rest

-- those of a document whose root is `val`
abbrev pub props_of : Content → Option (List Prop)
props_of End = None
props_of (Chars text origin line rest) = None
props_of (Element name attributes origin line inside rest) =
    if bytes_eq name (codes "val") then Some (props_among inside) else None

-- Rules

abbrev pub action_of : List ℕ → Option Action
action_of value =
    if bytes_eq value (codes "include") then Some actions.Include
    else if bytes_eq value (codes "exclude") then Some actions.Exclude
    else if bytes_eq value (codes "passthrough") then Some actions.Passthrough
    else if bytes_eq value (codes "flag") then Some actions.Flag
    else None

-- a `prop` without `att` is the default rule, whatever its `val`
abbrev pub val_beside : Option (List ℕ) → List Attribute → Option (List ℕ)
val_beside None attributes = None
val_beside (Some att) attributes = value_of (codes "val") attributes

abbrev pub rule_with : List Attribute → Action → Rule
rule_with attributes action =
    let att = value_of (codes "att") attributes in
    record { att = att; val = val_beside att attributes; action = action }

abbrev pub rule_by : List Attribute → Option Action → Option Rule
rule_by attributes None = None
rule_by attributes (Some action) = Some (rule_with attributes action)

abbrev pub action_named : Option (List ℕ) → Option Action
action_named None = None
action_named (Some value) = action_of value

-- the rule of a `prop`, if it has an action that is one
abbrev pub rule_of : Prop → Option Rule
rule_of prop = rule_by prop.attributes (action_named (value_of (codes "action") prop.attributes))

-- two rules for the same: the same token of the same attribute, the same whole attribute, or two default rules
abbrev pub is_same_text : Option (List ℕ) → Option (List ℕ) → Bool
is_same_text None None = true
is_same_text None (Some other) = false
is_same_text (Some text) None = false
is_same_text (Some text) (Some other) = bytes_eq text other

abbrev pub are_for_same : Rule → Rule → Bool
are_for_same rule other = is_same_text rule.att other.att && is_same_text rule.val other.val

-- of rules for the same the first counts
abbrev pub first_of_each : List Rule → List Rule
first_of_each [] = []
first_of_each (rule ∷ rules) = rule ∷ filter (λ other. not (are_for_same rule other)) (first_of_each rules)

-- Faults

abbrev pub or_empty : Option (List ℕ) → List ℕ
or_empty None = []
or_empty (Some text) = text

abbrev pub prop_fault : List ℕ → ℕ → FaultCode → Option (List ℕ) → Fault
prop_fault name line code detail = record { name = name; line = line; code = code; detail = or_empty detail }

-- what is wrong with a `prop` behind others that have these rules: its action is none, or one of them is for the same
abbrev pub fault_behind : List ℕ → List Rule → Prop → Option Rule → Option Fault
fault_behind name before prop None =
    Some (prop_fault name prop.line faults.BadAction (value_of (codes "action") prop.attributes))
fault_behind name before prop (Some rule) =
    if list_any (are_for_same rule) before then Some (prop_fault name prop.line faults.DitavalTwice rule.att) else None

abbrev pub faults_behind : List ℕ → List Rule → List Prop → List Fault
faults_behind name before [] = []
faults_behind name before (prop ∷ props) =
    option_to_list (fault_behind name before prop (rule_of prop))
    ++ faults_behind name (before ++ option_to_list (rule_of prop)) props

-- The whole

abbrev pub rules_with : List ℕ → Option (List Prop) → Result RulesRead NotDitaval
rules_with name None = Err (record {})
rules_with name (Some props) =
    Ok (record { rules = first_of_each (filter_map rule_of props); faults = faults_behind name [] props })

-- the rules of the document of this name and their faults, or that it is no DITAVAL
abbrev pub rules_in : List ℕ → Content → Result RulesRead NotDitaval
rules_in name tree = rules_with name (props_of tree)
