-- What one more `prop` adds to what was read of those before it (own).
use Rattle.std.specs.Prelude.{◌≡◌, ℕ, List, [], ◌∷◌, ◌++◌, Option, Some, None, if◌then◌else◌}
use Rattle.std.specs.List.{list_any}
use Rattle.std.specs.Option.{option_to_list}
use Rattle.dita_doc.specs.declared.content.Rule.{Rule}
use Rattle.dita_doc.specs.declared.doc.Node.{Node}
use Rattle.ditaval_rules.specs.Rules.{Prop, rule_of, are_for_same, fault_behind}
use Rattle.ditaval_rules.specs.Subject.{IsSubjectsOf}
use Rattle.ditaval_rules.specs.declared.reading.Reading.{Reading}

abbrev pub prop_of : Node → Prop
prop_of node = record { attributes = node.attributes; line = node.line }

-- the rule, unless one of those before it is for the same
abbrev pub new_behind : List Rule → Option Rule → List Rule
new_behind before None = []
new_behind before (Some rule) = if list_any (are_for_same rule) before then [] else rule ∷ []

pub record HasRead (name : List ℕ) (prop : Prop) (old new : Reading) : Type 0 where
  pub rules : new.rules ≡ old.rules ++ new_behind old.rules (rule_of prop)
  pub faults : new.faults ≡ old.faults ++ option_to_list (fault_behind name old.rules prop (rule_of prop))
  pub seen : IsSubjectsOf new.seen new.rules
