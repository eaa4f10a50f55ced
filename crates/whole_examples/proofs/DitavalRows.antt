-- DITAVALs whose rules and verdicts are known by hand.
use Rattle.std.specs.Prelude.{◌≡◌, true, false, ℕ, List, [], ◌∷◌, Option, Some, None, Ok, Err, refl, codes}
use Rattle.dita_doc.specs.Tree.{Content, End, Element}
use Rattle.dita_doc.specs.declared.content.Action.{Action}
use Rattle.dita_doc.specs.declared.content.Action.TheVariants as actions
use Rattle.dita_doc.specs.declared.content.Rule.{Rule}
use Rattle.dita_doc.specs.declared.doc.Attribute.{Attribute}
use Rattle.dita_doc.specs.declared.fault.FaultCode.TheVariants as faults
use Rattle.ditaval_rules.specs.Rules.{rules_in}
use Rattle.ditaval_rules.specs.Verdict.{excluded}

abbrev given : List ℕ → List ℕ → Attribute
given name value = record { name = name; value = value }

abbrev rule : Option (List ℕ) → Option (List ℕ) → Action → Rule
rule att val action = record { att = att; val = val; action = action }

-- Verdicts

abbrev no_x : List Rule
no_x = rule (Some (codes "audience")) (Some (codes "x")) actions.Exclude ∷ []

one_token : excluded no_x [] (given (codes "audience") (codes "x") ∷ given (codes "platform") (codes "z") ∷ []) ≡ true
one_token = refl

two_tokens : excluded no_x [] (given (codes "audience") (codes "x y") ∷ []) ≡ false
two_tokens = refl

no_tokens : excluded no_x [] (given (codes "audience") (codes " ") ∷ []) ≡ false
no_tokens = refl

groups : excluded no_x [] (given (codes "audience") (codes "x a(x)") ∷ []) ≡ false
groups = refl

other_attribute : excluded (rule None None actions.Exclude ∷ []) [] (given (codes "class") (codes "x") ∷ []) ≡ false
other_attribute = refl

by_default : excluded (rule None None actions.Exclude ∷ []) [] (given (codes "product") (codes "x") ∷ []) ≡ true
by_default = refl

attribute_wins : excluded (rule None None actions.Exclude ∷ rule (Some (codes "props")) None actions.Passthrough ∷ [])
    [] (given (codes "props") (codes "x") ∷ []) ≡ false
attribute_wins = refl

token_wins : excluded (rule (Some (codes "props")) None actions.Include
    ∷ rule (Some (codes "props")) (Some (codes "x")) actions.Exclude ∷ []) [] (given (codes "props") (codes "x") ∷ []) ≡ true
token_wins = refl

-- an attribute that is declared counts like the others, and one that is not says nothing

abbrev no_role : List Rule
no_role = rule (Some (codes "jobrole")) (Some (codes "x")) actions.Exclude ∷ []

declared_attribute : excluded no_role (codes "jobrole" ∷ []) (given (codes "jobrole") (codes "x") ∷ []) ≡ true
declared_attribute = refl

other_declared : excluded no_role (codes "other" ∷ []) (given (codes "jobrole") (codes "x") ∷ []) ≡ false
other_declared = refl

-- Readings

abbrev prop : ℕ → List Attribute → Content → Content
prop line attributes rest = Element (codes "prop") attributes 0 line End rest

abbrev exclude_x : List Attribute
exclude_x = given (codes "action") (codes "exclude") ∷ given (codes "att") (codes "props")
    ∷ given (codes "val") (codes "x") ∷ []

-- a rule, the same once more, one of another action, and one for all else, whose `val` says nothing
read : rules_in (codes "v.ditaval") (Element (codes "val") [] 0 1
    (prop 2 exclude_x (prop 6 exclude_x (prop 10 (given (codes "action") (codes "hide") ∷ [])
    (prop 12 (given (codes "action") (codes "flag") ∷ given (codes "val") (codes "y") ∷ []) End)))) End)
    ≡ Ok (record {
      rules = rule (Some (codes "props")) (Some (codes "x")) actions.Exclude ∷ rule None None actions.Flag ∷ [];
      faults = record { name = codes "v.ditaval"; line = 6; code = faults.DitavalTwice; detail = codes "props" }
          ∷ record { name = codes "v.ditaval"; line = 10; code = faults.BadAction; detail = codes "hide" } ∷ [];
    })
read = refl

other_root : rules_in (codes "v.ditaval") (prop 1 exclude_x End) ≡ Err (record {})
other_root = refl
