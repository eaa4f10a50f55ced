-- One `prop` more, and all of them.
use Rattle.std.specs.Prelude.{◌≡◌, ℕ, true, false, not, List, [], ◌∷◌, ◌++◌, Option, None, Some, Ok, codes}
use Rattle.std.specs.List.{list_any}
use Rattle.std.specs.Option.{option_copied}
use Rattle.std.specs.BTreeSet.{contains, Updates, IsUnchanged}
use Rattle.std.proofs.Common.{refl, sym, ◌∙◌, ap, subst, append_assoc}
use Rattle.std.proofs.lemmas.List.{append-nil}
use Rattle.std.proofs.lemmas.Bool.{not-true, not-false}
use Rattle.dita_doc.specs.ClassValue.{value_of}
use Rattle.dita_doc.specs.declared.content.Action.{Action}
use Rattle.dita_doc.specs.declared.content.Rule.{Rule}
use Rattle.dita_doc.specs.declared.doc.Attribute.{Attribute}
use Rattle.dita_doc.specs.declared.fault.FaultCode.TheVariants as faults
use Rattle.ditaval_rules.specs.Rules.{Prop, rule_of, rule_by, rule_with, action_named, val_beside, are_for_same, prop_fault, rules_with}
use Rattle.ditaval_rules.specs.Reading.{HasRead}
use Rattle.ditaval_rules.specs.Subject.{Subject, subject_cmp, IsSubjectsOf}
use Rattle.ditaval_rules.specs.declared.reading.Reading.{Reading}
use Rattle.ditaval_rules.specs.declared.rules.RulesRead.{RulesRead}
use Rattle.ditaval_rules.proofs.RuleLaws.{kept, told, kept_whole, told_whole}
use Rattle.ditaval_rules.proofs.SubjectLaws.{IsSubject, set_tells, set_more, set_same}

-- a `prop` has a rule if its action is one
pub rule_by_action : (prop : Prop) (value : Option (List ℕ)) (action : Action)
    → value ≡ value_of (codes "action") prop.attributes → Some action ≡ action_named value
    → rule_of prop ≡ Some (rule_with prop.attributes action)
rule_by_action prop value action is named =
    ap (rule_by prop.attributes) (ap action_named (sym is) ∙ sym named)

-- a `prop` has none if its action is none
pub none_by_action : (prop : Prop) (value : Option (List ℕ)) → value ≡ value_of (codes "action") prop.attributes
    → None ≡ action_named value → rule_of prop ≡ None
none_by_action prop value is named =
    ap (rule_by prop.attributes) (ap action_named (sym is) ∙ sym named)

-- the key of its rule
pub subject_of_rule : (attributes : List Attribute) (action : Action) (key : Subject)
    → option_copied key.0 ≡ value_of (codes "att") attributes
    → option_copied key.1 ≡ val_beside (option_copied key.0) attributes → IsSubject key (rule_with attributes action)
subject_of_rule attributes action key att val =
    record { att = att; val = val ∙ ap (λ a. val_beside a attributes) att }

-- a rule that was made of the texts of a key
pub made_rule : (made rule : Rule) (key : Subject) → IsSubject key rule → made.att ≡ option_copied key.0
    → made.val ≡ option_copied key.1 → made.action ≡ rule.action → made ≡ rule
made_rule made rule key is att val action =
    let with : Option (List ℕ) → Option (List ℕ) → Action → Rule =
    λ a v done. record { att = a; val = v; action = done } in
    let first = ap (λ a. with a made.val made.action) (att ∙ is.att) in
    let second = ap (λ v. with rule.att v made.action) (val ∙ is.val) in
    let third = ap (λ done. with rule.att rule.val done) action in
    first ∙ second ∙ third

-- What is known of a `prop` with a rule, and of its key

module _ (name : List ℕ) (prop : Prop) (old new : Reading) (key : Subject) (rule : Rule)
    (is : rule_of prop ≡ Some rule) (subject : IsSubject key rule) (seen : IsSubjectsOf old.seen old.rules) where
  pub reads_new : true ≡ not (contains subject_cmp old.seen key) → Updates subject_cmp old.seen new.seen key true
      → new.rules ≡ old.rules ++ rule ∷ [] → new.faults ≡ old.faults → HasRead name prop old new
  reads_new added updates rules faults =
      let none : list_any (are_for_same rule) old.rules ≡ false =
      sym (set_tells old.seen old.rules key rule seen subject) ∙ not-true _ (sym added) in
      record {
        rules = rw (is, none) rules;
        faults = rw (is, none, append-nil old.faults) faults;
        seen = rw rules (set_more old.seen new.seen old.rules key rule seen subject updates);
      }

  pub reads_twice : false ≡ not (contains subject_cmp old.seen key) → IsUnchanged old.seen new.seen
      → new.rules ≡ old.rules
      → new.faults ≡ old.faults ++ prop_fault name prop.line faults.DitavalTwice rule.att ∷ []
      → HasRead name prop old new
  reads_twice added same rules faults =
      let one : list_any (are_for_same rule) old.rules ≡ true =
      sym (set_tells old.seen old.rules key rule seen subject) ∙ not-false _ (sym added) in
      record {
        rules = rw (is, one, append-nil old.rules) rules;
        faults = rw (is, one) faults;
        seen = rw rules (set_same old.seen new.seen old.rules seen same);
      }

-- a `prop` without a rule is a fault
pub reads_bad : (name : List ℕ) (prop : Prop) (old new : Reading) → rule_of prop ≡ None
    → IsSubjectsOf old.seen old.rules → new.rules ≡ old.rules → new.seen ≡ old.seen
    → new.faults
    ≡ old.faults ++ prop_fault name prop.line faults.BadAction (value_of (codes "action") prop.attributes) ∷ []
    → HasRead name prop old new
reads_bad name prop old new is subjects rules seen faults = record {
  rules = rw (is, append-nil old.rules) rules;
  faults = rw is faults;
  seen = rw (rules, seen) subjects;
}

-- A reading that has come as far as these `prop`s

pub record IsReadTo (name : List ℕ) (reading : Reading) (rest all : List Prop) : Type 0 where
  pub rules : reading.rules ++ kept reading.rules rest ≡ kept [] all
  pub faults : reading.faults ++ told name reading.rules rest ≡ told name [] all
  pub seen : IsSubjectsOf reading.seen reading.rules

pub one_read : (name : List ℕ) (old new : Reading) (prop : Prop) (rest all : List Prop) → HasRead name prop old new
    → IsReadTo name old (prop ∷ rest) all → IsReadTo name new rest all
one_read name old new prop rest all has to =
    record {
      rules = rw (has.rules, append_assoc) to.rules;
      faults = rw (has.rules, has.faults, append_assoc) to.faults;
      seen = has.seen;
    }

-- at their end it has the rules and the faults
pub all_read : (name : List ℕ) (reading : Reading) (rest all : List Prop) (read : RulesRead)
    → IsReadTo name reading rest all → rest ≡ [] → read.rules ≡ reading.rules → read.faults ≡ reading.faults
    → rules_with name (Some all) ≡ Ok read
all_read name reading rest all read to end rules faults =
    let P : List Prop → Type 0 = λ l. IsReadTo name reading l all in
    let done = subst P end to in
    let kept_rules = sym (kept_whole all) ∙ sym done.rules ∙ append-nil reading.rules ∙ sym rules in
    let told_faults = sym (told_whole name all) ∙ sym done.faults ∙ append-nil reading.faults ∙ sym faults in
    rw (kept_rules, told_faults) refl
