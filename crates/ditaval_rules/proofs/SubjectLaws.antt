-- What rules are for, as keys of sets and maps.
use Rattle.std.specs.Prelude.{◌≡◌, ◌&&◌, ◌||◌, ℕ, Bool, true, false, List, [], ◌∷◌, ◌++◌, Option, Some, None, if◌then◌else◌}
use Rattle.std.specs.List.{list_any}
use Rattle.std.specs.Option.{option_copied}
use Rattle.std.specs.Ordering.{is_eq}
use Rattle.std.specs.Borrow.{Bor}
use Rattle.std.specs.BTreeMap.{is_at}
use Rattle.std.specs.BTreeSet.{BTreeSet, contains, Updates, IsUnchanged}
use Rattle.std.specs.Cmp.{tied_then}
use Rattle.std.proofs.Common.{refl, sym, ◌∙◌, ap}
use Rattle.std.proofs.lemmas.List.Folds.{list_any-append}
use Rattle.std.proofs.lemmas.Map.Text.{is_eq-slice_cmp}
use Rattle.dita_doc.specs.declared.content.Rule.{Rule}
use Rattle.dita_doc.proofs.Lists.{any_like}
use Rattle.ditaval_rules.specs.Rules.{is_same_text, are_for_same}
use Rattle.ditaval_rules.specs.Subject.{Subject, text_cmp, subject_cmp, has_subject, IsSubjectsOf}
use Rattle.ditaval_rules.proofs.RuleLaws.{text_back}

text_at : (one other : Option (Bor (List ℕ)))
    → is_eq (text_cmp one other) ≡ is_same_text (option_copied one) (option_copied other)
text_at None None = refl
text_at None (Some other) = refl
text_at (Some one) None = refl
text_at (Some one) (Some other) = is_eq-slice_cmp one.now other.now

-- keys compare equal if their texts are the same
pub subject_at : (one other : Subject) → is_at (subject_cmp one) other
    ≡ (is_same_text (option_copied one.0) (option_copied other.0)
    && is_same_text (option_copied one.1) (option_copied other.1))
subject_at one other =
    let parts = tied_then (text_cmp one.0 other.0) (text_cmp one.1 other.1) in
    sym parts ∙ rw (text_at one.0 other.0, text_at one.1 other.1) refl

-- the key of a rule
pub record IsSubject (key : Subject) (rule : Rule) : Type 0 where
  pub att : option_copied key.0 ≡ rule.att
  pub val : option_copied key.1 ≡ rule.val

at_rule : (key other : Subject) (rule : Rule) → IsSubject key rule
    → is_at (subject_cmp key) other ≡ has_subject other rule
at_rule key other rule is = subject_at key other ∙ rw (is.att, is.val) refl

same_as_rule : (key : Subject) (rule other : Rule) → IsSubject key rule
    → has_subject key other ≡ are_for_same rule other
same_as_rule key rule other is = rw (is.att, is.val, text_back rule.att other.att, text_back rule.val other.val) refl

-- whether the set has the rule's key tells whether one of the rules is for the same
pub set_tells : (seen : BTreeSet Subject) (rules : List Rule) (key : Subject) (rule : Rule) → IsSubjectsOf seen rules
    → IsSubject key rule → contains subject_cmp seen key ≡ list_any (are_for_same rule) rules
set_tells seen rules key rule all is =
    all key ∙ any_like (has_subject key) (are_for_same rule) (λ other. same_as_rule key rule other is) rules

-- a rule more, and its key
pub set_more : (seen new : BTreeSet Subject) (rules : List Rule) (key : Subject) (rule : Rule) → IsSubjectsOf seen rules
    → IsSubject key rule → Updates subject_cmp seen new key true → IsSubjectsOf new (rules ++ rule ∷ [])
set_more seen new rules key rule all is updates subject =
    updates.0 subject
    ∙ rw (at_rule key subject rule is, all subject, list_any-append (has_subject subject) rules (rule ∷ []))
    (by_cases (has_subject subject rule) (list_any (has_subject subject) rules))
  where
    by_cases : (one any : Bool) → (if one then true else any) ≡ (any || (one || false))
    by_cases true true = refl
    by_cases true false = refl
    by_cases false true = refl
    by_cases false false = refl

-- a set of the same keys has the same
pub set_same : (seen new : BTreeSet Subject) (rules : List Rule) → IsSubjectsOf seen rules → IsUnchanged seen new
    → IsSubjectsOf new rules
set_same seen new rules all same subject = ap (λ keys. list_any (is_at (subject_cmp subject)) keys) same ∙ all subject
