-- Rules for the same, and what a reading of `prop`s makes of them.
use Rattle.std.specs.Prelude.{◌≡◌, ◌&&◌, ◌||◌, ℕ, Bool, true, false, not, List, [], ◌∷◌, ◌++◌, Option, Some, None, filter, if◌then◌else◌}
use Rattle.std.specs.Cmp.{IsEquivalence}
use Rattle.std.specs.List.{filter_map, list_any, cons_option}
use Rattle.std.specs.Option.{option_to_list}
use Rattle.std.proofs.Common.{refl, sym, ◌∙◌, ap}
use Rattle.std.proofs.lemmas.List.{append-nil}
use Rattle.std.proofs.lemmas.Cmp.{nat_list_eq_equiv, on_equiv, and_equiv}
use Rattle.std.proofs.lemmas.List.Folds.{list_any-append}
use Rattle.std.proofs.lemmas.Map.Steps.{list_any_congr}
use Rattle.dita_doc.specs.declared.content.Rule.{Rule}
use Rattle.dita_doc.specs.declared.fault.Fault.{Fault}
use Rattle.ditaval_rules.specs.Rules.{Prop, rule_of, is_same_text, are_for_same, first_of_each, fault_behind, faults_behind}
use Rattle.ditaval_rules.specs.Reading.{new_behind}
use Rattle.ditaval_rules.proofs.NameLaws.{filter_all}

-- To be for the same is an equivalence

text_itself : (a : Option (List ℕ)) → is_same_text a a ≡ true
text_itself None = refl
text_itself (Some a) = nat_list_eq_equiv.refl a

pub text_back : (a b : Option (List ℕ)) → is_same_text a b ≡ is_same_text b a
text_back None None = refl
text_back None (Some b) = refl
text_back (Some a) None = refl
text_back (Some a) (Some b) = nat_list_eq_equiv.symm a b

text_alike : (a b c : Option (List ℕ)) → is_same_text a b ≡ true → is_same_text a c ≡ is_same_text b c
text_alike None None c e = refl
text_alike None (Some b) c e = cc
text_alike (Some a) None c e = cc
text_alike (Some a) (Some b) None e = refl
text_alike (Some a) (Some b) (Some c) e = nat_list_eq_equiv.congr a b c e

text_equiv : IsEquivalence is_same_text
text_equiv = record { refl = text_itself; symm = text_back; congr = text_alike }

pub rule_equiv : IsEquivalence are_for_same
rule_equiv = and_equiv (on_equiv (λ (rule : Rule). rule.att) text_equiv)
    (on_equiv (λ (rule : Rule). rule.val) text_equiv)

-- Two filters, one after the other

filter_from : {X : Type 0} (p q both : X → Bool) (x : X) (xs : List X) (first second : Bool) → q x ≡ first
    → p x ≡ second → both x ≡ (first && second) → filter p (filter q xs) ≡ filter both xs
    → filter p (filter q (x ∷ xs)) ≡ filter both (x ∷ xs)
filter_from p q both x xs true true e f is more = rw (e, f, is, more) refl
filter_from p q both x xs true false e f is more = rw (e, f, is, more) refl
filter_from p q both x xs false second e f is more = rw (e, is, more) refl

filter_both : {X : Type 0} (p q both : X → Bool) → ((x : X) → both x ≡ (q x && p x)) → (xs : List X)
    → filter p (filter q xs) ≡ filter both xs
filter_both p q both is [] = refl
filter_both p q both is (x ∷ xs) =
    filter_from p q both x xs (q x) (p x) refl refl (is x) (filter_both p q both is xs)

-- Rules that are for the same as none of others

abbrev any_for : List Rule → Rule → Bool
any_for before rule = list_any (are_for_same rule) before

abbrev none_for : List Rule → Rule → Bool
none_for before rule = not (any_for before rule)

-- if one of these is for the same as a rule, nothing is new in what is for the same as the rule
old_one : (before : List Rule) (rule other : Rule) (same : Bool) → any_for before rule ≡ true
    → are_for_same rule other ≡ same → none_for before other ≡ (not same && none_for before other)
old_one before rule other true e is =
    let told : any_for before rule ≡ any_for before other = list_any_congr rule_equiv rule other before is in
    rw (sym told ∙ e) refl
old_one before rule other false e is = refl

-- a rule more
one_more_for : (before : List Rule) (rule other : Rule)
    → none_for (before ++ rule ∷ []) other ≡ (not (are_for_same rule other) && none_for before other)
one_more_for before rule other =
    rw (list_any-append (are_for_same other) before (rule ∷ []), rule_equiv.symm other rule)
    (by_cases (any_for before other) (are_for_same rule other))
  where
    by_cases : (any same : Bool) → not (any || (same || false)) ≡ (not same && not any)
    by_cases true true = refl
    by_cases true false = refl
    by_cases false true = refl
    by_cases false false = refl

-- What is kept of `prop`s behind kept rules, and the faults that are told of them

abbrev pub kept : List Rule → List Prop → List Rule
kept before [] = []
kept before (prop ∷ props) =
    new_behind before (rule_of prop) ++ kept (before ++ new_behind before (rule_of prop)) props

abbrev pub told : List ℕ → List Rule → List Prop → List Fault
told name before [] = []
told name before (prop ∷ props) =
    option_to_list (fault_behind name before prop (rule_of prop))
    ++ told name (before ++ new_behind before (rule_of prop)) props

-- the rules of some `prop`s of which none is for the same as one before
abbrev new_rules : List Rule → List Rule → List Rule
new_rules before rules = filter (none_for before) (first_of_each rules)

kept_known : (before : List Rule) (rule : Rule) (rules : List Rule) (known : Bool) → any_for before rule ≡ known
    → new_rules before (rule ∷ rules)
    ≡ (if known then [] else rule ∷ []) ++ new_rules (before ++ (if known then [] else rule ∷ [])) rules
kept_known before rule rules true e =
    rw (e, append-nil before) (filter_both (none_for before) (λ other. not (are_for_same rule other)) (none_for before)
    (λ other. old_one before rule other (are_for_same rule other) e refl) (first_of_each rules))
kept_known before rule rules false e =
    rw e (ap (λ l. rule ∷ l) (filter_both (none_for before) (λ other. not (are_for_same rule other))
    (none_for (before ++ rule ∷ [])) (one_more_for before rule) (first_of_each rules)))

kept_from : (before : List Rule) (new : Option Rule) (props : List Prop)
    → ((more : List Rule) → kept more props ≡ new_rules more (filter_map rule_of props))
    → new_behind before new ++ kept (before ++ new_behind before new) props
    ≡ new_rules before (cons_option new (filter_map rule_of props))
kept_from before None props more = rw append-nil (more before)
kept_from before (Some rule) props more =
    rw more (sym (kept_known before rule (filter_map rule_of props) (any_for before rule) refl))

kept_behind : (before : List Rule) (props : List Prop) → kept before props ≡ new_rules before (filter_map rule_of props)
kept_behind before [] = refl
kept_behind before (prop ∷ props) = kept_from before (rule_of prop) props (λ more. kept_behind more props)

-- of all rules the first of each is kept
pub kept_whole : (props : List Prop) → kept [] props ≡ first_of_each (filter_map rule_of props)
kept_whole props = kept_behind [] props ∙ filter_all (first_of_each (filter_map rule_of props))

-- Faults hang on what the rules before are for, and not on how often

abbrev AreForSame : List Rule → List Rule → Type 0
AreForSame before all = (rule : Rule) → any_for before rule ≡ any_for all rule

same_known : (before all : List Rule) (rule : Rule) (known : Bool) → any_for before rule ≡ known
    → AreForSame before all → AreForSame (before ++ (if known then [] else rule ∷ [])) (all ++ rule ∷ [])
same_known before all rule true e same other =
    let old = old_one before rule other (are_for_same rule other) e refl in
    rw (
      append-nil before,
      list_any-append (are_for_same other) all (rule ∷ []),
      ← same other,
      rule_equiv.symm other rule,
    ) (by_cases (any_for before other) (are_for_same rule other) old)
  where
    by_cases : (any one : Bool) → not any ≡ (not one && not any) → any ≡ (any || (one || false))
    by_cases true one e = refl
    by_cases false true e = cc
    by_cases false false e = refl
same_known before all rule false e same other =
    rw (
      list_any-append (are_for_same other) before (rule ∷ []),
      list_any-append (are_for_same other) all (rule ∷ []),
      same other,
    ) refl

same_behind : (before all : List Rule) (new : Option Rule) → AreForSame before all
    → AreForSame (before ++ new_behind before new) (all ++ option_to_list new)
same_behind before all None same other = rw (append-nil before, append-nil all) (same other)
same_behind before all (Some rule) same other = same_known before all rule (any_for before rule) refl same other

same_fault : (name : List ℕ) (before all : List Rule) (prop : Prop) (new : Option Rule) → AreForSame before all
    → fault_behind name before prop new ≡ fault_behind name all prop new
same_fault name before all prop None same = refl
same_fault name before all prop (Some rule) same = rw (same rule) refl

told_alike : (name : List ℕ) (before all : List Rule) (props : List Prop) → AreForSame before all
    → told name before props ≡ faults_behind name all props
told_alike name before all [] same = refl
told_alike name before all (prop ∷ props) same =
    rw (
      same_fault name before all prop (rule_of prop) same,
      told_alike name (before ++ new_behind before (rule_of prop)) (all ++ option_to_list (rule_of prop)) props
          (same_behind before all (rule_of prop) same),
    ) refl

-- so those that are told are the faults
pub told_whole : (name : List ℕ) (props : List Prop) → told name [] props ≡ faults_behind name [] props
told_whole name props = told_alike name [] [] props (λ rule. refl)
