-- What rules are for, as a key: an attribute and a token, each of which may be missing (own).
use Rattle.std.specs.Prelude.{◌≡◌, ◌&&◌, ℕ, Bool, List, Option}
use Rattle.std.specs.List.{list_any}
use Rattle.std.specs.Option.{option_copied, option_cmp}
use Rattle.std.specs.Ordering.{nat_cmp, ordering_then}
use Rattle.std.specs.Cmp.Lexicographic.{slice_cmp}
use Rattle.std.specs.Borrow.{Bor}
use Rattle.std.specs.declared.cmp.Ordering.{Ordering}
use Rattle.std.specs.BTreeSet.{BTreeSet, contains}
use Rattle.dita_doc.specs.declared.content.Rule.{Rule}
use Rattle.ditaval_rules.specs.Rules.{is_same_text}

abbrev pub Subject : Type 0
Subject = Option (Bor (List ℕ)) × Option (Bor (List ℕ))

abbrev pub text_cmp : Option (Bor (List ℕ)) → Option (Bor (List ℕ)) → Ordering
text_cmp one other = option_cmp (λ a b. slice_cmp nat_cmp a.now b.now) one other

-- the order of keys
abbrev pub subject_cmp : Subject → Subject → Ordering
subject_cmp one other = ordering_then (text_cmp one.0 other.0) (text_cmp one.1 other.1)

-- the rule is for this attribute and this token
abbrev pub has_subject : Subject → Rule → Bool
has_subject subject rule =
    is_same_text rule.att (option_copied subject.0) && is_same_text rule.val (option_copied subject.1)

-- a set has just what the rules are for
abbrev pub IsSubjectsOf : BTreeSet Subject → List Rule → Type 0
IsSubjectsOf seen rules =
    (subject : Subject) → contains subject_cmp seen subject ≡ list_any (has_subject subject) rules
