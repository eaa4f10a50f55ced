-- Words of which each is taken once.
use Rattle.std.specs.Prelude.{◌≡◌, ◌||◌, ℕ, Bool, true, false, not, List, [], ◌∷◌, ◌++◌, bytes_eq, filter, if◌then◌else◌}
use Rattle.std.specs.BTreeMap.{is_at}
use Rattle.std.specs.BTreeSet.{insert_key}
use Rattle.std.specs.Cmp.Lexicographic.{slice_cmp}
use Rattle.std.specs.List.{list_any}
use Rattle.std.specs.Bool.{OnFalse}
use Rattle.std.specs.Ordering.{nat_cmp}
use Rattle.std.proofs.Common.{refl, sym, ap, subst, ◌∙◌, append-nil, append_assoc}
use Rattle.std.proofs.lemmas.Bool.{true≢false}
use Rattle.std.proofs.lemmas.Slice.Eq.{bytes_eq-Decides}
use Rattle.dita_doc.proofs.Lists.{any_push, any_put, is_other, is_unseen}
use Rattle.dita_doc.proofs.Orders.{at_text}
use Rattle.dita_doc.proofs.Tests.{text_swaps}
use Rattle.map_spec.specs.Branches.{each_once}
use Rattle.map_spec.specs.Cascade.{with_new}
use Rattle.branch_copies.specs.Seen.{AreSeen}

-- Names in a set

any_key : (word : List ℕ) (keys : List (List ℕ))
    → list_any (is_at (slice_cmp nat_cmp word)) keys ≡ list_any (bytes_eq word) keys
any_key word [] = refl
any_key word (key ∷ keys) = rw (at_text key word, any_key word keys) refl

-- a word that was not seen is put behind the names
pub seen_push : (names keys later : List (List ℕ)) (word : List ℕ) → AreSeen names keys
    → later ≡ insert_key (slice_cmp nat_cmp) keys word → AreSeen (names ++ word ∷ []) later
seen_push names keys later word seen is = λ name.
    any_push (bytes_eq name) names word ∙ ap (λ b. bytes_eq name word || b) (seen name)
    ∙ sym (ap (list_any (bytes_eq name)) is ∙ any_put (bytes_eq name) word keys)

-- one that was seen changes nothing
pub seen_again : (names keys later : List (List ℕ)) → AreSeen names keys → later ≡ keys → AreSeen names later
seen_again names keys later seen is = λ name. seen name ∙ sym (ap (list_any (bytes_eq name)) is)

pub seen_test : (names keys : List (List ℕ)) (word : List ℕ) (added : Bool) → AreSeen names keys
    → added ≡ not (list_any (is_at (slice_cmp nat_cmp word)) keys) → not added ≡ list_any (bytes_eq word) names
seen_test names keys word added seen is = ap not is ∙ twice _ ∙ any_key word keys ∙ sym (seen word)
  where
    twice : (b : Bool) → not (not b) ≡ b
    twice true = refl
    twice false = refl

-- the walk over words, one more
pub new_one : (names words : List (List ℕ)) (word : List ℕ) → list_any (bytes_eq word) names ≡ false
    → with_new names (word ∷ words) ≡ with_new (names ++ word ∷ []) words
new_one names words word new = rw new refl

pub old_one : (names words : List (List ℕ)) (word : List ℕ) → list_any (bytes_eq word) names ≡ true
    → with_new names (word ∷ words) ≡ with_new names words
old_one names words word old = rw old refl

new_parts : (first second names : List (List ℕ))
    → with_new (with_new names first) second ≡ with_new names (first ++ second)
new_parts [] second names = refl
new_parts (word ∷ first) second names =
    new_parts first second (if list_any (bytes_eq word) names then names else names ++ word ∷ [])

-- Each once

filter_swap : (p q : List ℕ → Bool) (names : List (List ℕ))
    → filter p (filter q names) ≡ filter q (filter p names)
filter_swap p q [] = refl
filter_swap p q (name ∷ names) = by_two (filter_swap p q names) (p name) (q name) refl refl
  where
    by_two : filter p (filter q names) ≡ filter q (filter p names) → (a b : Bool) → p name ≡ a → q name ≡ b
        → filter p (filter q (name ∷ names)) ≡ filter q (filter p (name ∷ names))
    by_two behind true true e f = simp (e, f) (ap (λ more. name ∷ more) behind)
    by_two behind true false e f = simp (e, f) behind
    by_two behind false true e f = simp (e, f) behind
    by_two behind false false e f = simp (e, f) behind

-- what is left out already need not be left out again
filter_less : (p q : List ℕ → Bool) (names : List (List ℕ)) → ((name : List ℕ) → q name ≡ false → p name ≡ false)
    → filter p (filter q names) ≡ filter p names
filter_less p q [] less = refl
filter_less p q (name ∷ names) less = by_two (filter_less p q names less) (p name) (q name) refl refl
  where
    by_two : filter p (filter q names) ≡ filter p names → (a b : Bool) → p name ≡ a → q name ≡ b
        → filter p (filter q (name ∷ names)) ≡ filter p (name ∷ names)
    by_two behind true true e f = simp (e, f) (ap (λ more. name ∷ more) behind)
    by_two behind true false e f = absurd (true≢false (sym e ∙ less name f))
    by_two behind false true e f = simp (e, f) behind
    by_two behind false false e f = simp (e, f) behind

not_other : (name each : List ℕ) → is_other name each ≡ false → name ≡ each
not_other name each e = by_test (bytes_eq name each) refl e
  where
    by_test : (b : Bool) → bytes_eq name each ≡ b → not b ≡ false → name ≡ each
    by_test true f e = (bytes_eq-Decides name each).0 f
    by_test false f e = cc

filter_once : (p : List ℕ → Bool) (names : List (List ℕ)) → filter p (each_once names) ≡ each_once (filter p names)
filter_once p [] = refl
filter_once p (name ∷ names) = by_one (filter_once p names) (p name) refl
  where
    by_one : filter p (each_once names) ≡ each_once (filter p names) → (a : Bool) → p name ≡ a
        → filter p (each_once (name ∷ names)) ≡ each_once (filter p (name ∷ names))
    by_one behind true e = simp e (ap (λ more. name ∷ more)
        (filter_swap p (is_other name) (each_once names) ∙ ap (filter (is_other name)) behind))
    by_one behind false e = simp e (filter_less p (is_other name) (each_once names)
        (λ each f. ap p (sym (not_other name each f)) ∙ e) ∙ behind)

unseen_push : (names : List (List ℕ)) (word : List ℕ) (words : List (List ℕ))
    → filter (is_unseen (names ++ word ∷ [])) words ≡ filter (is_other word) (filter (is_unseen names) words)
unseen_push names word [] = refl
unseen_push names word (next ∷ words) = by_two (unseen_push names word words)
    (bytes_eq word next) (list_any (bytes_eq next) names) refl refl
  where
    both : list_any (bytes_eq next) (names ++ word ∷ []) ≡ (bytes_eq word next || list_any (bytes_eq next) names)
    both = any_push (bytes_eq next) names word ∙ ap (λ b. b || list_any (bytes_eq next) names) (text_swaps next word)

    by_two : filter (is_unseen (names ++ word ∷ [])) words ≡ filter (is_other word) (filter (is_unseen names) words)
        → (a b : Bool) → bytes_eq word next ≡ a → list_any (bytes_eq next) names ≡ b
        → filter (is_unseen (names ++ word ∷ [])) (next ∷ words)
        ≡ filter (is_other word) (filter (is_unseen names) (next ∷ words))
    by_two behind true true e f = simp (both, e, f) behind
    by_two behind true false e f = simp (both, e, f) behind
    by_two behind false true e f = simp (both, e, f) behind
    by_two behind false false e f = simp (both, e, f) (ap (λ more. next ∷ more) behind)

new_once : (words names : List (List ℕ)) → with_new names words ≡ names ++ each_once (filter (is_unseen names) words)
new_once [] names = sym (append-nil names)
new_once (word ∷ words) names = by_one (new_once words) (list_any (bytes_eq word) names) refl
  where
    by_one : ((some : List (List ℕ)) → with_new some words ≡ some ++ each_once (filter (is_unseen some) words))
        → (a : Bool)
        → list_any (bytes_eq word) names ≡ a
        → with_new names (word ∷ words) ≡ names ++ each_once (filter (is_unseen names) (word ∷ words))
    by_one behind true e = simp e (behind names)
    by_one behind false e = simp e (behind (names ++ word ∷ [])
        ∙ append_assoc names (word ∷ []) _
        ∙ ap (λ more. names ++ word ∷ more) (ap each_once (unseen_push names word words)
        ∙ sym (filter_once (is_other word) (filter (is_unseen names) words))))

all_unseen : (words : List (List ℕ)) → filter (is_unseen []) words ≡ words
all_unseen [] = refl
all_unseen (word ∷ words) = ap (λ more. word ∷ more) (all_unseen words)

-- the words of two values, each once
pub words_once : (first second names all : List (List ℕ)) → names ≡ with_new [] first
    → all ≡ with_new names second → all ≡ each_once (first ++ second)
words_once first second names all one two =
    two ∙ ap (λ some. with_new some second) one ∙ new_parts first second [] ∙ new_once (first ++ second) []
    ∙ ap each_once (all_unseen (first ++ second))

-- one more word of a value
pub new_word : (names keys later_names later : List (List ℕ)) (word copy : List ℕ) (items rest whole : List (List ℕ))
    (added : Bool) → AreSeen names keys → copy ≡ word
    → added ≡ not (list_any (is_at (slice_cmp nat_cmp copy)) keys)
    → later ≡ insert_key (slice_cmp nat_cmp) keys copy → added ≡ true → later_names ≡ names ++ word ∷ []
    → items ≡ word ∷ rest → with_new names items ≡ whole
    → (with_new later_names rest ≡ whole) × AreSeen later_names later
new_word names keys later_names later word copy items rest whole added seen same is put new pushed first before =
    let asked = ap (λ w. not (list_any (is_at (slice_cmp nat_cmp w)) keys)) same in
    let unseen_word : list_any (bytes_eq word) names ≡ false =
    sym (seen_test names keys word added seen (is ∙ asked)) ∙ ap not new in (
      ap (λ some. with_new some rest) pushed ∙ sym (new_one names rest word unseen_word) ∙ ap (with_new names) (sym first)
          ∙ before,
      λ name. ap (list_any (bytes_eq name)) pushed
          ∙ seen_push names keys later word seen (put ∙ ap (insert_key (slice_cmp nat_cmp) keys) same) name,
    )

pub old_word : (names keys later : List (List ℕ)) (word copy : List ℕ) (items rest whole : List (List ℕ))
    (added : Bool) → AreSeen names keys → copy ≡ word
    → added ≡ not (list_any (is_at (slice_cmp nat_cmp copy)) keys)
    → OnFalse added (later ≡ keys) → added ≡ false
    → items ≡ word ∷ rest → with_new names items ≡ whole
    → (with_new names rest ≡ whole) × AreSeen names later
old_word names keys later word copy items rest whole added seen same is unchanged old first before =
    let asked = ap (λ w. not (list_any (is_at (slice_cmp nat_cmp w)) keys)) same in
    let seen_word : list_any (bytes_eq word) names ≡ true =
    sym (seen_test names keys word added seen (is ∙ asked)) ∙ ap not old in (
      sym (old_one names rest word seen_word) ∙ ap (with_new names) (sym first) ∙ before,
      seen_again names keys later seen (subst (λ b. OnFalse b (later ≡ keys)) old unchanged),
    )
