-- Texts of which each is kept once, with the set of those that were seen.
use Rattle.std.specs.Prelude.{◌≡◌, ◌<◌, ◌+◌, suc, ◌&&◌, ◌||◌, ℕ, Bool, true, false, not, List, [], ◌∷◌, ◌++◌, bytes_eq, filter, map, if◌then◌else◌}
use Rattle.std.specs.Borrow.{Bor}
use Rattle.std.specs.BTreeMap.{is_at}
use Rattle.std.specs.BTreeSet.{BTreeSet, contains, Updates, IsUnchanged}
use Rattle.std.specs.Cmp.Lexicographic.{slice_cmp}
use Rattle.std.specs.List.{list_any}
use Rattle.std.specs.Ordering.{nat_cmp}
use Rattle.std.specs.declared.cmp.Ordering.{Ordering}
use Rattle.std.proofs.Common.{refl, sym, ap, ◌∙◌, append_assoc, arith, drop, drop-cons, get_or, length}
use Rattle.std.proofs.lemmas.Bool.{true≢false}
use Rattle.std.proofs.lemmas.Cmp.{nat_list_eq_equiv}
use Rattle.std.proofs.lemmas.List.Folds.{list_any-append}
use Rattle.std.proofs.lemmas.Map.Text.{is_eq-slice_cmp}
use Rattle.std.proofs.lemmas.Slice.Eq.{bytes_eq-Decides}
use Rattle.dita_doc.specs.declared.content.Mark.{Mark}
use Rattle.dita_doc.proofs.Lists.{filter_both, filter_every, is_other, is_unseen}
use Rattle.dita_doc.proofs.Tests.{not_either}
use Rattle.ditaval_rules.specs.Domains.{first_of_each}
use Rattle.flag_marks.specs.Marks.{at_place}

-- Texts behind others

-- those that are kept of texts behind these
abbrev pub kept : List (List ℕ) → List (List ℕ) → List (List ℕ)
kept before texts = filter (is_unseen before) (first_of_each texts)

pub kept_whole : (texts : List (List ℕ)) → kept [] texts ≡ first_of_each texts
kept_whole texts = filter_every (is_unseen []) (λ text. refl) (first_of_each texts)

new_behind : (before : List (List ℕ)) (text each : List ℕ)
    → (is_other text each && is_unseen before each) ≡ is_unseen (before ++ text ∷ []) each
new_behind before text each =
    ap (λ same. not same && is_unseen before each) (nat_list_eq_equiv.symm text each)
    ∙ not_either (list_any (bytes_eq each) before) (bytes_eq each text)
    ∙ ap not (sym (list_any-append (bytes_eq each) before (text ∷ [])))

-- a text that was seen leaves none of its like behind
old_behind : (before : List (List ℕ)) (text : List ℕ) → is_unseen before text ≡ false → (each : List ℕ)
    → (is_other text each && is_unseen before each) ≡ is_unseen before each
old_behind before text seen each = by_test (bytes_eq text each) (is_unseen before each) refl refl
  where
    by_test : (a b : Bool) → bytes_eq text each ≡ a → is_unseen before each ≡ b
        → (is_other text each && is_unseen before each) ≡ is_unseen before each
    by_test true true e f =
        absurd (true≢false (sym f ∙ ap (is_unseen before) (sym ((bytes_eq-Decides text each).0 e)) ∙ seen))
    by_test true false e f = simp (e, f) refl
    by_test false b e f = simp e refl

first_kept : (before : List (List ℕ)) (text : List ℕ) (texts : List (List ℕ)) (new : Bool) → is_unseen before text ≡ new
    → filter (is_unseen before) (text ∷ filter (is_other text) (first_of_each texts))
    ≡ (if new then text ∷ filter (is_unseen before) (filter (is_other text) (first_of_each texts))
    else filter (is_unseen before) (filter (is_other text) (first_of_each texts)))
first_kept before text texts true e = simp e refl
first_kept before text texts false e = simp e refl

pub new_kept : (before : List (List ℕ)) (text : List ℕ) (texts : List (List ℕ))
    → list_any (bytes_eq text) before ≡ false → kept before (text ∷ texts) ≡ text ∷ kept (before ++ text ∷ []) texts
new_kept before text texts new =
    first_kept before text texts true (ap not new)
    ∙ ap (λ more. text ∷ more) (filter_both (is_unseen before) (is_other text) (is_unseen (before ++ text ∷ []))
    (new_behind before text) (first_of_each texts))

pub old_kept : (before : List (List ℕ)) (text : List ℕ) (texts : List (List ℕ)) → list_any (bytes_eq text) before ≡ true
    → kept before (text ∷ texts) ≡ kept before texts
old_kept before text texts old =
    first_kept before text texts false (ap not old)
    ∙ filter_both (is_unseen before) (is_other text) (is_unseen before) (old_behind before text (ap not old))
    (first_of_each texts)

-- The set of those that were seen

abbrev pub Str : Type 0
Str = Bor (List ℕ)

abbrev pub text_cmp : Str → Str → Ordering
text_cmp one other = slice_cmp nat_cmp one.now other.now

abbrev pub AreSeen : BTreeSet Str → List (List ℕ) → Type 0
AreSeen seen before = (text : Str) → contains text_cmp seen text ≡ list_any (bytes_eq text.now) before

at_text : (one other : Str) → is_at (text_cmp one) other ≡ bytes_eq one.now other.now
at_text one other = is_eq-slice_cmp one.now other.now

pub seen_more : (seen new : BTreeSet Str) (before : List (List ℕ)) (key : Str) → AreSeen seen before
    → Updates text_cmp seen new key true → AreSeen new (before ++ key.now ∷ [])
seen_more seen new before key all updates text =
    updates.0 text
    ∙ rw (
      at_text key text,
      all text,
      list_any-append (bytes_eq text.now) before (key.now ∷ []),
      nat_list_eq_equiv.symm key.now text.now,
    )
    (by_cases (bytes_eq text.now key.now) (list_any (bytes_eq text.now) before))
  where
    by_cases : (one any : Bool) → (if one then true else any) ≡ (any || (one || false))
    by_cases true true = refl
    by_cases true false = refl
    by_cases false true = refl
    by_cases false false = refl

pub seen_same : (seen new : BTreeSet Str) (before : List (List ℕ)) → AreSeen seen before → IsUnchanged seen new
    → AreSeen new before
seen_same seen new before all same text = ap (λ keys. list_any (is_at (text_cmp text)) keys) same ∙ all text

-- Marks of a place that were put behind others, as far as these texts are left of all

pub record IsPut (place : ℕ) (set : BTreeSet Str) (marks old : List Mark) (rest all : List (List ℕ)) : Type 0 where
  pub before : List (List ℕ)
  pub seen : AreSeen set before
  pub whole : marks ++ map (at_place place) (kept before rest) ≡ old ++ map (at_place place) (first_of_each all)

pub put_none : (place : ℕ) (seen : BTreeSet Str) (marks : List Mark) (rest all : List (List ℕ)) → seen.keys ≡ []
    → rest ≡ all → IsPut place seen marks marks rest all
put_none place seen marks rest all empty same = record {
  before = [];
  seen = λ text. ap (list_any (is_at (text_cmp text))) empty;
  whole = ap (λ texts. marks ++ map (at_place place) texts) (kept_whole rest ∙ ap first_of_each same);
}

turned : (a b : Bool) → a ≡ not b → b ≡ not a
turned true true e = cc
turned true false e = refl
turned false true e = refl
turned false false e = cc

module _ (place : ℕ) (seen new : BTreeSet Str) (marks old : List Mark) (text : Str) (rest all : List (List ℕ))
    (added : Bool) (put : IsPut place seen marks old (text.now ∷ rest) all)
    (is_new : added ≡ not (contains text_cmp seen text)) where
  there : list_any (bytes_eq text.now) put.before ≡ not added
  there = sym (put.seen text) ∙ turned added _ is_new

  pub put_new : added ≡ true → Updates text_cmp seen new text true → (more : List Mark)
      → more ≡ marks ++ at_place place text.now ∷ [] → IsPut place new more old rest all
  put_new is updates more push = record {
    before = put.before ++ text.now ∷ [];
    seen = seen_more seen new put.before text put.seen updates;
    whole = ap (λ some. some ++ map (at_place place) (kept (put.before ++ text.now ∷ []) rest)) push
        ∙ append_assoc marks (at_place place text.now ∷ []) _
        ∙ ap (λ texts. marks ++ map (at_place place) texts)
        (sym (new_kept put.before text.now rest (there ∙ ap not is)))
        ∙ put.whole;
  }

  pub put_old : added ≡ false → IsUnchanged seen new → IsPut place new marks old rest all
  put_old is same = record {
    before = put.before;
    seen = seen_same seen new put.before put.seen same;
    whole = ap (λ texts. marks ++ map (at_place place) texts)
        (sym (old_kept put.before text.now rest (there ∙ ap not is)))
        ∙ put.whole;
  }

pub cut_text : (texts : List (List ℕ)) (at : ℕ) (item text : List ℕ) → at < length texts → item ≡ get_or texts at item
    → text ≡ item → drop at texts ≡ text ∷ drop (at + 1) texts
cut_text texts at item text within is same =
    let next : suc at ≡ at + 1 = omega arith in
    drop-cons texts at item within
    ∙ ap (λ first. first ∷ drop (suc at) texts) (sym is ∙ sym same)
    ∙ ap (λ count. text ∷ drop count texts) next
