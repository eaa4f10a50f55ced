-- Names, each once, and one more of them.
use Rattle.std.specs.Prelude.{◌≡◌, ◌||◌, ℕ, Bool, true, false, not, List, [], ◌∷◌, ◌++◌, bytes_eq, filter, if◌then◌else◌}
use Rattle.std.specs.BTreeMap.{is_at}
use Rattle.std.specs.BTreeSet.{insert_key}
use Rattle.std.specs.List.{list_any}
use Rattle.std.proofs.Common.{refl, sym, ap, ◌∙◌}
use Rattle.std.proofs.lemmas.Bool.{true≢false}
use Rattle.std.proofs.lemmas.Slice.Eq.{bytes_eq-Decides}
use Rattle.dita_doc.proofs.Lists.{is_other}
use Rattle.dita_doc.proofs.Tests.{text_swaps}
use Rattle.plan_nodes.proofs.TextSetLaws.{Str, has_one, is_one, one_append, order, set_put, texts_push}
use Rattle.key_scopes.specs.Named.{texts}
use Rattle.map_spec.specs.Branches.{each_once}
use Rattle.map_spec.specs.Scopes.{bad_names, good_names, is_good_name}

-- Equal texts

-- A set of texts

abbrev Known : List Str → List (List ℕ) → Type 0
Known keys written = (name : List ℕ) → list_any (bytes_eq name) (texts keys) ≡ list_any (bytes_eq name) written

-- the set with one more
pub known_new : (keys later : List Str) (text : Str) (written : List (List ℕ)) → Known keys written
    → later ≡ insert_key order keys text → Known later (written ++ text.now ∷ [])
known_new keys later text written known put = set_put keys later text written known put

not-not : (b : Bool) → b ≡ not (not b)
not-not true = refl
not-not false = refl

-- whether it was there
pub was_known : (keys : List Str) (text : Str) (written : List (List ℕ)) (added : Bool) → Known keys written
    → added ≡ not (list_any (is_at (order text)) keys) → list_any (bytes_eq text.now) written ≡ not added
was_known keys text written added known is =
    sym (has_one text keys ∙ known text.now) ∙ not-not _ ∙ ap not (sym is)

-- one that was there changes nothing
or-same : (a b c : Bool) → b ≡ true → (a ≡ true → c ≡ b) → c ≡ (c || (a || false))
or-same true true c one same = ap (λ d. d) (same refl) ∙ sym (ap (λ d. d || true) (same refl))
or-same true false c one same = absurd (true≢false (sym one))
or-same false b true one same = refl
or-same false b false one same = refl

pub known_again : (keys later : List Str) (text : Str) (written : List (List ℕ)) → Known keys written
    → later ≡ keys → list_any (bytes_eq text.now) written ≡ true → Known later (written ++ text.now ∷ [])
known_again keys later text written known same there = λ t.
    ap (λ some. is_one t (texts some)) same ∙ known t
    ∙ or-same (bytes_eq t text.now) (is_one text.now written) (is_one t written) there
    (λ e. ap (λ n. is_one n written) ((bytes_eq-Decides t text.now).0 e))
    ∙ sym (one_append t written (text.now ∷ []))

-- Each once

filter-push : (p : List ℕ → Bool) (names : List (List ℕ)) (x : List ℕ)
    → filter p (names ++ x ∷ []) ≡ (if p x then filter p names ++ x ∷ [] else filter p names)
filter-push p [] x = by_one (p x) refl
  where
    by_one : (a : Bool) → p x ≡ a → filter p (x ∷ []) ≡ (if p x then x ∷ [] else [])
    by_one true e = simp e refl
    by_one false e = simp e refl
filter-push p (name ∷ names) x = by_two (filter-push p names x) (p name) (p x) refl refl
  where
    by_two : filter p (names ++ x ∷ []) ≡ (if p x then filter p names ++ x ∷ [] else filter p names)
        → (a b : Bool) → p name ≡ a → p x ≡ b
        → filter p (name ∷ names ++ x ∷ [])
        ≡ (if p x then filter p (name ∷ names) ++ x ∷ [] else filter p (name ∷ names))
    by_two behind true true e f = simp (e, f, behind) refl
    by_two behind true false e f = simp (e, f, behind) refl
    by_two behind false true e f = simp (e, f, behind) refl
    by_two behind false false e f = simp (e, f, behind) refl

abbrev one_more : List (List ℕ) → List ℕ → Bool → List (List ℕ)
one_more names x there = if there then each_once names else each_once names ++ x ∷ []

once-push : (names : List (List ℕ)) (x : List ℕ)
    → each_once (names ++ x ∷ []) ≡ one_more names x (list_any (bytes_eq x) names)
once-push [] x = refl
once-push (name ∷ names) x =
    ap (λ some. name ∷ filter (is_other name) some) (once-push names x)
    ∙ by_two (bytes_eq x name) (list_any (bytes_eq x) names) refl
  where
    by_two : (a b : Bool) → bytes_eq x name ≡ a
        → name ∷ filter (is_other name) (one_more names x b) ≡ one_more (name ∷ names) x (a || b)
    by_two true true e = refl
    by_two true false e =
        let same : bytes_eq name x ≡ true = text_swaps name x ∙ e in
        ap (λ more. name ∷ more) (filter-push (is_other name) (each_once names) x ∙ rw same refl)
    by_two false true e = refl
    by_two false false e =
        let same : bytes_eq name x ≡ false = text_swaps name x ∙ e in
        ap (λ more. name ∷ more) (filter-push (is_other name) (each_once names) x ∙ rw same refl)

any-filter : (p : List ℕ → Bool) (names : List (List ℕ)) (x : List ℕ) → p x ≡ true
    → list_any (bytes_eq x) (filter p names) ≡ list_any (bytes_eq x) names
any-filter p [] x good = refl
any-filter p (name ∷ names) x good = by_two (any-filter p names x good) (bytes_eq x name) (p name) refl refl
  where
    by_two : list_any (bytes_eq x) (filter p names) ≡ list_any (bytes_eq x) names → (a b : Bool)
        → bytes_eq x name ≡ a → p name ≡ b
        → list_any (bytes_eq x) (filter p (name ∷ names)) ≡ list_any (bytes_eq x) (name ∷ names)
    by_two behind true true e f = simp (e, f) refl
    by_two behind true false e f =
        absurd (true≢false (sym good ∙ ap p ((bytes_eq-Decides x name).0 e) ∙ f))
    by_two behind false true e f = simp (e, f) behind
    by_two behind false false e f = simp (e, f) behind

-- the names that a test passes, each once, with one more
pub once_new : (p : List ℕ → Bool) (names : List (List ℕ)) (x : List ℕ) → p x ≡ true
    → list_any (bytes_eq x) names ≡ false → each_once (filter p (names ++ x ∷ []))
    ≡ each_once (filter p names) ++ x ∷ []
once_new p names x good new =
    ap each_once (filter-push p names x ∙ ap (λ b. if b then filter p names ++ x ∷ [] else filter p names) good)
    ∙ once-push (filter p names) x ∙ ap (one_more (filter p names) x) (any-filter p names x good ∙ new)

-- one that does not pass it
pub once_without : (p : List ℕ → Bool) (names : List (List ℕ)) (x : List ℕ) → p x ≡ false
    → each_once (filter p (names ++ x ∷ [])) ≡ each_once (filter p names)
once_without p names x bad =
    ap each_once (filter-push p names x ∙ ap (λ b. if b then filter p names ++ x ∷ [] else filter p names) bad)

-- one that is there
pub once_again : (p : List ℕ → Bool) (names : List (List ℕ)) (x : List ℕ)
    → list_any (bytes_eq x) names ≡ true → each_once (filter p (names ++ x ∷ [])) ≡ each_once (filter p names)
once_again p names x there = by_one (p x) refl
  where
    by_one : (a : Bool) → p x ≡ a → each_once (filter p (names ++ x ∷ [])) ≡ each_once (filter p names)
    by_one false e = once_without p names x e
    by_one true e =
        ap each_once (filter-push p names x ∙ ap (λ b. if b then filter p names ++ x ∷ [] else filter p names) e)
        ∙ once-push (filter p names) x ∙ ap (one_more (filter p names) x) (any-filter p names x e ∙ there)

-- one more good name, or bad one
pub good_more : (written : List (List ℕ)) (old new : List Str) (name : Str) → texts old ≡ good_names written
    → is_good_name name.now ≡ true → list_any (bytes_eq name.now) written ≡ false → new ≡ old ++ name ∷ []
    → texts new ≡ good_names (written ++ name.now ∷ [])
good_more written old new name are good other more =
    ap texts more ∙ texts_push old name ∙ ap (λ some. some ++ name.now ∷ []) are
    ∙ sym (once_new is_good_name written name.now good other)

pub bad_more : (written : List (List ℕ)) (old new : List Str) (name : Str) → texts old ≡ bad_names written
    → is_good_name name.now ≡ false → list_any (bytes_eq name.now) written ≡ false → new ≡ old ++ name ∷ []
    → texts new ≡ bad_names (written ++ name.now ∷ [])
bad_more written old new name are bad other more =
    ap texts more ∙ texts_push old name ∙ ap (λ some. some ++ name.now ∷ []) are
    ∙ sym (once_new (λ some. not (is_good_name some)) written name.now (ap not bad) other)
