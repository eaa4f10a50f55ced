-- Names that are taken one after another are each taken once, in order.
use Rattle.std.specs.Prelude.{◌≡◌, ◌&&◌, ◌||◌, ℕ, Bool, true, false, not, List, [], ◌∷◌, ◌++◌, bytes_eq, filter, if◌then◌else◌}
use Rattle.std.specs.List.{list_any}
use Rattle.std.specs.Borrow.{Bor}
use Rattle.std.specs.BTreeSet.{Updates, IsUnchanged}
use Rattle.std.specs.BTreeMap.{is_at}
use Rattle.std.proofs.Common.{refl, sym, ◌∙◌, ap, subst, append_assoc}
use Rattle.std.proofs.lemmas.List.{append-nil}
use Rattle.std.proofs.lemmas.List.Elements.{filter_agree}
use Rattle.std.proofs.lemmas.List.Folds.{list_any-append}
use Rattle.std.proofs.lemmas.Map.Text.{is_eq-slice_cmp}
use Rattle.std.proofs.lemmas.Slice.Eq.{bytes_eq-Decides}
use Rattle.dita_doc.proofs.Lists.{is_in, is_other as differs}
use Rattle.dita_doc.proofs.Tests.{text_swaps}
use Rattle.ditaval_rules.specs.Domains.{is_new, first_of_each}
use Rattle.ditaval_rules.specs.Names.{text_order, AreNames, with_name}
use Rattle.ditaval_rules.specs.declared.domains.Names.{Names}

-- Equal texts

-- Filters

filter_twice : {X : Type 0} (p q : X → Bool) (xs : List X)
    → filter p (filter q xs) ≡ filter (λ x. q x && p x) xs
filter_twice p q [] = refl
filter_twice p q (x ∷ xs) = by_cases (filter_twice p q xs) (q x) (p x) refl refl
  where
    by_cases : filter p (filter q xs) ≡ filter (λ y. q y && p y) xs → (a b : Bool) → q x ≡ a → p x ≡ b
        → filter p (filter q (x ∷ xs)) ≡ filter (λ y. q y && p y) (x ∷ xs)
    by_cases more true true e f = simp (e, f) (ap (λ l. x ∷ l) more)
    by_cases more true false e f = simp (e, f) more
    by_cases more false b e f = simp e more

-- One name after another

abbrev pub with_all : List (List ℕ) → List (List ℕ) → List (List ℕ)
with_all names [] = names
with_all names (name ∷ more) = with_all (with_name names name) more

abbrev is_other : List (List ℕ) → List ℕ → Bool
is_other names name = not (is_in names name)

-- the names that count, each once
abbrev counted : List (List ℕ) → List (List ℕ)
counted more = first_of_each (filter is_new more)

-- a name that is there makes no difference
there : (names : List (List ℕ)) (name other : List ℕ) → is_in names name ≡ true
    → (differs name other && is_other names other) ≡ is_other names other
there names name other among = by_cases (bytes_eq name other) refl
  where
    by_cases : (same : Bool) → bytes_eq name other ≡ same
        → (differs name other && is_other names other) ≡ is_other names other
    by_cases true e =
        let is : is_in names other ≡ true = subst (λ n. is_in names n ≡ true)
        ((bytes_eq-Decides name other).0 e) among in
        rw (e, is) refl
    by_cases false e = rw e refl

not_both : (a b : Bool) → (not a && not b) ≡ not (b || (a || false))
not_both true true = refl
not_both true false = refl
not_both false true = refl
not_both false false = refl

-- one that is not there does
here : (names : List (List ℕ)) (name other : List ℕ)
    → (differs name other && is_other names other) ≡ is_other (names ++ name ∷ []) other
here names name other =
    not_both (bytes_eq name other) (is_in names other)
    ∙ ap (λ b. not (is_in names other || (b || false))) (text_swaps name other)
    ∙ ap not (sym (list_any-append (bytes_eq other) names (name ∷ [])))

counted_from : (names more : List (List ℕ)) → with_all names more ≡ names ++ filter (is_other names) (counted more)
counted_from names [] = sym (append-nil names)
counted_from names (name ∷ more) =
    by_cases (counted_from names more) (counted_from (names ++ name ∷ []) more) (is_new name) (is_in names name) refl
    refl
  where
    by_cases : with_all names more ≡ names ++ filter (is_other names) (counted more)
        → with_all (names ++ name ∷ []) more
        ≡ (names ++ name ∷ []) ++ filter (is_other (names ++ name ∷ [])) (counted more)
        → (new among : Bool) → is_new name ≡ new → is_in names name ≡ among
        → with_all names (name ∷ more) ≡ names ++ filter (is_other names) (counted (name ∷ more))
    by_cases same longer false among e f = simp e same
    by_cases same longer true true e f =
        simp (e, f) (same
        ∙ ap (λ l. names ++ l) (sym (filter_twice (is_other names) (differs name) (counted more)
        ∙ filter_agree _ (is_other names) (λ other. there names name other f) (counted more))))
    by_cases same longer true false e f =
        simp (e, f) (longer
        ∙ append_assoc names (name ∷ []) _
        ∙ ap (λ l. names ++ name ∷ l) (sym (filter_twice (is_other names) (differs name) (counted more)
        ∙ filter_agree _ (is_other (names ++ name ∷ [])) (λ other. here names name other) (counted more))))

pub filter_all : {X : Type 0} (xs : List X) → filter (λ x. true) xs ≡ xs
filter_all [] = refl
filter_all (x ∷ xs) = ap (λ l. x ∷ l) (filter_all xs)

-- from none on it is the definition
pub all_counted : (more : List (List ℕ)) → with_all [] more ≡ first_of_each (filter is_new more)
all_counted more = counted_from [] more ∙ filter_all (counted more)

pub with_both : (names some more : List (List ℕ)) → with_all names (some ++ more) ≡ with_all (with_all names some) more
with_both names [] more = refl
with_both names (name ∷ some) more = with_both (with_name names name) some more

-- The set beside the list

last_or_first : (one any : Bool) → (if one then true else any) ≡ (any || (one || false))
last_or_first true true = refl
last_or_first true false = refl
last_or_first false true = refl
last_or_first false false = refl

pub names_more : (old new : Names) (name : Bor (List ℕ)) → AreNames old
    → Updates text_order old.seen new.seen name true → new.list ≡ old.list ++ name.now ∷ [] → AreNames new
names_more old new name are updates list key =
    updates.0 key
    ∙ rw (
      is_eq-slice_cmp name.now key.now,
      are key,
      list,
      list_any-append (bytes_eq key.now) old.list
          (name.now ∷ []),
      text_swaps name.now key.now,
    )
    (last_or_first (bytes_eq key.now name.now) (list_any (bytes_eq key.now) old.list))

pub names_same : (old new : Names) → AreNames old → IsUnchanged old.seen new.seen → new.list ≡ old.list → AreNames new
names_same old new are same list key =
    ap (λ keys. list_any (is_at (text_order key)) keys) same ∙ are key ∙ ap (list_any (bytes_eq key.now)) (sym list)

-- a name that was put there makes no difference
pub with_twice : (names : List (List ℕ)) (name : List ℕ) → with_name (with_name names name) name ≡ with_name names name
with_twice names name = by_cases (is_new name) (is_in names name) refl refl
  where
    itself : bytes_eq name name ≡ true
    itself = (bytes_eq-Decides name name).1 refl

    by_cases : (new among : Bool) → is_new name ≡ new → is_in names name ≡ among
        → with_name (with_name names name) name ≡ with_name names name
    by_cases false among e f = simp e refl
    by_cases true true e f = simp (e, f) refl
    by_cases true false e f =
        let one : is_in (names ++ name ∷ []) name ≡ true =
        list_any-append (bytes_eq name) names (name ∷ []) ∙ ap (λ b. b || (bytes_eq name name || false)) f
        ∙ ap (λ b. b || false) itself in
        simp (e, f, one) refl
