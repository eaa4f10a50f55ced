-- Lists: what stands at their places, what a filter leaves, and whether any element passes.
use Rattle.std.specs.BTreeSet.{insert_key}
use Rattle.std.specs.Borrow.{Bor}
use Rattle.std.specs.Cmp.Lexicographic.{slice_cmp}
use Rattle.std.specs.List.{filter_map, list_all, list_any}
use Rattle.std.specs.Option.{option_copied, option_or, option_to_list}
use Rattle.std.specs.Ordering.{match_ordering, nat_cmp}
use Rattle.std.specs.Prelude.{Bool, Err, List, None, Ok, OnErr, OnOk, Option, Result, Some, bytes_eq, false, filter, map, not, slice_get, suc, true, unwrap_or, zero, ℕ, ◌&&◌, ◌++◌, ◌<◌, ◌||◌, ◌∷◌, ◌≡◌, []}
use Rattle.std.proofs.Common.{Equal, Greater, Less, Ordering, ap, append_assoc, arith, get_or, length, refl, sym, ◌∙◌}
use Rattle.std.proofs.lemmas.Bool.{and_parts}
use Rattle.std.proofs.lemmas.Option.{none-some}
use Rattle.dita_doc.proofs.NameOrder.{same_from_equal}
use Rattle.dita_doc.proofs.Tests.{or_again, or_four, or_moves}

-- What stands at a place

pub get_pushed : {X : Type 0} (xs : List X) (x : X) → slice_get (xs ++ x ∷ []) (length xs) ≡ Some x
get_pushed [] x = refl
get_pushed (first ∷ xs) x = get_pushed xs x

pub get_front : {X : Type 0} (xs ys : List X) (at : ℕ) (x : X) → slice_get xs at ≡ Some x
    → slice_get (xs ++ ys) at ≡ Some x
get_front [] ys at x e = absurd (none-some x e)
get_front (first ∷ xs) ys zero x e = e
get_front (first ∷ xs) ys (suc at) x e = get_front xs ys at x e

pub some_at : {X : Type 0} (xs : List X) (at : ℕ) → at < length xs → (x : X) × (slice_get xs at ≡ Some x)
some_at [] at within = absurd (omega arith)
some_at (x ∷ xs) zero within = (x, refl)
some_at (x ∷ xs) (suc at) within = some_at xs at (omega arith)

-- what was read at a place
pub get_read : {X : Type 0} (xs : List X) (at : ℕ) (x : X) → at < length xs → x ≡ get_or xs at x
    → slice_get xs at ≡ Some x
get_read [] at x below is = absurd (omega arith)
get_read (first ∷ xs) zero x below is = ap Some (sym is)
get_read (first ∷ xs) (suc at) x below is = get_read xs at x (omega arith) is

-- What a filter leaves

pub filter_every : {X : Type 0} (p : X → Bool) → ((x : X) → p x ≡ true) → (xs : List X) → filter p xs ≡ xs
filter_every p each [] = refl
filter_every p each (x ∷ xs) = rw (each x) (ap (λ l. x ∷ l) (filter_every p each xs))

pub filter_none : {X : Type 0} (q : X → Bool) → ((x : X) → q x ≡ false) → (xs : List X) → filter q xs ≡ []
filter_none q none [] = refl
filter_none q none (x ∷ xs) = rw (none x) (filter_none q none xs)

-- what two tests leave, by one that is both
pub filter_both : {X : Type 0} (p q r : X → Bool) → ((x : X) → (q x && p x) ≡ r x) → (xs : List X)
    → filter p (filter q xs) ≡ filter r xs
filter_both p q r same [] = refl
filter_both p q r same (x ∷ xs) = by_test (filter_both p q r same xs) (q x) (p x) refl refl
  where
    by_test : filter p (filter q xs) ≡ filter r xs → (a b : Bool) → q x ≡ a → p x ≡ b
        → filter p (filter q (x ∷ xs)) ≡ filter r (x ∷ xs)
    by_test behind true true e f =
        let is : r x ≡ true = sym (same x) ∙ rw (e, f) refl in simp (e, f, is, behind) refl
    by_test behind true false e f =
        let is : r x ≡ false = sym (same x) ∙ rw (e, f) refl in simp (e, f, is, behind) refl
    by_test behind false b e f =
        let is : r x ≡ false = sym (same x) ∙ rw e refl in simp (e, is, behind) refl

pub one_found : {X Y : Type 0} (f : X → Option Y) (x : X) (found : Option Y) → f x ≡ found
    → filter_map f (x ∷ []) ≡ option_to_list found
one_found f x None is = rw is refl
one_found f x (Some y) is = rw is refl

-- Whether any passes

pub any_like : {X : Type 0} (p q : X → Bool) → ((x : X) → p x ≡ q x) → (xs : List X) → list_any p xs ≡ list_any q xs
any_like p q each [] = refl
any_like p q each (x ∷ xs) = (λ i. each x i || any_like p q each xs i)

pub any_never : {X : Type 0} (p : X → Bool) → ((x : X) → p x ≡ false) → (xs : List X) → list_any p xs ≡ false
any_never p each [] = refl
any_never p each (x ∷ xs) = (λ i. each x i || any_never p each xs i)

pub any_map : {X Y : Type 0} (p : Y → Bool) (f : X → Y) (xs : List X)
    → list_any p (map f xs) ≡ list_any (λ x. p (f x)) xs
any_map p f [] = refl
any_map p f (x ∷ xs) = ap (λ b. p (f x) || b) (any_map p f xs)

-- one more element behind
pub any_push : {X : Type 0} (p : X → Bool) (xs : List X) (x : X)
    → list_any p (xs ++ x ∷ []) ≡ (p x || list_any p xs)
any_push p [] x = refl
any_push p (first ∷ xs) x = or_moves (p first) (p x) (list_any p xs) _ (any_push p xs x)

-- one more text in a set
pub any_put : (p : List ℕ → Bool) (word : List ℕ) (keys : List (List ℕ))
    → list_any p (insert_key (slice_cmp nat_cmp) keys word) ≡ (p word || list_any p keys)
any_put p word [] = refl
any_put p word (key ∷ keys) = by_order (any_put p word keys) (slice_cmp nat_cmp word key) refl
  where
    by_order : list_any p (insert_key (slice_cmp nat_cmp) keys word) ≡ (p word || list_any p keys) → (o : Ordering)
        → slice_cmp nat_cmp word key ≡ o
        → list_any p (match_ordering o (word ∷ key ∷ keys) (key ∷ keys)
        (key ∷ insert_key (slice_cmp nat_cmp) keys word))
        ≡ (p word || list_any p (key ∷ keys))
    by_order behind Less e = refl
    by_order behind Equal e = or_again (p word) (p key) (list_any p keys) (ap p (same_from_equal word key e))
    by_order behind Greater e = or_moves (p key) (p word) (list_any p keys) _ behind

-- what passes for all passes for each
pub each_passes : {X : Type 0} (test : X → Bool) (xs : List X) (at : ℕ) (x : X) → list_all test xs ≡ true
    → slice_get xs at ≡ Some x → test x ≡ true
each_passes test [] at x all is = cc
each_passes test (first ∷ xs) zero x all is =
    let same : first ≡ x = cc in
    ap test (sym same) ∙ (and_parts (test first) (list_all test xs) all).0
each_passes test (first ∷ xs) (suc at) x all is =
    each_passes test xs at x (and_parts (test first) (list_all test xs) all).1 is

pub any_or : {X : Type 0} (p q : X → Bool) (xs : List X)
    → list_any (λ x. p x || q x) xs ≡ (list_any p xs || list_any q xs)
any_or p q [] = refl
any_or p q (x ∷ xs) =
    ap (λ b. (p x || q x) || b) (any_or p q xs) ∙ or_four (p x) (q x) (list_any p xs) (list_any q xs)

pub any_swap : {X Y : Type 0} (r : X → Y → Bool) (xs : List X) (ys : List Y)
    → list_any (λ x. list_any (r x) ys) xs ≡ list_any (λ y. list_any (λ x. r x y) xs) ys
any_swap r [] ys = sym (any_never (λ y. false) (λ y. refl) ys)
any_swap r (x ∷ xs) ys =
    ap (λ b. list_any (r x) ys || b) (any_swap r xs ys) ∙ sym (any_or (r x) (λ y. list_any (λ z. r z y) xs) ys)

-- Options and results

pub option_or_none : {X : Type 0} (a : Option X) → option_or a None ≡ a
option_or_none None = refl
option_or_none (Some a) = refl

pub on_ok : {T E : Type 0} (P Q : Type 0) (result : Result T E) → (P → Q) → OnOk result P → OnOk result Q
on_ok P Q (Ok value) make p = make p
on_ok P Q (Err error) make p = tt

pub on_err : {T E P : Type 0} (result : Result T E) → P → OnErr result P
on_err (Ok value) holds = tt
on_err (Err stop) holds = holds

-- a text where it stands, or another, is this text or the other
pub read_or : (value : Option (Bor (List ℕ))) (other : Bor (List ℕ))
    → (unwrap_or value other).now ≡ unwrap_or (option_copied value) other.now
read_or None other = refl
read_or (Some text) other = refl

pub no_more : {X : Type 0} (xs : List X) (size : ℕ) → size ≡ length xs → size ≡ 0 → xs ≡ []
no_more [] size same none = refl
no_more (x ∷ xs) size same none = absurd (omega arith)

-- Lists one behind the other

pub joined_four : (start inside ends more : List ℕ)
    → start ++ inside ++ ends ++ more ≡ start ++ (inside ++ (ends ++ more))
joined_four start inside ends more = simp append_assoc

pub joined_five : (a title b list c : List ℕ) → a ++ title ++ b ++ list ++ c ≡ a ++ (title ++ (b ++ (list ++ c)))
joined_five a title b list c = simp append_assoc

-- Tests of names

abbrev pub is_other : List ℕ → List ℕ → Bool
is_other name each = not (bytes_eq name each)

abbrev pub is_unseen : List (List ℕ) → List ℕ → Bool
is_unseen names name = not (list_any (bytes_eq name) names)

-- a name is taken
abbrev pub is_in : List (List ℕ) → List ℕ → Bool
is_in taken name = list_any (bytes_eq name) taken
