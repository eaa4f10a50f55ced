-- A set of texts, and one more of them.
use Rattle.std.specs.Prelude.{◌≡◌, ◌||◌, ℕ, Bool, List, [], ◌∷◌, ◌++◌, bytes_eq, map}
use Rattle.std.specs.Borrow.{Bor}
use Rattle.std.specs.BTreeMap.{is_at}
use Rattle.std.specs.BTreeSet.{insert_key}
use Rattle.std.specs.Cmp.Lexicographic.{slice_cmp}
use Rattle.std.specs.List.{list_any}
use Rattle.std.specs.Ordering.{match_ordering, nat_cmp}
use Rattle.std.proofs.Common.{Ordering, Less, Equal, Greater, refl, sym, ap, ◌∙◌}
use Rattle.std.proofs.lemmas.List.{map-append}
use Rattle.std.proofs.lemmas.Map.Text.{is_eq-slice_cmp}
use Rattle.dita_doc.proofs.NameOrder.{same_from_equal}
use Rattle.dita_doc.proofs.Tests.{or_assoc, or_last, or_swap, or_twice}

abbrev pub Str : Type 0
Str = Bor (List ℕ)

abbrev pub order : Str → Str → Ordering
order a b = slice_cmp nat_cmp a.now b.now

abbrev texts : List Str → List (List ℕ)
texts keys = map (λ (text : Str). text.now) keys

abbrev pub is_one : List ℕ → List (List ℕ) → Bool
is_one text all = list_any (bytes_eq text) all

pub one_append : (text : List ℕ) (xs ys : List (List ℕ))
    → is_one text (xs ++ ys) ≡ (is_one text xs || is_one text ys)
one_append text [] ys = refl
one_append text (x ∷ xs) ys =
    ap (λ b. bytes_eq text x || b) (one_append text xs ys)
    ∙ sym (or_assoc (bytes_eq text x) (is_one text xs) (is_one text ys))

placed : (text : List ℕ) (k x : Str) (keys more : List Str) (o : Ordering) → order k x ≡ o
    → is_one text (texts more) ≡ (bytes_eq text k.now || is_one text (texts keys))
    → is_one text (texts (match_ordering o (k ∷ x ∷ keys) (x ∷ keys) (x ∷ more)))
    ≡ (bytes_eq text k.now || is_one text (texts (x ∷ keys)))
placed text k x keys more Less is rest = refl
placed text k x keys more Equal is rest =
    or_twice (bytes_eq text x.now) (is_one text (texts keys))
    ∙ ap (λ name. bytes_eq text name || (bytes_eq text x.now || is_one text (texts keys)))
    (sym (same_from_equal k.now x.now is))
placed text k x keys more Greater is rest =
    ap (λ b. bytes_eq text x.now || b) rest
    ∙ or_swap (bytes_eq text x.now) (bytes_eq text k.now) (is_one text (texts keys))

one_insert : (text : List ℕ) (k : Str) (keys : List Str)
    → is_one text (texts (insert_key order keys k)) ≡ (bytes_eq text k.now || is_one text (texts keys))
one_insert text k [] = refl
one_insert text k (x ∷ keys) =
    placed text k x keys (insert_key order keys k) (order k x) refl (one_insert text k keys)

-- whether the set has it
pub has_one : (k : Str) (keys : List Str) → list_any (is_at (order k)) keys ≡ is_one k.now (texts keys)
has_one k [] = refl
has_one k (x ∷ keys) =
    ap (λ b. b || list_any (is_at (order k)) keys) (is_eq-slice_cmp k.now x.now)
    ∙ ap (λ b. bytes_eq k.now x.now || b) (has_one k keys)

-- the set of some texts, with one more
pub set_put : (keys later : List Str) (text : Str) (all : List (List ℕ))
    → ((t : List ℕ) → is_one t (texts keys) ≡ is_one t all) → later ≡ insert_key order keys text
    → (t : List ℕ) → is_one t (texts later) ≡ is_one t (all ++ text.now ∷ [])
set_put keys later text all known put t =
    ap (λ some. is_one t (texts some)) put ∙ one_insert t text keys
    ∙ ap (λ b. bytes_eq t text.now || b) (known t)
    ∙ or_last (bytes_eq t text.now) (is_one t all)
    ∙ sym (one_append t all (text.now ∷ []))

pub texts_push : (some : List Str) (text : Str) → texts (some ++ text ∷ []) ≡ texts some ++ text.now ∷ []
texts_push some text = map-append (λ (each : Str). each.now) some (text ∷ [])
