-- What tells pages apart, as an order of keys: two keys are equal exactly where the pages are the same.
use Rattle.std.specs.Prelude.{◌≡◌, ◌&&◌, ◌||◌, ◌==◌, ℕ, Bool, true, List, [], ◌∷◌, bytes_eq}
use Rattle.std.specs.BTreeSet.{insert_key}
use Rattle.std.specs.Cmp.Lexicographic.{slice_cmp}
use Rattle.std.specs.FinMap.{nat_cmp-IsAntisymmetric}
use Rattle.std.specs.List.{list_any}
use Rattle.std.specs.Ordering.{is_eq, match_ordering, nat_cmp}
use Rattle.std.proofs.Common.{Ordering, Less, Equal, Greater, refl, sym, ap, ◌∙◌}
use Rattle.std.proofs.lemmas.Map.Text.{is_eq-slice_cmp}
use Rattle.dita_doc.proofs.NameOrder.{same_from_equal}
use Rattle.dita_doc.proofs.Orders.{both_equal, equal_test, numbers_same}
use Rattle.dita_doc.proofs.Tests.{and_assoc, by_truth, or_again, or_moves}
use Rattle.dita_doc.specs.declared.plan.PageId.{PageId}
use Rattle.map_spec.specs.Pages.{are_same_affixes, are_same_texts, is_same_page}
use Rattle.page_names.specs.PageUses.{key_of, order}
use Rattle.page_names.specs.declared.page_uses.PageKey.{PageKey}
use Rattle.plan_nodes.proofs.OrderLaws.{affixes_same, texts_equal, texts_same, then_is}

-- two keys are equal where the pages are the same
pub keys_same : (a b : PageId) → is_eq (order (key_of a) (key_of b)) ≡ is_same_page a b
keys_same a b =
    then_is (slice_cmp nat_cmp a.doc b.doc) _
    ∙ ap (λ t. is_eq (slice_cmp nat_cmp a.doc b.doc) && t) (
    then_is (nat_cmp a.scope b.scope) _
    ∙ ap (λ t. is_eq (nat_cmp a.scope b.scope) && t) (
    then_is (slice_cmp (slice_cmp nat_cmp) a.filters b.filters) _
    ∙ ap (λ t. is_eq (slice_cmp (slice_cmp nat_cmp) a.filters b.filters) && t) (affixes_same a.affixes b.affixes)
    ∙ ap (λ t. t && are_same_affixes a.affixes b.affixes) (texts_same a.filters b.filters))
    ∙ ap (λ t. t && (are_same_texts a.filters b.filters && are_same_affixes a.affixes b.affixes))
    (numbers_same a.scope b.scope))
    ∙ ap (λ t. t && ((a.scope == b.scope) && (are_same_texts a.filters b.filters
    && are_same_affixes a.affixes b.affixes)))
    (is_eq-slice_cmp a.doc b.doc)
    ∙ ap (λ t. bytes_eq a.doc b.doc && t)
    (and_assoc (a.scope == b.scope) (are_same_texts a.filters b.filters) (are_same_affixes a.affixes b.affixes))

abbrev key : List ℕ → ℕ → List (List ℕ) → List (List ℕ) → PageKey
key doc scope filters affixes = record { doc = doc; scope = scope; filters = filters; affixes = affixes }

pub equal_keys : (a b : PageKey) → order a b ≡ Equal → a ≡ b
equal_keys a b same =
    let one = both_equal (slice_cmp nat_cmp a.doc b.doc) _ same in
    let two = both_equal (nat_cmp a.scope b.scope) _ one.1 in
    let three = both_equal (slice_cmp (slice_cmp nat_cmp) a.filters b.filters) _ two.1 in
    ap (λ doc. key doc a.scope a.filters a.affixes) (same_from_equal a.doc b.doc one.0)
    ∙ ap (λ scope. key b.doc scope a.filters a.affixes) (nat_cmp-IsAntisymmetric a.scope b.scope two.0)
    ∙ ap (λ filters. key b.doc b.scope filters a.affixes) (texts_equal a.filters b.filters three.0)
    ∙ ap (λ affixes. key b.doc b.scope b.filters affixes) (texts_equal a.affixes b.affixes three.1)

same_keys : (a b : PageId) → is_same_page a b ≡ true → key_of a ≡ key_of b
same_keys a b same = equal_keys (key_of a) (key_of b) (equal_test (order (key_of a) (key_of b)) (keys_same a b ∙ same))

-- pages that are the same as one are the same
pub same_through : (a b c : PageId) → is_same_page a b ≡ true → is_same_page b c ≡ true → is_same_page a c ≡ true
same_through a b c one two =
    sym (keys_same a c) ∙ ap (λ k. is_eq (order k (key_of c))) (same_keys a b one) ∙ keys_same b c ∙ two

pub same_turned : (a b : PageId) → is_same_page a b ≡ is_same_page b a
same_turned a b = by_truth (is_same_page a b) (is_same_page b a) (λ e. back a b e) (λ e. back b a e)
  where
    back : (a b : PageId) → is_same_page a b ≡ true → is_same_page b a ≡ true
    back a b e =
        sym (keys_same b a) ∙ ap (λ k. is_eq (order (key_of b) k)) (same_keys a b e)
        ∙ ap (λ k. is_eq (order k (key_of b))) (sym (same_keys a b e)) ∙ keys_same a b ∙ e

-- Keys in a set

pub any_key_put : (p : PageKey → Bool) (k : PageKey) (keys : List PageKey)
    → list_any p (insert_key order keys k) ≡ (p k || list_any p keys)
any_key_put p k [] = refl
any_key_put p k (first ∷ keys) = by_order (any_key_put p k keys) (order k first) refl
  where
    by_order : list_any p (insert_key order keys k) ≡ (p k || list_any p keys) → (o : Ordering) → order k first ≡ o
        → list_any p (match_ordering o (k ∷ first ∷ keys) (first ∷ keys) (first ∷ insert_key order keys k))
        ≡ (p k || list_any p (first ∷ keys))
    by_order behind Less e = refl
    by_order behind Equal e = or_again (p k) (p first) (list_any p keys) (ap p (equal_keys k first e))
    by_order behind Greater e = or_moves (p first) (p k) (list_any p keys) _ behind
