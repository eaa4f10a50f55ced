-- The places of names.
use Rattle.std.specs.Prelude.{◌≡◌, ◌<◌, ℕ, zero, suc, Bool, true, false, List, [], ◌∷◌, ◌++◌, Option, Some, None, IfSome, cond, length, slice_get}
use Rattle.std.specs.BTreeMap.{is_at}
use Rattle.std.specs.Cmp.Lexicographic.{slice_cmp}
use Rattle.std.specs.Ordering.{is_eq, nat_cmp}
use Rattle.std.proofs.Common.{◌⊎◌, inl, inr, refl, sym, ◌∙◌, ap, subst, arith, append_assoc}
use Rattle.std.proofs.lemmas.List.{append-nil}
use Rattle.std.proofs.lemmas.Option.{none-some, same_Some}
use Rattle.dita_doc.proofs.Lists.{get_pushed}
use Rattle.dita_doc.proofs.NameOrder.{equal_itself}
use Rattle.dita_doc.proofs.Orders.{same_at}
use Rattle.readers.specs.Named.{name_at}
use Rattle.doc_maker.specs.Origins.{ArePlaces, EachOnce, IsAbsent, Longer, origin_place}

-- More names

pub longer_same : (names : List (List ℕ)) → Longer names names
longer_same names = record { more = []; is = sym (append-nil names) }

pub longer_equal : (names longer : List (List ℕ)) → longer ≡ names → Longer names longer
longer_equal names longer is = record { more = []; is = is ∙ sym (append-nil names) }

pub longer_more : (names longer longest : List (List ℕ)) → Longer names longer → Longer longer longest
    → Longer names longest
longer_more names longer longest one two = record {
  more = one.more ++ two.more;
  is = two.is ∙ ap (λ ns. ns ++ two.more) one.is ∙ append_assoc names one.more two.more;
}

-- a name stays at its place
pub stays_in_front : (names more : List (List ℕ)) (place : ℕ) (name : List ℕ) → slice_get names place ≡ Some name
    → slice_get (names ++ more) place ≡ Some name
stays_in_front [] more place name is = absurd (none-some name is)
stays_in_front (first ∷ names) more zero name is = is
stays_in_front (first ∷ names) more (suc place) name is = stays_in_front names more place name is

pub stays : (names longer : List (List ℕ)) (place : ℕ) (name : List ℕ) → Longer names longer
    → slice_get names place ≡ Some name → slice_get longer place ≡ Some name
stays names longer place name grown is =
    subst (λ ns. slice_get ns place ≡ Some name) (sym grown.is) (stays_in_front names grown.more place name is)

named_in_front : (names more : List (List ℕ)) (place : ℕ) → place < length names
    → name_at (names ++ more) place ≡ name_at names place
named_in_front [] more place inside = absurd (omega arith)
named_in_front (first ∷ names) more zero inside = refl
named_in_front (first ∷ names) more (suc place) inside = named_in_front names more place (omega arith)

pub named_still : (names longer : List (List ℕ)) (place : ℕ) → Longer names longer → place < length names
    → name_at longer place ≡ name_at names place
named_still names longer place grown inside =
    ap (λ ns. name_at ns place) grown.is ∙ named_in_front names grown.more place inside

-- One name more

-- it is the name that stands at a place, or another stood there before
among_pushed : (names : List (List ℕ)) (name other : List ℕ) (place : ℕ)
    → slice_get (names ++ name ∷ []) place ≡ Some other
    → (slice_get names place ≡ Some other) ⊎ ((name ≡ other) × (length names ≡ place))
among_pushed [] name other zero is = inr (same_Some name other is, refl)
among_pushed [] name other (suc place) is = absurd (none-some other is)
among_pushed (first ∷ names) name other zero is = inl is
among_pushed (first ∷ names) name other (suc place) is = next (among_pushed names name other place is)
  where
    next : (slice_get names place ≡ Some other) ⊎ ((name ≡ other) × (length names ≡ place))
        → (slice_get names place ≡ Some other) ⊎ ((name ≡ other) × (suc (length names) ≡ suc place))
    next (inl there) = inl there
    next (inr new) = inr (new.0, ap suc new.1)

at_itself : (name : List ℕ) → is_at (slice_cmp nat_cmp name) name ≡ true
at_itself name = ap is_eq (equal_itself name)

-- the table tells its place, and of other names what it told before
pub places_put : (names : List (List ℕ)) (name : List ℕ) (old new : List (List ℕ × ℕ)) → ArePlaces names old
    → IsAbsent names name → ((other : List ℕ) → origin_place new other
    ≡ cond (is_at (slice_cmp nat_cmp name) other) (Some (length names)) (origin_place old other))
    → ArePlaces (names ++ name ∷ []) new
places_put names name old new are absent put = record { told = told; stands = stands }
  where
    here : (other : List ℕ) → is_at (slice_cmp nat_cmp name) other ≡ true → origin_place new other ≡ Some (length names)
    here other is = put other ∙ ap (λ test. cond test (Some (length names)) (origin_place old other)) is

    apart : (other : List ℕ) → is_at (slice_cmp nat_cmp name) other ≡ false
        → origin_place new other ≡ origin_place old other
    apart other is = put other ∙ ap (λ test. cond test (Some (length names)) (origin_place old other)) is

    told_before : (other : List ℕ) (place : ℕ) → slice_get names place ≡ Some other → (test : Bool)
        → is_at (slice_cmp nat_cmp name) other ≡ test → origin_place new other ≡ Some place
    told_before other place there true is =
        absurd (absent place (there ∙ ap Some (sym (same_at name other is))))
    told_before other place there false is = apart other is ∙ are.told other place there

    told_by : (other : List ℕ) (place : ℕ)
        → (slice_get names place ≡ Some other) ⊎ ((name ≡ other) × (length names ≡ place))
        → origin_place new other ≡ Some place
    told_by other place (inl there) = told_before other place there (is_at (slice_cmp nat_cmp name) other) refl
    told_by other place (inr last) = subst (λ n. origin_place new n ≡ Some place) last.0
        (here name (at_itself name) ∙ ap Some last.1)

    told : (other : List ℕ) (place : ℕ) → slice_get (names ++ name ∷ []) place ≡ Some other
        → origin_place new other ≡ Some place
    told other place is = told_by other place (among_pushed names name other place is)

    stands_by : (other : List ℕ) (place : ℕ) → origin_place new other ≡ Some place → (test : Bool)
        → is_at (slice_cmp nat_cmp name) other ≡ test → slice_get (names ++ name ∷ []) place ≡ Some other
    stands_by other place is true same =
        let at : length names ≡ place = same_Some (length names) place (sym (here other same) ∙ is) in
        ap (slice_get (names ++ name ∷ [])) (sym at) ∙ get_pushed names name ∙ ap Some (same_at name other same)
    stands_by other place is false same =
        stays_in_front names (name ∷ []) place other (are.stands other place (sym (apart other same) ∙ is))

    stands : (other : List ℕ) (place : ℕ) → origin_place new other ≡ Some place
        → slice_get (names ++ name ∷ []) place ≡ Some other
    stands other place is = stands_by other place is (is_at (slice_cmp nat_cmp name) other) refl

-- the name that is put is a copy, and stands behind the others
pub places_pushed : (names more : List (List ℕ)) (name key copy : List ℕ) (place : ℕ) (old new : List (List ℕ × ℕ))
    → ArePlaces names old → IsAbsent names name → key ≡ name → copy ≡ name → more ≡ names ++ copy ∷ []
    → place ≡ length names → ((other : List ℕ) → origin_place new other
    ≡ cond (is_at (slice_cmp nat_cmp key) other) (Some place) (origin_place old other)) → ArePlaces more new
places_pushed names more name key copy place old new are absent of_key of_copy is at put =
    subst (λ ns. ArePlaces ns new) (sym (is ∙ ap (λ n. names ++ n ∷ []) of_copy))
    (places_put names name old new are absent (λ other. put other
    ∙ ap (λ n. cond (is_at (slice_cmp nat_cmp n) other) (Some place) (origin_place old other)) of_key
    ∙ ap (λ n. cond (is_at (slice_cmp nat_cmp name) other) (Some n) (origin_place old other)) at))

-- and has this place
pub pushed_at : (names more : List (List ℕ)) (name copy : List ℕ) (place : ℕ) → copy ≡ name
    → more ≡ names ++ copy ∷ [] → place ≡ length names → slice_get more place ≡ Some name
pushed_at names more name copy place of_copy is at =
    ap (λ ns. slice_get ns place) is ∙ ap (slice_get (names ++ copy ∷ [])) at ∙ get_pushed names copy
    ∙ ap Some of_copy

-- Looking a name up

pub found_stands : (names : List (List ℕ)) (table : List (List ℕ × ℕ)) (name : List ℕ) (found : Option ℕ)
    → ArePlaces names table → found ≡ origin_place table name
    → IfSome found (λ place. slice_get names place ≡ Some name)
found_stands names table name None are is = tt
found_stands names table name (Some place) are is = are.stands name place (sym is)

pub missing_absent : (names : List (List ℕ)) (table : List (List ℕ × ℕ)) (name : List ℕ) → ArePlaces names table
    → origin_place table name ≡ None → IsAbsent names name
missing_absent names table name are none place is = none-some place (sym none ∙ are.told name place is)

-- no name stands at two places, since the table tells one
pub once_by_table : (names : List (List ℕ)) (table : List (List ℕ × ℕ)) → ArePlaces names table → EachOnce names
once_by_table names table are name one other here there =
    same_Some one other (sym (are.told name one here) ∙ are.told name other there)
