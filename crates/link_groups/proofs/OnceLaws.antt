-- Links of which those to each page are taken once.
use Rattle.std.specs.Prelude.{◌≡◌, ◌==◌, ◌&&◌, ◌||◌, ℕ, Bool, true, false, not, List, [], ◌∷◌, ◌++◌, filter}
use Rattle.std.specs.List.{list_any}
use Rattle.std.proofs.Common.{refl, sym, ap, ◌∙◌, append-nil}
use Rattle.std.proofs.lemmas.Bool.{eqb-true}
use Rattle.std.proofs.lemmas.List.Elements.{filter_agree}
use Rattle.std.proofs.lemmas.Map.Views.{any-filter_same}
use Rattle.dita_doc.proofs.Lists.{filter_every}
use Rattle.dita_doc.proofs.Tests.{number_itself, number_swaps}
use Rattle.link_spec.specs.Links.{LinkTo, to_each_once}
use Rattle.link_groups.specs.LinkLists.{HoldsLinks, leads_to}
use Rattle.link_groups.specs.declared.link_list.LinkList.{LinkList}

-- Filters

pub filter_both : {X : Type 0} (p : X → Bool) (xs ys : List X) → filter p (xs ++ ys) ≡ filter p xs ++ filter p ys
filter_both p [] ys = refl
filter_both {X} p (x ∷ xs) ys = by_test (filter_both p xs ys) (p x) refl
  where
    by_test : filter p (xs ++ ys) ≡ filter p xs ++ filter p ys → (a : Bool) → p x ≡ a
        → filter p (x ∷ (xs ++ ys)) ≡ filter p (x ∷ xs) ++ filter p ys
    by_test behind true e = rw e (ap (λ l. x ∷ l) behind)
    by_test behind false e = rw e behind

pub filter_twice : {X : Type 0} (p q r : X → Bool) → ((x : X) → r x ≡ (p x && q x)) → (xs : List X)
    → filter p (filter q xs) ≡ filter r xs
filter_twice p q r each [] = refl
filter_twice {X} p q r each (x ∷ xs) = by_tests (filter_twice p q r each xs) (p x) (q x) refl refl
  where
    by_tests : filter p (filter q xs) ≡ filter r xs → (a b : Bool) → p x ≡ a → q x ≡ b
        → filter p (filter q (x ∷ xs)) ≡ filter r (x ∷ xs)
    by_tests behind true true e f =
        let g : r x ≡ true = each x ∙ (λ i. e i && f i) in rw (f, g) (rw e (ap (λ l. x ∷ l) behind))
    by_tests behind false true e f =
        let g : r x ≡ false = each x ∙ (λ i. e i && f i) in rw (f, g) (rw e behind)
    by_tests behind true false e f =
        let g : r x ≡ false = each x ∙ (λ i. e i && f i) in rw (f, g) behind
    by_tests behind false false e f =
        let g : r x ≡ false = each x ∙ (λ i. e i && f i) in rw (f, g) behind

-- Pages that are led to

abbrev pub beside : LinkTo → LinkTo → Bool
beside link other = not (other.page == link.page)

abbrev has : List LinkTo → ℕ → Bool
has links page = list_any (leads_to page) links

abbrev is_new : List LinkTo → LinkTo → Bool
is_new links link = not (has links link.page)

or_and : (a b c : Bool) → (a ≡ false → b ≡ true) → (a || (b && c)) ≡ (a || c)
or_and true b c other = refl
or_and false b c other = ap (λ d. d && c) (other refl)

not_same : (n k : ℕ) (b : Bool) → (k == n) ≡ b → not (n == k) ≡ not b
not_same n k b e = ap not (number_swaps n k ∙ e)

has_filtered : (page : ℕ) (link : LinkTo) (links : List LinkTo) → (link.page == page) ≡ false
    → has (filter (beside link) links) page ≡ has links page
has_filtered page link links other = any-filter_same (leads_to page) (beside link) true (λ found is.
    ap not (ap (λ n. n == link.page) (eqb-true found.page page is) ∙ number_swaps page link.page ∙ other)) links

-- each page that links lead to is kept
pub once_has : (page : ℕ) (links : List LinkTo) → has (to_each_once links) page ≡ has links page
once_has page [] = refl
once_has page (link ∷ links) = by_test (once_has page links) (link.page == page) refl
  where
    by_test : has (to_each_once links) page ≡ has links page → (b : Bool) → (link.page == page) ≡ b
        → has (to_each_once (link ∷ links)) page ≡ has (link ∷ links) page
    by_test behind true e = rw e refl
    by_test behind false e = rw e (has_filtered page link (to_each_once links) e ∙ behind)

-- One list behind the other

new_behind : (link other : LinkTo) (links : List LinkTo)
    → is_new (link ∷ links) other ≡ (beside link other && is_new links other)
new_behind link other links =
    by_tests (link.page == other.page) (other.page == link.page) (has links other.page)
    (number_swaps link.page other.page)
  where
    by_tests : (a b c : Bool) → a ≡ b → not (a || c) ≡ (not b && not c)
    by_tests true true c e = refl
    by_tests true false c e = cc
    by_tests false true c e = cc
    by_tests false false c e = refl

pub once_both : (links more : List LinkTo)
    → to_each_once (links ++ more) ≡ to_each_once links ++ filter (is_new links) (to_each_once more)
once_both [] more = sym (filter_every (is_new []) (λ x. refl) (to_each_once more))
once_both (link ∷ links) more = ap (λ l. link ∷ l) (
    ap (filter (beside link)) (once_both links more)
    ∙ filter_both (beside link) (to_each_once links) (filter (is_new links) (to_each_once more))
    ∙ ap (λ l. filter (beside link) (to_each_once links) ++ l)
    (filter_twice (beside link) (is_new links) (is_new (link ∷ links)) (λ other. new_behind link other links)
    (to_each_once more)))

-- lists of which each gives the same
pub once_same : (links others more rest : List LinkTo) → to_each_once links ≡ to_each_once others
    → to_each_once more ≡ to_each_once rest → to_each_once (links ++ more) ≡ to_each_once (others ++ rest)
once_same links others more rest first second =
    once_both links more
    ∙ (λ i. first i ++ filter (is_new links) (second i))
    ∙ ap (λ l. to_each_once others ++ l) (filter_agree (is_new links) (is_new others) (λ link. ap not (
    sym (once_has link.page links) ∙ ap (λ l. has l link.page) first ∙ once_has link.page others)) (to_each_once rest))
    ∙ sym (once_both others rest)

-- a link to a page that was led to makes no difference
pub once_again : (links : List LinkTo) (link : LinkTo) → has links link.page ≡ true
    → to_each_once (links ++ link ∷ []) ≡ to_each_once links
once_again links link there =
    once_both links (link ∷ [])
    ∙ ap (λ l. to_each_once links ++ l) (rw there refl)
    ∙ append-nil (to_each_once links)

pub once_new : (links : List LinkTo) (link : LinkTo) → has links link.page ≡ false
    → to_each_once (links ++ link ∷ []) ≡ to_each_once links ++ link ∷ []
once_new links link there =
    once_both links (link ∷ []) ∙ ap (λ l. to_each_once links ++ l) (rw there refl)

pub once_first_again : (link : LinkTo) (links : List LinkTo)
    → to_each_once (link ∷ link ∷ links) ≡ to_each_once (link ∷ links)
once_first_again link links = ap (λ l. link ∷ l) (rw (number_itself link.page) (
    filter_twice (beside link) (beside link) (beside link) (λ x. twice (beside link x)) (to_each_once links)))
  where
    twice : (b : Bool) → b ≡ (b && b)
    twice true = refl
    twice false = refl

-- a list of a page holds any links of which the same are taken
pub holds_same : (own : ℕ) (all others : List LinkTo) (list : LinkList) → to_each_once all ≡ to_each_once others
    → HoldsLinks own all list → HoldsLinks own others list
holds_same own all others list same holds = record {
  page = holds.page;
  are = holds.are ∙ same;
  seen = λ page. holds.seen page ∙ sym (once_has page all) ∙ ap (λ l. has l page) same ∙ once_has page others;
}
