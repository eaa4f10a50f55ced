-- Uses that make pages: none makes the page of an earlier one. So the first page for a page's document and context is that
-- page.
use Rattle.std.specs.Prelude.{◌≡◌, ◌+◌, ◌&&◌, ℕ, zero, suc, Bool, true, false, not, List, [], ◌∷◌, Option, Some, Ok, filter, slice_get}
use Rattle.std.specs.List.{filter_map, list_all}
use Rattle.std.proofs.Common.{refl, sym, ap, subst, ◌∙◌, arith}
use Rattle.std.proofs.lemmas.Bool.{cond_both, and_parts, and_from, not-true}
use Rattle.std.proofs.lemmas.Option.{same_Some}
use Rattle.dita_doc.specs.declared.plan.PageId.{PageId}
use Rattle.dita_doc.specs.declared.plan.Plan.{Plan}
use Rattle.dita_doc.specs.declared.plan.PagePlan.{PagePlan}
use Rattle.dita_doc.specs.declared.plan.PlanNode.{PlanNode}
use Rattle.reader_spec.specs.World.{World}
use Rattle.map_spec.specs.Pages.{Use, base_of, contents_name, first_uses, free_name, good_base, is_page_for, is_same_page, named_from, page_of_use, pages_of, place_of, use_at, uses_of}
use Rattle.map_spec.specs.PlanOf.{Limits, plan_of}
use Rattle.map_spec.specs.Scopes.{places}
use Rattle.readers.proofs.OnlyLaws.{page_same}
use Rattle.build_plan.specs.PageNames.{IsItsOwn}
use Rattle.build_plan.proofs.PlanPagesLaws.{plan_pages}

-- The first uses

-- whether another use makes another page
abbrev is_other : Use → Use → Bool
is_other first other = not (is_same_page first.id other.id)

-- no use makes the page of an earlier one
abbrev are_apart : List Use → Bool
are_apart [] = true
are_apart (first ∷ uses) = list_all (is_other first) uses && are_apart uses

-- what holds of each use holds of each that stays
pub all_that_stay : (holds stays : Use → Bool) (uses : List Use) → list_all holds uses ≡ true
    → list_all holds (filter stays uses) ≡ true
all_that_stay holds stays [] all = refl
all_that_stay holds stays (first ∷ uses) all =
    let parts = and_parts (holds first) (list_all holds uses) all in
    let more = all_that_stay holds stays uses parts.1 in
    cond_both (stays first) (first ∷ filter stays uses) (filter stays uses) (λ left. list_all holds left ≡ true)
    (λ e. and_from _ _ parts.0 more) (λ e. more)

-- and each that stays passes the test
each_that_stays : (stays : Use → Bool) (uses : List Use) → list_all stays (filter stays uses) ≡ true
each_that_stays stays [] = refl
each_that_stays stays (first ∷ uses) =
    let more = each_that_stays stays uses in
    cond_both (stays first) (first ∷ filter stays uses) (filter stays uses) (λ left. list_all stays left ≡ true)
    (λ e. and_from _ _ e more) (λ e. more)

-- uses of which some go stay apart
apart_that_stay : (stays : Use → Bool) (uses : List Use) → are_apart uses ≡ true
    → are_apart (filter stays uses) ≡ true
apart_that_stay stays [] apart = refl
apart_that_stay stays (first ∷ uses) apart =
    let parts = and_parts (list_all (is_other first) uses) (are_apart uses) apart in
    let more = apart_that_stay stays uses parts.1 in
    cond_both (stays first) (first ∷ filter stays uses) (filter stays uses) (λ left. are_apart left ≡ true)
    (λ e. and_from _ _ (all_that_stay (is_other first) stays uses parts.0) more) (λ e. more)

-- the first uses are apart
first_apart : (uses : List Use) → are_apart (first_uses uses) ≡ true
first_apart [] = refl
first_apart (first ∷ uses) =
    and_from _ _ (each_that_stays (is_other first) (first_uses uses))
    (apart_that_stay (is_other first) (first_uses uses) (first_apart uses))

-- The pages of uses

-- what holds of the identity of each use holds of that of each page
pub page_holds : (holds : PageId → Bool) (index : ℕ) (taken : List (List ℕ)) (uses : List Use) (at : ℕ) (page : PagePlan)
    → list_all (λ (made : Use). holds made.id) uses ≡ true → slice_get (named_from index taken uses) at ≡ Some page
    → holds page.id ≡ true
page_holds holds index taken [] at page all is = absurd (cc)
page_holds holds index taken (first ∷ uses) zero page all is =
    let same = same_Some (page_of_use first (free_name taken (good_base index (base_of first.id)))) page is in
    subst (λ (made : PagePlan). holds made.id ≡ true) same
    (and_parts (holds first.id) (list_all (λ (made : Use). holds made.id) uses) all).0
page_holds holds index taken (first ∷ uses) (suc at) page all is =
    page_holds holds (index + 1) (free_name taken (good_base index (base_of first.id)) ∷ taken) uses at page
    (and_parts (holds first.id) (list_all (λ (made : Use). holds made.id) uses) all).1 is

-- the first page for a page's document and context is that page
own_place : (start index : ℕ) (taken : List (List ℕ)) (uses : List Use) (at : ℕ) (page : PagePlan)
    → are_apart uses ≡ true → slice_get (named_from index taken uses) at ≡ Some page
    → place_of (is_page_for page.id.doc page.id) start (named_from index taken uses) ≡ Some (start + at)
own_place start index taken [] at page apart is = absurd (cc)
own_place start index taken (first ∷ uses) zero page apart is =
    let made = page_of_use first (free_name taken (good_base index (base_of first.id))) in
    let same = same_Some made page is in
    let own : is_page_for page.id.doc page.id made ≡ true =
    subst (λ (other : PagePlan). is_page_for other.id.doc other.id made ≡ true) same (page_same first.id) in
    rw own (ap Some (omega arith))
own_place start index taken (first ∷ uses) (suc at) page apart is =
    let name = free_name taken (good_base index (base_of first.id)) in
    let parts = and_parts (list_all (is_other first) uses) (are_apart uses) apart in
    let other : is_page_for page.id.doc page.id (page_of_use first name) ≡ false =
    not-true _ (page_holds (λ id. not (is_same_page first.id id)) (index + 1) (name ∷ taken) uses at page parts.0 is) in
    rw other (own_place (start + 1) (index + 1) (name ∷ taken) uses at page parts.1 is ∙ ap Some (omega arith))

-- pages of uses that are apart are their own
pub apart_own : (index : ℕ) (taken : List (List ℕ)) (uses : List Use) → are_apart uses ≡ true
    → IsItsOwn (named_from index taken uses)
apart_own index taken uses apart at page is =
    rw (own_place 0 index taken uses at page apart is) (ap Some (omega arith))

-- and so are those of a world
pub pages_own : (world : World) (nodes : List PlanNode) → IsItsOwn (pages_of world nodes)
pages_own world nodes =
    apart_own 0 (contents_name ∷ []) (uses_of world nodes)
    (first_apart (filter_map (use_at world nodes) (places nodes)))

-- and those of a plan
pub plan_own : (most : Limits) (world : World) (map : List ℕ) (val : Option (List ℕ)) (plan : Plan)
    → plan_of most world map val ≡ Ok plan → IsItsOwn plan.pages
plan_own most world map val plan is =
    let known = plan_pages most world map val plan is in
    subst IsItsOwn (sym known.are) (pages_own world known.nodes)
