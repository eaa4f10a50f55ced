-- The names of pages fit into the folder of their build.
use Rattle.std.specs.Prelude.{◌≡◌, ◌+◌, ◌<◌, ◌≤◌, ◌++◌, ℕ, zero, suc, true, List, [], ◌∷◌, Option, Some, Ok, length, nat_le, slice_get, codes}
use Rattle.std.specs.Fmt.{decimal}
use Rattle.std.proofs.Common.{refl, sym, ap, subst, ◌∙◌, arith, append_assoc, length-append}
use Rattle.std.proofs.lemmas.Bool.{and_from, and_parts, cond_both, le-leb, leb-true}
use Rattle.std.proofs.lemmas.Fmt.{length-decimal-le}
use Rattle.std.proofs.lemmas.Option.{same_Some}
use Rattle.dita_doc.specs.Name.{is_name}
use Rattle.dita_doc.specs.declared.plan.Plan.{Plan}
use Rattle.dita_doc.specs.declared.plan.PagePlan.{PagePlan}
use Rattle.dita_doc.specs.declared.plan.PlanNode.{PlanNode}
use Rattle.dita_doc.proofs.Lists.{is_in}
use Rattle.reader_spec.specs.World.{World}
use Rattle.map_spec.specs.PlanOf.{limits, plan_of}
use Rattle.map_spec.specs.Pages.{Use, base_of, contents_name, free_from, free_name, good_base, html, is_page_name, longest_name, named_from, page_of_use, pages_of, uses_of, with_number}
use Rattle.build_plan.specs.PageNames.{FitsFolders, IsPageName}
use Rattle.build_plan.proofs.NameLaws.{length_named}
use Rattle.build_plan.proofs.PlanPagesLaws.{plan_pages}
use Rattle.build_plan.proofs.WordLaws.{IsWord, decimal_is_word, name_under, name_with_end, word_is_name, words_joined}

-- Names with numbers

-- a number of few digits
few_digits : (n : ℕ) → n < 10000 → length (decimal n) ≤ 4
few_digits n small = length-decimal-le 4 n (omega arith) (omega arith) (omega arith)

-- what is put behind a base
abbrev end_with : ℕ → List ℕ
end_with n = codes "_" ++ decimal n ++ codes ".html"

-- is a word
end_is_word : (n : ℕ) → n < 10000 → IsWord (end_with n)
end_is_word n small =
    words_joined (codes "_" ++ decimal n) (codes ".html")
    (words_joined (codes "_") (decimal n) (record { plain = refl; lacks = refl }) (decimal_is_word n (omega arith)))
    (record { plain = refl; lacks = refl })

-- a name with a number is its base and this end
regrouped : (base mark digits tail : List ℕ) → base ++ (mark ++ digits ++ tail) ≡ base ++ mark ++ digits ++ tail
regrouped base mark digits tail = simp append_assoc

-- a base that makes a page's name makes short names
base_short : (base : List ℕ) → is_page_name (html base) ≡ true → IsPageName (html base)
base_short base good =
    let parts = and_parts (is_name (html base)) (nat_le (length (html base)) longest_name) good in
    let short : length (html base) ≤ 240 = leb-true _ _ parts.1 in
    record { named = parts.0; within = omega arith }

-- also with a number
number_short : (base : List ℕ) (n : ℕ) → is_page_name (html base) ≡ true → n < 10000 → IsPageName (with_number base n)
number_short base n good small =
    let parts = and_parts (is_name (html base)) (nat_le (length (html base)) longest_name) good in
    let short : length (html base) ≤ 240 = leb-true _ _ parts.1 in
    let front : length base + 5 ≤ 240 = omega (arith, length-append base (codes ".html")) in
    let one : length (codes "_" ++ decimal n) ≤ 5 = omega (arith, few_digits n small) in
    let end : length (end_with n) ≤ 10 = omega (arith, length-append (codes "_" ++ decimal n) (codes ".html")) in
    let long : 5 < length (end_with n) = omega (arith, length-append (codes "_" ++ decimal n) (codes ".html")) in
    let same : base ++ end_with n ≡ with_number base n = regrouped base (codes "_") (decimal n) (codes ".html") in
    subst IsPageName same (record {
      named = name_with_end base (codes ".html") (end_with n) parts.0 (end_is_word n small) (omega arith) (omega arith);
      within = omega (arith, length-append base (end_with n));
    })

-- The base of a page

-- the number of a page makes a page's name
paged : (index : ℕ) → index < 10000 → is_page_name (html (codes "page" ++ decimal index)) ≡ true
paged index small =
    let front = codes "page" ++ decimal index in
    let word = words_joined front (codes ".html")
    (words_joined (codes "page") (decimal index) (record { plain = refl; lacks = refl })
    (decimal_is_word index (omega arith))) (record { plain = refl; lacks = refl }) in
    let count : length (html front) ≡ length (decimal index) + 9 = omega (arith, length-append front (codes ".html")) in
    let short = few_digits index small in
    and_from _ _ (word_is_name (html front) word (omega arith) (omega arith)) (le-leb _ _ (omega arith))

-- and so does each base that is taken
base_good : (index : ℕ) (base : List ℕ) → index < 10000 → is_page_name (html (good_base index base)) ≡ true
base_good index base small =
    cond_both (is_page_name (html base)) base (codes "page" ++ decimal index)
    (λ taken. is_page_name (html taken) ≡ true) (λ e. e) (λ e. paged index small)

-- Free names

-- what holds of the base's names with the numbers that are tried holds of the name that is free
free_from_holds : (P : List ℕ → Type 0) (others number : ℕ) (taken : List (List ℕ)) (base : List ℕ)
    → ((n : ℕ) → n ≤ number + others → P (with_number base n)) → P (free_from others number taken base)
free_from_holds P zero number taken base each = each number (omega arith)
free_from_holds P (suc others) number taken base each =
    let name = with_number base number in
    cond_both (is_in taken name) (free_from others (number + 1) taken base) name P
    (λ e. free_from_holds P others (number + 1) taken base (λ n low. each n (omega arith)))
    (λ e. each number (omega arith))

-- a free name of such a base is short
free_short : (taken : List (List ℕ)) (base : List ℕ) → is_page_name (html base) ≡ true → length taken ≤ 9000
    → IsPageName (free_name taken base)
free_short taken base good few =
    cond_both (is_in taken (html base)) (free_from (length taken) 2 taken base) (html base) IsPageName
    (λ e. free_from_holds IsPageName (length taken) 2 taken base (λ n low. number_short base n good (omega arith)))
    (λ e. base_short base good)

-- so that each page's name is short
named_short : (index : ℕ) (taken : List (List ℕ)) (uses : List Use) (at : ℕ) (page : PagePlan)
    → index + length uses ≤ 9000 → length taken + length uses ≤ 9000
    → slice_get (named_from index taken uses) at ≡ Some page → IsPageName page.name
named_short index taken [] at page low few is = absurd (cc)
named_short index taken (first ∷ uses) zero page low few is =
    let base = good_base index (base_of first.id) in
    let same = same_Some (page_of_use first (free_name taken base)) page is in
    subst (λ (made : PagePlan). IsPageName made.name) same
    (free_short taken base (base_good index (base_of first.id) (omega arith)) (omega arith))
named_short index taken (first ∷ uses) (suc at) page low few is =
    let name = free_name taken (good_base index (base_of first.id)) in
    named_short (index + 1) (name ∷ taken) uses at page (omega arith) (omega arith) is

-- the names of a world's pages are short, if the pages are few
pages_short : (world : World) (nodes : List PlanNode) (at : ℕ) (page : PagePlan) → length (pages_of world nodes) ≤ 4096
    → slice_get (pages_of world nodes) at ≡ Some page → IsPageName page.name
pages_short world nodes at page few is =
    let uses = uses_of world nodes in
    let taken = contents_name ∷ [] in
    let count = length_named 0 taken uses in
    named_short 0 taken uses at page (omega arith) (omega arith) is

-- and those of a plan within the limits
pub plan_short : (world : World) (map : List ℕ) (val : Option (List ℕ)) (plan : Plan) (at : ℕ) (page : PagePlan)
    → plan_of limits world map val ≡ Ok plan → slice_get plan.pages at ≡ Some page → IsPageName page.name
plan_short world map val plan at page is there =
    let known = plan_pages limits world map val plan is in
    let few : length (pages_of world known.nodes) ≤ 4096 = omega (arith, ap length known.are) in
    pages_short world known.nodes at page few (ap (λ pages. slice_get pages at) (sym known.are) ∙ there)

-- so they fit into folders
pub plan_fits : (world : World) (map : List ℕ) (val : Option (List ℕ)) (plan : Plan)
    → plan_of limits world map val ≡ Ok plan → FitsFolders plan.pages
plan_fits world map val plan is number at page small there =
    let short = plan_short world map val plan at page is there in
    name_under number page.name small short.named short.within
