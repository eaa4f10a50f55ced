-- The first place of which a test holds, with one element more, and against a test that gives less.
use Rattle.std.specs.Prelude.{◌≡◌, ◌+◌, ℕ, Bool, true, false, List, [], ◌∷◌, ◌++◌, Option, Some, None, length, if◌then◌else◌}
use Rattle.std.specs.Option.{option_or}
use Rattle.std.proofs.Common.{refl, sym, ap, ◌∙◌, arith}
use Rattle.std.proofs.lemmas.Bool.{and_left}
use Rattle.dita_doc.specs.declared.plan.PageId.{PageId}
use Rattle.dita_doc.specs.declared.plan.PagePlan.{PagePlan}
use Rattle.map_spec.specs.Pages.{is_page_for, is_page_of, is_same_context, place_of}

abbrev pub if_holds : Bool → ℕ → Option ℕ
if_holds test place = if test then Some place else None

place_last : (test : Bool) (at : ℕ) → if_holds test at ≡ if_holds test (at + 0)
place_last test at = let e : at + 0 ≡ at = omega arith in ap (if_holds test) (sym e)

-- one page more
place_more : (test : PagePlan → Bool) (at : ℕ) (pages : List PagePlan) (page : PagePlan)
    → place_of test at (pages ++ page ∷ [])
    ≡ option_or (place_of test at pages) (if_holds (test page) (at + length pages))
place_more test at [] page = place_last (test page) at
place_more test at (first ∷ pages) page = by_test (place_more test (at + 1) pages page) (test first)
  where
    by_test : place_of test (at + 1) (pages ++ page ∷ [])
        ≡ option_or (place_of test (at + 1) pages) (if_holds (test page) (at + 1 + length pages)) → (holds : Bool) → (if holds then Some at else place_of test (at + 1) (pages ++ page ∷ []))
        ≡ option_or (if holds then Some at else place_of test (at + 1) pages)
        (if_holds (test page) (at + length (first ∷ pages)))
    by_test behind true = refl
    by_test behind false = behind
        ∙ ap (λ n. option_or (place_of test (at + 1) pages) (if_holds (test page) n)) (omega arith)

-- the same of pages from the first on
pub page_more : (test : PagePlan → Bool) (pages : List PagePlan) (page : PagePlan)
    → place_of test 0 (pages ++ page ∷ []) ≡ option_or (place_of test 0 pages) (if_holds (test page) (length pages))
page_more test pages page = let e : 0 + length pages ≡ length pages = omega arith in
    place_more test 0 pages page ∙ ap (λ n. option_or (place_of test 0 pages) (if_holds (test page) n)) e

-- where no page is of the document, none is for a context
pub none_for : (at : ℕ) (pages : List PagePlan) (name : List ℕ) (context : PageId)
    → place_of (is_page_of name) at pages ≡ None → place_of (is_page_for name context) at pages ≡ None
none_for at [] name context none = refl
none_for at (page ∷ pages) name context none =
    by_test (none_for (at + 1) pages name context) (is_page_of name page) refl none
  where
    by_test : (place_of (is_page_of name) (at + 1) pages ≡ None
        → place_of (is_page_for name context) (at + 1) pages ≡ None) → (holds : Bool) → is_page_of name page ≡ holds
        → (if holds then Some at else place_of (is_page_of name) (at + 1) pages) ≡ None
        → place_of (is_page_for name context) at (page ∷ pages) ≡ None
    by_test behind true is none = cc
    by_test behind false is none = ap (λ b. if b then Some at else place_of (is_page_for name context) (at + 1) pages)
        (and_left (is_page_of name page) (is_same_context page.id context) is)
        ∙ behind none
