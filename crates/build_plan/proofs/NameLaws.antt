-- The names of pages: each is a free one at its turn, so that no two are equal.
use Rattle.std.specs.Prelude.{◌≡◌, ◌≢◌, ◌+◌, ◌<◌, ◌^◌, ℕ, zero, suc, false, List, [], ◌∷◌, Option, Some, Ok, length, slice_get, bytes_eq}
use Rattle.std.proofs.Common.{refl, sym, ap, subst, ◌∙◌, arith}
use Rattle.std.proofs.lemmas.Bool.{both_ways, or_parts}
use Rattle.std.proofs.lemmas.Option.{same_Some}
use Rattle.std.proofs.lemmas.Slice.Eq.{bytes_eq-Decides}
use Rattle.dita_doc.specs.declared.plan.Plan.{Plan}
use Rattle.dita_doc.specs.declared.plan.PagePlan.{PagePlan}
use Rattle.dita_doc.specs.declared.plan.PlanNode.{PlanNode}
use Rattle.dita_doc.proofs.Lists.{is_in}
use Rattle.reader_spec.specs.World.{World}
use Rattle.map_spec.specs.PlanOf.{Limits, plan_of}
use Rattle.map_spec.specs.Pages.{Use, base_of, contents_name, free_name, good_base, named_from, page_of_use, pages_of, uses_of}
use Rattle.build_plan.specs.PageNames.{HasDistinctNames}
use Rattle.build_plan.proofs.FreeLaws.{free_name_free}
use Rattle.build_plan.proofs.PlanPagesLaws.{plan_pages}

-- there are as many pages as uses
pub length_named : (index : ℕ) (taken : List (List ℕ)) (uses : List Use)
    → length (named_from index taken uses) ≡ length uses
length_named index taken [] = refl
length_named index taken (first ∷ uses) =
    ap suc (length_named (index + 1) (free_name taken (good_base index (base_of first.id)) ∷ taken) uses)

-- what is not taken is no name that is taken
not_taken : (name other : List ℕ) (taken : List (List ℕ)) → is_in (other ∷ taken) name ≡ false → name ≢ other
not_taken name other taken free same =
    both_ways (bytes_eq name other) (or_parts (bytes_eq name other) (is_in taken name) free).0
    ((bytes_eq-Decides name other).1 same)

-- the name of a page is none of those that were taken before
named_free : (index : ℕ) (taken : List (List ℕ)) (uses : List Use) (at : ℕ) (page : PagePlan)
    → 2 + (length taken + length uses) < 2 ^ 64 → slice_get (named_from index taken uses) at ≡ Some page
    → is_in taken page.name ≡ false
named_free index taken [] at page small is = absurd (cc)
named_free index taken (first ∷ uses) zero page small is =
    let name = free_name taken (good_base index (base_of first.id)) in
    let same = same_Some (page_of_use first name) page is in
    subst (λ (made : PagePlan). is_in taken made.name ≡ false) same
    (free_name_free taken (good_base index (base_of first.id)) (omega arith))
named_free index taken (first ∷ uses) (suc at) page small is =
    let name = free_name taken (good_base index (base_of first.id)) in
    let free = named_free (index + 1) (name ∷ taken) uses at page (omega arith) is in
    (or_parts (bytes_eq page.name name) (is_in taken page.name) free).1

-- nor that of an earlier page
named_apart : (index : ℕ) (taken : List (List ℕ)) (uses : List Use) (at other : ℕ) (page another : PagePlan)
    → 2 + (length taken + length uses) < 2 ^ 64 → at < other → slice_get (named_from index taken uses) at ≡ Some page
    → slice_get (named_from index taken uses) other ≡ Some another → page.name ≢ another.name
named_apart index taken [] at other page another small less is also = absurd (cc)
named_apart index taken (first ∷ uses) at zero page another small less is also = absurd (omega arith)
named_apart index taken (first ∷ uses) zero (suc other) page another small less is also =
    let name = free_name taken (good_base index (base_of first.id)) in
    let same = same_Some (page_of_use first name) page is in
    let free = named_free (index + 1) (name ∷ taken) uses other another (omega arith) also in
    let differs = not_taken another.name name taken free in
    λ equal. differs (sym equal ∙ sym (ap (λ (made : PagePlan). made.name) same))
named_apart index taken (first ∷ uses) (suc at) (suc other) page another small less is also =
    let name = free_name taken (good_base index (base_of first.id)) in
    named_apart (index + 1) (name ∷ taken) uses at other page another (omega arith) (omega arith) is also

-- the names of the pages of a world differ
pub pages_differ : (world : World) (nodes : List PlanNode) → length (pages_of world nodes) < 2 ^ 63
    → HasDistinctNames (pages_of world nodes)
pages_differ world nodes few =
    let uses = uses_of world nodes in
    let taken = contents_name ∷ [] in
    let small : 2 + (length taken + length uses) < 2 ^ 64 = omega (arith, length_named 0 taken uses) in
    record {
      differ = λ at other page another. named_apart 0 taken uses at other page another small;
      free = λ at page is. not_taken page.name contents_name [] (named_free 0 taken uses at page small is);
    }

-- and so do those of a plan, where there is room for fewer than 2 ^ 63 pages
pub plan_differs : (most : Limits) (world : World) (map : List ℕ) (val : Option (List ℕ)) (plan : Plan)
    → most.pages < 2 ^ 63 → plan_of most world map val ≡ Ok plan → HasDistinctNames plan.pages
plan_differs most world map val plan small is =
    let known = plan_pages most world map val plan is in
    let few : length (pages_of world known.nodes) < 2 ^ 63 = omega (arith, ap length known.are) in
    subst HasDistinctNames (sym known.are) (pages_differ world known.nodes few)
