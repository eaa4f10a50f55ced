-- The terms of a build's pages, one page after another, and the page that lists them.
use Rattle.std.specs.Prelude.{◌≡◌, ◌+◌, ◌≤◌, ◌<◌, ℕ, zero, suc, Bool, true, false, List, [], ◌∷◌, ◌++◌, Option, Some, None, Ok, Err, IsTrue, get_or, length, nat_le, nat_lt, not, slice_get, take}
use Rattle.std.specs.List.{flat_map}
use Rattle.std.proofs.Common.{refl, sym, ap, subst, ◌∙◌, arith}
use Rattle.std.proofs.lemmas.Bool.{le-ltb, leb-false, leb-true, lt-ltb}
use Rattle.std.proofs.lemmas.List.{flat_map_more, map-append, take_all, take_more}
use Rattle.dita_doc.specs.declared.content.TermEntry.{TermEntry}
use Rattle.dita_doc.specs.declared.fact.Html.{Html}
use Rattle.dita_doc.specs.declared.plan.PagePlan.{PagePlan}
use Rattle.dita_doc.specs.declared.plan.Plan.{Plan}
use Rattle.dita_doc.specs.declared.plan.PlanStop.{PlanStop}
use Rattle.conref_spec.specs.Content.{Made}
use Rattle.html_spec.specs.Terms.{terms_html}
use Rattle.map_spec.specs.PlanOf.{limits, plan_of}
use Rattle.map_spec.specs.Scopes.{places_from}
use Rattle.map_spec.specs.Titles.{title_in}
use Rattle.part_spec.specs.Parts.{clean_terms, page_titles, parts_of, rooms, terms_by, total_limit, total_of}
use Rattle.reader_spec.specs.World.{World}
use Rattle.readers.specs.Founded.{is_among}
use Rattle.readers.proofs.FoundedLaws.{among_behind, among_first}
use Rattle.clean_build.specs.Bodies.{terms_wanted}
use Rattle.clean_build.specs.Made.{number_wanted, page_content_of}
use Rattle.clean_build.specs.Terms.{documents_of, page_of_build, page_of_plan, terms_at, terms_before, terms_of_all, titles_in}
use Rattle.clean_build.proofs.PageLaws.{content_there}
use Rattle.clean_build.proofs.PartLaws.{count_placed, placed, take_next}

module _ (wanted : Bool) (world : World) (plan : Plan) (val : Option (List ℕ)) where
  -- those of one page more
  pub next_terms : (index : ℕ) (page : PagePlan) (made old new : List TermEntry)
      → slice_get plan.pages index ≡ Some page
      → made ≡ terms_wanted (number_wanted wanted index) (page_content_of world plan val page).nodes
      → new ≡ old ++ made → old ≡ terms_before wanted world plan val index
      → new ≡ terms_before wanted world plan val (index + 1)
  next_terms index page made old new there is put before =
      let places = places_from 0 plan.pages in
      let at = terms_at wanted world plan val in
      let zeroth : 0 + index ≡ index = omega arith in
      let own = is ∙ ap (λ (m : Made). terms_wanted (number_wanted wanted index) m.nodes)
      (content_there world plan val index page there) in
      put ∙ (λ i. before i ++ own i) ∙ flat_map_more at [] (take index places) index
      ∙ ap (flat_map at) (sym (take_next places index index
      (placed 0 index plan.pages page there ∙ ap (λ n. Some n) zeroth)))

  -- those of all
  pub all_terms : (count : ℕ) (terms : List TermEntry) → length plan.pages ≤ count
      → terms ≡ terms_before wanted world plan val count → terms ≡ terms_of_all wanted world plan val
  all_terms count terms enough is = is ∙ ap (flat_map (terms_at wanted world plan val))
      (take_all count (places_from 0 plan.pages) (omega (arith, count_placed 0 plan.pages)))

  -- the page is not wanted
  pub not_wanted : wanted ≡ false → ◌≡◌ {A = Option Html} None (page_of_plan wanted world plan val)
  not_wanted is = ap (λ w. page_of_plan w world plan val) (sym is)

-- whether there are too many bytes
pub more_than : (n limit : ℕ) → nat_lt limit n ≡ not (nat_le n limit)
more_than n limit = by_test (nat_le n limit) refl
  where
    by_test : (few : Bool) → nat_le n limit ≡ few → nat_lt limit n ≡ not few
    by_test true e = le-ltb limit n (leb-true n limit e)
    by_test false e = lt-ltb limit n (leb-false n limit e)

-- too many bytes have none
pub too_large : (wanted : Bool) (world : World) (plan : Plan) (val : Option (List ℕ))
    → nat_le (total_of (parts_of rooms world plan val)) total_limit ≡ false
    → ◌≡◌ {A = Option Html} None (page_of_plan wanted world plan val)
too_large false world plan val many = refl
too_large true world plan val many = rw many refl

pub page_made : (wanted : Bool) (world : World) (plan : Plan) (val : Option (List ℕ)) (terms : List TermEntry)
    (page : Option Html) → wanted ≡ true → nat_le (total_of (parts_of rooms world plan val)) total_limit ≡ true
    → terms ≡ terms_of_all wanted world plan val → page ≡ terms_html terms plan (page_titles world plan)
    → page ≡ page_of_plan wanted world plan val
page_made false world plan val terms page is few gathered made = absurd (cc)
page_made true world plan val terms page is few gathered made =
    rw few (made ∙ ap (λ (all : List TermEntry). terms_html all plan (page_titles world plan)) gathered)

-- The titles under which they are listed, one after another

pub next_title : (world : World) (pages : List PagePlan) (at : ℕ) (page : PagePlan) (text : List ℕ)
    (old new : List (List ℕ)) → at < length pages → page ≡ get_or pages at page → old ≡ titles_in world (take at pages)
    → new ≡ old ++ text ∷ [] → text ≡ title_in world page.id.doc [] → new ≡ titles_in world (take (at + 1) pages)
next_title world pages at page text old new within is before put title =
    let of_page : PagePlan → List ℕ = λ (p : PagePlan). title_in world p.id.doc [] in
    put ∙ (λ i. before i ++ title i ∷ []) ∙ sym (map-append of_page (take at pages) (page ∷ []))
    ∙ ap (titles_in world) (ap (λ (p : PagePlan). take at pages ++ p ∷ []) is ∙ sym (take_more pages at page within))

pub all_titles : (world : World) (pages : List PagePlan) (count : ℕ) (titles : List (List ℕ)) → length pages ≤ count
    → titles ≡ titles_in world (take count pages) → titles ≡ titles_in world pages
all_titles world pages count titles enough are = are ∙ ap (titles_in world) (take_all count pages enough)

pub document_among : (pages : List PagePlan) (at : ℕ) (page : PagePlan) → at < length pages
    → page ≡ get_or pages at page → IsTrue (is_among (documents_of pages) page.id.doc)
document_among [] at page within is = absurd (omega arith)
document_among (first ∷ pages) zero page within is =
    subst (λ (p : PagePlan). IsTrue (is_among (documents_of (first ∷ pages)) p.id.doc)) (sym is)
    (among_first first.id.doc (documents_of pages))
document_among (first ∷ pages) (suc at) page within is = among_behind first.id.doc (documents_of pages) page.id.doc
    (document_among pages at page (omega arith) is)

-- The build

pub terms_built : (wanted : Bool) (world : World) (name : List ℕ) (val : Option (List ℕ)) (plan : Plan)
    (page : Option Html) → plan_of limits world name val ≡ Ok plan → page ≡ page_of_plan wanted world plan val
    → page ≡ page_of_build wanted world name val
unfolding clean_terms
terms_built false world name val plan page is made = made
terms_built true world name val plan page is made = made ∙ ap (terms_by rooms total_limit world val) (sym is)

-- there are none without a plan
pub no_terms : (wanted : Bool) (world : World) (name : List ℕ) (val : Option (List ℕ)) (stop : PlanStop)
    → plan_of limits world name val ≡ Err stop → ◌≡◌ {A = Option Html} None (page_of_build wanted world name val)
unfolding clean_terms
no_terms false world name val stop is = refl
no_terms true world name val stop is = ap (terms_by rooms total_limit world val) (sym is)
