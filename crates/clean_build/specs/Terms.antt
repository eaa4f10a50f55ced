-- The page of a build's terms (own): the terms of its pages as they are gathered, and the titles under which it lists
-- them.
use Rattle.std.specs.Prelude.{◌≡◌, ℕ, Bool, true, false, List, Option, None, map, take}
use Rattle.std.specs.List.{flat_map}
use Rattle.dita_doc.specs.declared.content.TermEntry.{TermEntry}
use Rattle.dita_doc.specs.declared.fact.Html.{Html}
use Rattle.dita_doc.specs.declared.plan.PagePlan.{PagePlan}
use Rattle.dita_doc.specs.declared.plan.Plan.{Plan}
use Rattle.html_spec.specs.Terms.{terms_html}
use Rattle.map_spec.specs.Scopes.{places_from}
pub use Rattle.part_spec.specs.Parts.{titles_in}
use Rattle.part_spec.specs.Parts.{clean_terms, page_content, page_titles, parts_of, rooms, terms_of_parts, terms_part, total_limit}
use Rattle.reader_spec.specs.World.{World}
use Rattle.readers.specs.Setting.{Setting}
use Rattle.readers.specs.Told.{Told}
use Rattle.clean_build.specs.Bodies.{terms_wanted}
use Rattle.clean_build.specs.Made.{number_wanted}
use Rattle.clean_build.specs.Names.{names_of_build}
use Rattle.clean_build.specs.Reads.{ReadsOnly}
use Rattle.clean_build.specs.declared.terms.TermsWork.{TermsWork}

-- Terms, if they are wanted

abbrev pub terms_at : Bool → World → Plan → Option (List ℕ) → ℕ → List TermEntry
terms_at wanted world plan val index =
    terms_wanted (number_wanted wanted index) (page_content rooms world plan val index).nodes

-- those of the first pages
abbrev pub terms_before : Bool → World → Plan → Option (List ℕ) → ℕ → List TermEntry
terms_before wanted world plan val count =
    flat_map (terms_at wanted world plan val) (take count (places_from 0 plan.pages))

-- those of all pages
abbrev pub terms_of_all : Bool → World → Plan → Option (List ℕ) → List TermEntry
terms_of_all wanted world plan val = flat_map (terms_at wanted world plan val) (places_from 0 plan.pages)

-- Their page

abbrev pub terms_of_plan : World → Plan → Option (List ℕ) → Option Html
terms_of_plan world plan val =
    terms_of_parts total_limit (parts_of rooms world plan val) (terms_part rooms world plan val)

abbrev pub page_of_plan : Bool → World → Plan → Option (List ℕ) → Option Html
page_of_plan false world plan val = None
page_of_plan true world plan val = terms_of_plan world plan val

abbrev pub page_of_build : Bool → World → List ℕ → Option (List ℕ) → Option Html
page_of_build false world map val = None
page_of_build true world map val = clean_terms world map val

-- How it is made

abbrev pub documents_of : List PagePlan → List (List ℕ)
documents_of pages = map (λ (page : PagePlan). page.id.doc) pages

abbrev pub MakesTerms : TermsWork → World → World → Setting → Option Html → Type 0
MakesTerms work here world setting made =
    made ≡ terms_html work.terms.now work.ground.plan.now (page_titles world work.ground.plan.now)

abbrev pub about_terms : TermsWork → List (List ℕ)
about_terms work = names_of_build work.ground

-- it asks for no document as a whole
abbrev pub TellsTerms : TermsWork → World → Setting → List Told → List Told → Type 0
TellsTerms work world setting old new = ReadsOnly (λ name. ⊥) old new
