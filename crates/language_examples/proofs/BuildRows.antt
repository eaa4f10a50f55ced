-- Whole builds that are known by hand.
use Rattle.std.specs.Fmt.{digits}
use Rattle.std.specs.Prelude.{◌≡◌, ℕ, List, [], ◌∷◌, None, Some, refl, codes}
use Rattle.build_spec.specs.Built.{Done, Stopped, TooLarge}
use Rattle.dita_doc.specs.Tree.{Content}
use Rattle.dita_doc.specs.declared.fault.Fault.{Fault}
use Rattle.dita_doc.specs.declared.fault.FaultCode.TheVariants as codes_of
use Rattle.dita_doc.specs.declared.plan.PlanStop.TheVariants as stops
use Rattle.map_spec.specs.Included.{map_included}
use Rattle.map_spec.specs.PlanOf.{plan_of}
use Rattle.html_spec.specs.Blocks.{body_html}
use Rattle.conref_spec.specs.Content.{followed_from, resolved_from}
use Rattle.html_spec.specs.Contents.{contents, items_from}
use Rattle.map_spec.specs.Pushes.{all_pushes}
use Rattle.part_spec.specs.Parts.{build_by, clean_build, page_part, rooms}
use Rattle.reader_spec.specs.World.{World}
use Rattle.language_examples.proofs.Short.{m, plain, planned, ref, text, these}
use Rattle.language_examples.proofs.ShortPages.{lines, p, titled}

abbrev hello : Content → World
hello inside = these (m (ref "t.dita" ∷ []) ∷ titled "t.dita" "t" "Hello" (inside ∷ []) ∷ [])

abbrev in_m : List ℕ
in_m = codes "m.ditamap"

abbrev contents_page : List ℕ
contents_page = lines ("<!DOCTYPE html>" ∷ "<html><head><meta charset=\"utf-8\"><title>Contents</title></head>"
    ∷ "<body>"
    ∷ "<nav class=\"toc\"><h1>Contents</h1><ul><li><a href=\"t.html\">Hello</a></li></ul></nav>" ∷ "</body></html>"
    ∷ [])

-- a build has its pages in order, the contents page last, and no faults where there are none
hello_build : clean_build (hello (p "A & B")) in_m None ≡ Done ((
  codes "t.html",
  lines ("<!DOCTYPE html>"
      ∷ "<html><head><meta charset=\"utf-8\"><title>Hello</title></head>" ∷ "<body>"
      ∷ "<article id=\"t\"><h1>Hello</h1><div class=\"body\"><p>A &amp; B</p></div></article>" ∷ "</body></html>" ∷ []),
)
    ∷ (codes "index.html", contents_page) ∷ []) []
unfolding clean_build plan_of map_included page_part all_pushes resolved_from followed_from body_html digits contents items_from
hello_build = refl

abbrev no_class : Fault
no_class = record { name = codes "t.dita"; line = 10; code = codes_of.NoClass; detail = codes "p" }

-- faults of pages are those of the build
build_with_fault : clean_build (hello (plain "p" [] (text "A & B" ∷ []))) in_m None ≡ Done ((
  codes "t.html",
  lines ("<!DOCTYPE html>"
      ∷ "<html><head><meta charset=\"utf-8\"><title>Hello</title></head>" ∷ "<body>"
      ∷ "<article id=\"t\"><h1>Hello</h1><div class=\"body\">A &amp; B</div></article>" ∷ "</body></html>" ∷ []),
)
    ∷ (codes "index.html", contents_page) ∷ []) (no_class ∷ [])
unfolding clean_build plan_of map_included page_part all_pushes resolved_from followed_from body_html digits contents items_from
build_with_fault = refl

-- a build of a map that is not stored stops, and so does one by rules that are not
no_map : clean_build (these []) in_m None ≡ Stopped stops.NoMap
unfolding clean_build plan_of map_included page_part all_pushes resolved_from followed_from body_html digits contents items_from
no_map = refl

no_ditaval : clean_build (hello (p "A & B")) in_m (Some (codes "no.ditaval")) ≡ Stopped stops.NoDitaval
unfolding clean_build plan_of map_included page_part all_pushes resolved_from followed_from body_html digits contents items_from
no_ditaval = refl

-- a map without references has the contents page alone
empty_build : clean_build (these (m [] ∷ [])) in_m None ≡ Done ((
  codes "index.html",
  lines ("<!DOCTYPE html>"
      ∷ "<html><head><meta charset=\"utf-8\"><title>Contents</title></head>" ∷ "<body>"
      ∷ "<nav class=\"toc\"><h1>Contents</h1></nav>" ∷ "</body></html>" ∷ []),
) ∷ []) []
unfolding clean_build plan_of map_included page_part all_pushes resolved_from followed_from body_html digits contents items_from
empty_build = refl

-- with less room than all pages have bytes there is no page, but their number
too_large : build_by rooms 368 (hello (p "A & B")) None (planned (hello (p "A & B"))) ≡ TooLarge 369
unfolding plan_of map_included page_part all_pushes resolved_from followed_from body_html digits contents items_from
too_large = refl
