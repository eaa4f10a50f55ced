-- The index of terms, for content whose terms are known by hand, and for whole builds.
use Prim.Native.String.{String}
use Rattle.std.specs.Fmt.{digits}
use Rattle.std.specs.Prelude.{◌≡◌, ◌++◌, ℕ, List, [], ◌∷◌, Option, Some, None, codes, option_map, refl}
use Rattle.std.specs.List.{flat_map}
use Rattle.dita_doc.specs.Lines.{line}
use Rattle.dita_doc.specs.Tree.{Content}
use Rattle.dita_doc.specs.declared.content.TermEntry.{TermEntry}
use Rattle.dita_doc.specs.declared.fact.Html.{Html}
use Rattle.dita_doc.specs.declared.plan.PagePlan.{PagePlan}
use Rattle.dita_doc.specs.declared.plan.Plan.{Plan}
use Rattle.map_spec.specs.Included.{map_included}
use Rattle.map_spec.specs.PlanOf.{plan_of}
use Rattle.map_spec.specs.Pushes.{all_pushes}
use Rattle.map_spec.specs.Written.{Written, written_in}
use Rattle.html_spec.specs.Blocks.{body_html}
use Rattle.html_spec.specs.Contents.{contents, items_from}
use Rattle.html_spec.specs.Terms.{terms_html, terms_of}
use Rattle.conref_spec.specs.Content.{followed_from, resolved_from}
use Rattle.part_spec.specs.Parts.{clean_terms, page_content, page_part}
use Rattle.reader_spec.specs.World.{World}
use Rattle.language_examples.proofs.Short.{ditaval, given, of_topic, prop, text, texts, these}
use Rattle.language_examples.proofs.ShortPages.{alone, alone_with, bare, conref, id, lines, p, topic_of}

-- Entries

abbrev in_p : List Content → Written
in_p inside = written_in (codes "t.dita") (of_topic "p" [] inside)

abbrev term : List Content → Content
term inside = of_topic "indexterm" [] inside

abbrev entry : List String → ℕ → TermEntry
entry path page = record { path = texts path; page = page }

abbrev two : List Content
two = term (text "B" ∷ []) ∷ term (text "A" ∷ term (text "C" ∷ []) ∷ []) ∷ []

-- a term that holds another gives no entry of its own
two_terms : terms_of 0 (in_p two) ≡ entry ("B" ∷ []) 0 ∷ entry ("A" ∷ "C" ∷ []) 0 ∷ []
two_terms = refl

-- blanks are folded; what stands in a term or a base term within is no text of the term around it
folded_terms : terms_of 7 (in_p (term (text " A " ∷ of_topic "index-base" [] (text "x" ∷ [])
    ∷ of_topic "ph" [] (text "b\n c" ∷ []) ∷ term (text "D" ∷ []) ∷ term (text "E" ∷ []) ∷ []) ∷ []))
    ≡ entry ("A b c" ∷ "D" ∷ []) 7 ∷ entry ("A b c" ∷ "E" ∷ []) 7 ∷ []
folded_terms = refl

-- an entry with an empty text is dropped
empty_terms : terms_of 0 (in_p (term (text " " ∷ []) ∷ term (term (text "A" ∷ []) ∷ []) ∷ [])) ≡ []
empty_terms = refl

-- The page

abbrev page_named : String → PagePlan
page_named name = record {
  id = record { doc = codes "t.dita"; scope = 0; filters = []; affixes = [] };
  node = 0;
  name = codes name;
}

abbrev plan : Plan
plan = record {
  nodes = [];
  scopes = [];
  pages = page_named "t.html" ∷ page_named "u.html" ∷ [];
  targets = [];
  documents = [];
  faults = [];
}

abbrev bytes : List TermEntry → Option (List ℕ)
bytes entries = option_map (λ (html : Html). html.bytes) (terms_html entries plan (texts ("H" ∷ "&" ∷ [])))

abbrev body : List String → Option (List ℕ)
body parts = Some (lines ("<!DOCTYPE html>" ∷ "<html><head><meta charset=\"utf-8\"><title>Index</title></head>"
    ∷ "<body>" ∷ []) ++ line (flat_map codes parts) ++ line (codes "</body></html>"))

two_listed : bytes (terms_of 0 (in_p two)) ≡ body
    ("<nav class=\"terms\"><h1>Index</h1><ul><li>A<ul><li>C <a href=\"t.html\">H</a></li></ul></li>"
    ∷ "<li>B <a href=\"t.html\">H</a></li></ul></nav>" ∷ [])
two_listed = refl

-- each page once, in the plan's order, before what stands below
pages_listed : bytes (entry ("A" ∷ []) 1 ∷ entry ("A" ∷ "B" ∷ []) 0 ∷ entry ("A" ∷ []) 0 ∷ entry ("A" ∷ []) 1 ∷ [])
    ≡ body ("<nav class=\"terms\"><h1>Index</h1><ul><li>A <a href=\"t.html\">H</a> <a href=\"u.html\">&amp;</a>"
    ∷ "<ul><li>B <a href=\"t.html\">H</a></li></ul></li></ul></nav>" ∷ [])
pages_listed = refl

-- no page without an entry
none_listed : terms_html [] plan [] ≡ None
none_listed = refl

-- Whole builds

abbrev of_build : Option (List ℕ) → World → Option (List ℕ)
of_build val world = option_map (λ (html : Html). html.bytes) (clean_terms world (codes "m.ditamap") val)

two_of_build : of_build None (alone (bare "p" two ∷ [])) ≡ body
    ("<nav class=\"terms\"><h1>Index</h1><ul><li>A<ul><li>C <a href=\"t.html\">H</a></li></ul></li>"
    ∷ "<li>B <a href=\"t.html\">H</a></li></ul></nav>" ∷ [])
unfolding clean_terms page_content plan_of map_included page_part all_pushes resolved_from followed_from body_html digits contents items_from
two_of_build = refl

-- terms are those of resolved content: what is excluded is gone, and what is taken is there
resolved_terms : of_build (Some (codes "v.ditaval")) (alone_with
    (ditaval "v.ditaval" (prop "exclude" "audience" "x" ∷ []) ∷ topic_of "s.dita" "s" (of_topic "p" (id "a" ∷ []) (term (text "S" ∷ []) ∷ []) ∷ []) ∷ [])
    (of_topic "p" (given "audience" "x" ∷ []) (term (text "X" ∷ []) ∷ [])
    ∷ of_topic "p" (conref "s.dita#s/a" ∷ []) (term (text "T" ∷ []) ∷ []) ∷ [])) ≡ body
    ("<nav class=\"terms\"><h1>Index</h1><ul><li>S <a href=\"t.html\">H</a></li></ul></nav>" ∷ [])
unfolding clean_terms page_content plan_of map_included page_part all_pushes resolved_from followed_from body_html digits contents items_from
resolved_terms = refl

-- a build without terms has no such page, and one that is stopped has none
none_of_build : of_build None (alone (p "1" ∷ [])) ≡ None
unfolding clean_terms page_content plan_of map_included page_part all_pushes resolved_from followed_from body_html digits contents items_from
none_of_build = refl

none_of_stopped : of_build None (these []) ≡ None
unfolding clean_terms page_content plan_of map_included page_part all_pushes resolved_from followed_from body_html digits contents items_from
none_of_stopped = refl
