-- The build of a map with one topic, and one of a map that is not stored, with the language that is published: what a
-- transcript shows of them, and what the rows of their parts count for.
use Prim.Native.String.{String}
use Rattle.std.specs.Fmt.{digits}
use Rattle.std.specs.Prelude.{◌≡◌, ℕ, List, [], ◌∷◌, None, codes, map}
use Rattle.std.specs.List.{flat_map}
use Rattle.std.proofs.Common.{refl, subst, sym, arith}
use Rattle.build_spec.specs.Built.{BuildOutcome, Done, Stopped}
use Rattle.conref_spec.specs.Content.{followed_from, resolved_from}
use Rattle.desk_language.specs.Language.{bytes_of_parts}
use Rattle.dita_doc.specs.Desk.{State}
use Rattle.dita_doc.specs.Lines.{line}
use Rattle.dita_doc.specs.Tree.{Chars, Content, Element, End, nodes_of}
use Rattle.dita_doc.specs.declared.doc.Attribute.{Attribute}
use Rattle.dita_doc.specs.declared.plan.PlanStop.TheVariants as stops
use Rattle.html_spec.specs.Blocks.{body_html}
use Rattle.html_spec.specs.Contents.{contents, items_from}
use Rattle.map_spec.specs.Included.{map_included}
use Rattle.map_spec.specs.PlanOf.{plan_of}
use Rattle.map_spec.specs.Pushes.{all_pushes}
use Rattle.part_spec.specs.Parts.{clean_build, page_part}
use Rattle.transcript_text.specs.Transcript.{BuiltPages, InRow, IsContents, IsPage, OfBuild, PageShown, PartShown, RowShown, StoppedBy}
use Rattle.run_spec.specs.Cites.{ShowsBuilt}
use Rattle.run_spec.specs.Language.{dita}
use Rattle.faithful_examples.proofs.Shown.{lines}

abbrev pub in_m : List ℕ
in_m = codes "m.ditamap"

abbrev pub in_t : List ℕ
in_t = codes "t.dita"

abbrev pub given : String → String → Attribute
given name value = record { name = codes name; value = codes value }

abbrev pub map_tree : Content
map_tree = Element (codes "map") (given "class" "- map/map " ∷ []) 0 1
    (Element (codes "topicref") (given "class" "- map/topicref " ∷ given "href" "t.dita" ∷ []) 0 3 End End) End

abbrev pub topic_tree : Content
topic_tree = Element (codes "topic") (given "class" "- topic/topic " ∷ given "id" "t" ∷ []) 0 1
    (Element (codes "title") (given "class" "- topic/title " ∷ []) 0 4 (Chars (codes "Hello") 0 0 End)
    (Element (codes "body") (given "class" "- topic/body " ∷ []) 0 8
    (Element (codes "p") (given "class" "- topic/p " ∷ []) 0 10 (Chars (codes "A & B") 0 0 End) End) End)) End

abbrev pub map_lines : List String
map_lines = "(map" ∷ "Aclass - map/map " ∷ "(topicref" ∷ "Aclass - map/topicref " ∷ "Ahref t.dita" ∷ ")topicref"
    ∷ ")map" ∷ []

abbrev pub map_body : List ℕ
map_body = lines map_lines

abbrev pub topic_lines : List String
topic_lines = "(topic" ∷ "Aclass - topic/topic " ∷ "Aid t" ∷ "(title" ∷ "Aclass - topic/title " ∷ "-Hello" ∷ ")title"
    ∷ "(body" ∷ "Aclass - topic/body " ∷ "(p" ∷ "Aclass - topic/p " ∷ "-A & B" ∷ ")p" ∷ ")body" ∷ ")topic" ∷ []

abbrev pub topic_body : List ℕ
topic_body = lines topic_lines

abbrev pub map_alone : State
map_alone = record { name = in_m; nodes = nodes_of map_tree 0; bytes = map_body; version = 1 } ∷ []

abbrev pub stored : State
stored = record { name = in_m; nodes = nodes_of map_tree 0; bytes = map_body; version = 1 }
    ∷ record { name = in_t; nodes = nodes_of topic_tree 0; bytes = topic_body; version = 2 } ∷ []

abbrev pub topic : List (List ℕ)
topic = map codes ("<!DOCTYPE html>" ∷ "<html><head><meta charset=\"utf-8\"><title>Hello</title></head>" ∷ "<body>"
    ∷ "<article id=\"t\"><h1>Hello</h1><div class=\"body\"><p>A &amp; B</p></div></article>" ∷ "</body></html>" ∷ [])

abbrev pub contents_page : List (List ℕ)
contents_page = map codes ("<!DOCTYPE html>" ∷ "<html><head><meta charset=\"utf-8\"><title>Contents</title></head>"
    ∷ "<body>" ∷ "<nav class=\"toc\"><h1>Contents</h1><ul><li><a href=\"t.html\">Hello</a></li></ul></nav>"
    ∷ "</body></html>" ∷ [])

abbrev pub build : BuildOutcome
build = Done ((codes "t.html", flat_map line topic) ∷ (codes "index.html", flat_map line contents_page) ∷ []) []

pub its_build : dita.clean stored in_m None ≡ build
unfolding clean_build plan_of map_included page_part all_pushes resolved_from followed_from body_html digits contents
    items_from
its_build = refl

-- a plan with two nodes and one page, a page of 181 bytes and a contents page of 188; two names are stored
pub its_parts : bytes_of_parts dita stored in_m None ≡ 896 ∷ 309 ∷ 316 ∷ []
unfolding plan_of map_included page_part all_pushes resolved_from followed_from body_html digits contents items_from
its_parts = refl

-- The transcript of the build

abbrev pub shown_row : ℕ → PartShown → List (List ℕ) → RowShown
shown_row serial part text = record { serial = serial; part = part; map = in_m; val = None; lines = text }

abbrev pub rows : List RowShown
rows = shown_row 2 (IsPage 0) topic ∷ shown_row 3 IsContents contents_page ∷ []

abbrev pub shown : List PageShown
shown = record { name = codes "t.html"; mark = InRow 2 } ∷ record { name = codes "index.html"; mark = InRow 3 } ∷ []

pub shows_pages : ShowsBuilt rows in_m None build (OfBuild (BuiltPages shown []))
shows_pages = (
  shown,
  refl,
  (
    record {
      named = refl;
      serial = 2;
      cited = refl;
      lines = topic;
      bytes = refl;
      stands = (0, omega arith, refl);
    },
    (
      record {
        named = refl;
        serial = 3;
        cited = refl;
        lines = contents_page;
        bytes = refl;
        stands = (1, omega arith, refl);
      },
      refl,
    ),
  ),
)

its_shown : ShowsBuilt rows in_m None (dita.clean stored in_m None) (OfBuild (BuiltPages shown []))
its_shown = subst (λ given. ShowsBuilt rows in_m None given (OfBuild (BuiltPages shown []))) (sym its_build) shows_pages

-- A map that is not stored: its build is stopped, and has one part, which has no value

pub no_map : dita.clean [] in_m None ≡ Stopped stops.NoMap
unfolding clean_build plan_of
no_map = refl

pub no_map_parts : bytes_of_parts dita [] in_m None ≡ 64 ∷ []
unfolding plan_of
no_map_parts = refl

pub no_map_shown : ShowsBuilt [] in_m None (dita.clean [] in_m None) (OfBuild (StoppedBy stops.NoMap))
no_map_shown = subst (λ given. ShowsBuilt [] in_m None given (OfBuild (StoppedBy stops.NoMap))) (sym no_map) refl
