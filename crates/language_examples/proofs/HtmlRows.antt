-- Pages whose bytes are known by hand.
use Prim.Native.String.{String}
use Rattle.std.specs.Fmt.{digits}
use Rattle.std.specs.Prelude.{◌≡◌, ℕ, List, [], ◌∷◌, ◌++◌, Ok, length, refl, codes}
use Rattle.dita_doc.specs.Tree.{Content}
use Rattle.dita_doc.specs.declared.doc.Attribute.{Attribute}
use Rattle.dita_doc.specs.declared.fact.Html.{Html}
use Rattle.map_spec.specs.Included.{map_included}
use Rattle.map_spec.specs.PlanOf.{plan_of}
use Rattle.html_spec.specs.Blocks.{body_html}
use Rattle.conref_spec.specs.Content.{followed_from, resolved_from}
use Rattle.map_spec.specs.Pushes.{all_pushes}
use Rattle.part_spec.specs.Parts.{page_part, rooms}
use Rattle.reader_spec.specs.World.{World}
use Rattle.language_examples.proofs.Short.{classed, doc, given, m, of_topic, plain, ref, report, text, texts, these}
use Rattle.language_examples.proofs.ShortPages.{alone, bare, bytes_of, id, in_t, is_shown, lines, p, page, page_in, see, shown, titled, title, with_text}

-- Whole pages

abbrev hello : Content → World
hello inside = these (m (ref "t.dita" ∷ []) ∷ titled "t.dita" "t" "Hello" (inside ∷ []) ∷ [])

-- a page has its title, its body and no links, each on a line; texts are escaped
hello_page : bytes_of (page 0 (hello (p "A & B"))) ≡ Ok (lines ("<!DOCTYPE html>"
    ∷ "<html><head><meta charset=\"utf-8\"><title>Hello</title></head>" ∷ "<body>"
    ∷ "<article id=\"t\"><h1>Hello</h1><div class=\"body\"><p>A &amp; B</p></div></article>" ∷ "</body></html>" ∷ []))
unfolding plan_of map_included page_part all_pushes resolved_from followed_from body_html digits
hello_page = refl

hello_length : see (λ html. length html.bytes) (page 0 (hello (p "A & B"))) ≡ Ok 181
unfolding plan_of map_included page_part all_pushes resolved_from followed_from body_html digits
hello_length = refl

abbrev transparent : Content
transparent = plain "p" [] (text "A & B" ∷ [])

-- an element without a class shows its content alone, with a fault
transparent_page : bytes_of (page 0 (hello transparent)) ≡ Ok (lines ("<!DOCTYPE html>"
    ∷ "<html><head><meta charset=\"utf-8\"><title>Hello</title></head>" ∷ "<body>"
    ∷ "<article id=\"t\"><h1>Hello</h1><div class=\"body\">A &amp; B</div></article>" ∷ "</body></html>" ∷ []))
unfolding plan_of map_included page_part all_pushes resolved_from followed_from body_html digits
transparent_page = refl

transparent_length : see (λ html. length html.bytes) (page 0 (hello transparent)) ≡ Ok 174
unfolding plan_of map_included page_part all_pushes resolved_from followed_from body_html digits
transparent_length = refl

transparent_fault : see (λ html. report html.faults) (page 0 (hello transparent))
    ≡ Ok (texts ("t.dita:10 NoClass p" ∷ []))
unfolding plan_of map_included page_part all_pushes resolved_from followed_from body_html digits
transparent_fault = refl

-- a text keeps its line feeds and backslashes
line_feed_page : bytes_of (page 0 (alone (p "a\\nb\nc\\q" ∷ []))) ≡ Ok (lines ("<!DOCTYPE html>"
    ∷ "<html><head><meta charset=\"utf-8\"><title>H</title></head>" ∷ "<body>"
    ∷ "<article id=\"t\"><h1>H</h1><div class=\"body\"><p>a\\nb" ∷ "c\\q</p></div></article>" ∷ "</body></html>" ∷ []))
unfolding plan_of map_included page_part all_pushes resolved_from followed_from body_html digits
line_feed_page = refl

-- Titles

abbrev deep : Content
deep = of_topic "topic" (id "a" ∷ []) (title "1" ∷ bare "topic" (title "2" ∷ bare "topic" (bare "topic"
    (bare "topic" (title "5" ∷ bare "topic" (title "6" ∷ bare "body" (bare "section" (title "S" ∷ []) ∷ [])
    ∷ bare "topic" (title "7" ∷ []) ∷ []) ∷ []) ∷ []) ∷ []) ∷ []) ∷ [])

-- a title has the level of its topic, and one more in a section, at most the sixth
levels : shown (page 0 (these (m (ref "t.dita" ∷ []) ∷ doc "t.dita" deep ∷ []))) ≡ is_shown
    ("<article id=\"a\"><h1>1</h1><article><h2>2</h2><article><article><article><h5>5</h5>"
    ∷ "<article><h6>6</h6><div class=\"body\"><section><h6>S</h6></section></div><article><h6>7</h6></article>"
    ∷ "</article>"
    ∷ "</article></article></article></article></article>" ∷ []) []
unfolding plan_of map_included page_part all_pushes resolved_from followed_from body_html digits
levels = refl

-- the nearest of topic, section, example, figure and table decides; a simple table is none of these
titles_within : shown (page 0 (alone (bare "section" (title "S" ∷ bare "fig" (title "F" ∷ []) ∷ []) ∷ bare "example"
    (title "E" ∷ bare "table" (title "T" ∷ []) ∷ []) ∷ bare "fig" (bare "table" (title "T" ∷ []) ∷ bare "simpletable"
    (title "F" ∷ []) ∷ []) ∷ bare "div" (title "D" ∷ []) ∷ []))) ≡ in_t
    ("<section><h2>S</h2><figure><figcaption>F</figcaption></figure></section>"
    ∷ "<div class=\"example\"><h2>E</h2><table><caption>T</caption></table></div>"
    ∷ "<figure><table><caption>T</caption></table><table><figcaption>F</figcaption></table></figure>"
    ∷ "<div><h1>D</h1></div>" ∷ []) []
unfolding plan_of map_included page_part all_pushes resolved_from followed_from body_html digits
titles_within = refl

-- under `dita` each topic is the first level, and so is a title outside any topic
titles_in_dita : shown (page 0 (these (m (ref "t.dita" ∷ []) ∷ doc "t.dita" (plain "dita" [] (title "D"
    ∷ bare "topic" (title "A" ∷ []) ∷ bare "topic" (title "B" ∷ []) ∷ [])) ∷ []))) ≡ is_shown
    ("<h1>D</h1><article><h1>A</h1></article><article><h1>B</h1></article>" ∷ []) []
unfolding plan_of map_included page_part all_pushes resolved_from followed_from body_html digits
titles_in_dita = refl

-- Attributes

-- the id of an element stands behind that of the nearest topic, also an empty one; an empty id is none
ids : shown (page 0 (these (m (ref "t.dita" ∷ []) ∷ doc "t.dita" (of_topic "topic" (id "t" ∷ []) (with_text "p" (id "a"
    ∷ []) "1"
    ∷ of_topic "topic" (id "u" ∷ []) (with_text "p" (id "a" ∷ []) "2" ∷ []) ∷ of_topic "topic" (id "" ∷ [])
    (with_text "p" (id "a\"" ∷ []) "3" ∷ with_text "p" (id "" ∷ []) "4" ∷ []) ∷ [])) ∷ []))) ≡ is_shown
    ("<article id=\"t\"><p id=\"t__a\">1</p><article id=\"u\"><p id=\"u__a\">2</p></article>"
    ∷ "<article><p id=\"__a&quot;\">3</p><p>4</p></article></article>" ∷ []) []
unfolding plan_of map_included page_part all_pushes resolved_from followed_from body_html digits
ids = refl

-- a note has its type behind its class, if it has one; values are escaped, and texts but for quotes
notes : shown (page 0 (alone (with_text "note" (given "type" "tip" ∷ id "n" ∷ []) "1" ∷ with_text "note" [] "2"
    ∷ with_text "note" (given "type" "" ∷ []) "3" ∷ with_text "note" (given "type" "<\"&>" ∷ []) "<\"&>" ∷ []))) ≡ in_t
    ("<div id=\"t__n\" class=\"note tip\">1</div><div class=\"note\">2</div><div class=\"note\">3</div>"
    ∷ "<div class=\"note &lt;&quot;&amp;&gt;\">&lt;\"&amp;&gt;</div>" ∷ []) []
unfolding plan_of map_included page_part all_pushes resolved_from followed_from body_html digits
notes = refl

-- the last type that the table has counts; an element of other types shows its content alone, without a fault
types : shown (page 0 (alone (classed "x" (codes "+ topic/ph hi-d/b x/y ") (id "b" ∷ []) (text "1" ∷ [])
    ∷ classed "x" (codes "- topic/lines a/b hi-d/i pr-d/codeph ") [] (text "2" ∷ [])
    ∷ classed "x" (codes "- x/y ") (id "c" ∷ []) (p "3" ∷ []) ∷ with_text "fn" [] "4" ∷ with_text "lq" [] "5" ∷ [])))
    ≡ in_t ("<b id=\"t__b\">1</b><code>2</code><p>3</p><span class=\"fn\">4</span><blockquote>5</blockquote>" ∷ []) []
unfolding plan_of map_included page_part all_pushes resolved_from followed_from body_html digits
types = refl

-- Tables

abbrev cell : String → String → Content
cell name words = bare name (text words ∷ [])

abbrev column : String → Content
column name = of_topic "colspec" (given "colname" name ∷ []) []

abbrev table : List Content → List Content → Content
table columns rows = bare "table" (bare "tgroup" (columns ++ bare "tbody" rows ∷ []) ∷ [])

abbrev entry : List Attribute → String → Content
entry attributes words = bare "row" (with_text "entry" attributes words ∷ [])

abbrev across : String → String → List Attribute
across first last = given "namest" first ∷ given "nameend" last ∷ []

-- a cell spans the columns from one to another, and a row more than it says
spans : shown (page 0 (alone (table (column "a" ∷ column "b" ∷ [])
    (entry (across "a" "b") "x" ∷ entry (given "morerows" "1" ∷ []) "y" ∷ []) ∷ []))) ≡ in_t
    ("<table><tbody><tr><td colspan=\"2\">x</td></tr><tr><td rowspan=\"2\">y</td></tr></tbody></table>" ∷ []) []
unfolding plan_of map_included page_part all_pushes resolved_from followed_from body_html digits
spans = refl

-- more rows are a number from 1 to 9999
rows : shown (page 0 (alone (table [] (entry (given "morerows" "9999" ∷ []) "1" ∷ entry (given "morerows" "10000"
    ∷ []) "2"
    ∷ entry (given "morerows" "0" ∷ []) "3" ∷ entry (given "morerows" "" ∷ []) "4" ∷ entry (given "morerows" "+1"
    ∷ []) "5"
    ∷ entry (given "morerows" "007" ∷ []) "6" ∷ []) ∷ []))) ≡ in_t
    ("<table><tbody><tr><td rowspan=\"10000\">1</td></tr><tr><td>2</td></tr><tr><td>3</td></tr><tr><td>4</td></tr>"
    ∷ "<tr><td>5</td></tr><tr><td rowspan=\"8\">6</td></tr></tbody></table>" ∷ []) []
unfolding plan_of map_included page_part all_pushes resolved_from followed_from body_html digits
rows = refl

-- columns are named in rising order; of equal names the first counts; rows come before columns, and an id before both
columns : shown (page 0 (alone (table (column "a" ∷ bare "colspec" [] ∷ plain "x" [] (column "b" ∷ []) ∷ column "a"
    ∷ [])
    (entry (across "b" "a") "1" ∷ entry (across "a" "a") "2" ∷ entry (across "a" "c") "3" ∷ entry (given "namest" "a"
    ∷ []) "4"
    ∷ entry (id "e" ∷ given "nameend" "b" ∷ given "namest" "a" ∷ given "morerows" "2" ∷ []) "5" ∷ []) ∷ []))) ≡ in_t
    ("<table><tbody><tr><td>1</td></tr><tr><td>2</td></tr><tr><td>3</td></tr><tr><td>4</td></tr>"
    ∷ "<tr><td id=\"t__e\" rowspan=\"3\" colspan=\"3\">5</td></tr></tbody></table>" ∷ []) ("t.dita:21 NoClass x" ∷ [])
unfolding plan_of map_included page_part all_pushes resolved_from followed_from body_html digits
columns = refl

-- cells head their columns in the head of a table, up to a table or its body within, and in that of a simple table
heads : shown (page 0 (alone (bare "table" (bare "tgroup" (bare "thead" (bare "row" (cell "entry" "1"
    ∷ cell "stentry" "2"
    ∷ bare "entry" (table [] (entry [] "3" ∷ []) ∷ bare "simpletable" (bare "sthead" (cell "stentry" "4" ∷ [])
    ∷ bare "strow"
    (cell "stentry" "5" ∷ cell "entry" "6" ∷ []) ∷ []) ∷ []) ∷ []) ∷ []) ∷ bare "tbody" (entry [] "7" ∷ []) ∷ []) ∷ [])
    ∷ [])))
    ≡ in_t ("<table><thead><tr><th>1</th><td>2</td><th><table><tbody><tr><td>3</td></tr></tbody></table>"
    ∷ "<table><tr><th>4</th></tr><tr><td>5</td><th>6</th></tr></table></th></tr></thead>"
    ∷ "<tbody><tr><td>7</td></tr></tbody></table>" ∷ []) []
unfolding plan_of map_included page_part all_pushes resolved_from followed_from body_html digits
heads = refl

-- What is left out

abbrev passed : String → Content
passed name = bare name (p "no" ∷ plain "x" [] (bare "foreign" [] ∷ []) ∷ [])

-- what is passed over goes with its content, without a fault; the text beside it stays
passed_over : shown (page 0 (alone (bare "p" (passed "prolog" ∷ passed "titlealts" ∷ text "a" ∷ passed "related-links"
    ∷ passed "data" ∷ passed "draft-comment" ∷ passed "required-cleanup" ∷ text "b" ∷ passed "indexterm" ∷ passed "alt"
    ∷ passed "desc" ∷ passed "colspec" ∷ []) ∷ []))) ≡ in_t ("<p>ab</p>" ∷ []) []
unfolding plan_of map_included page_part all_pushes resolved_from followed_from body_html digits
passed_over = refl

-- what is foreign goes with its content too, with a fault that has the element's name
foreign : shown (page 0 (alone (bare "p" (passed "foreign" ∷ classed "svg" (codes "+ topic/foreign svg-d/svg ") [] []
    ∷ bare "unknown" [] ∷ text "a" ∷ bare "object" (bare "foreign" [] ∷ []) ∷ []) ∷ []))) ≡ in_t ("<p>a</p>" ∷ [])
    ("t.dita:12 Foreign foreign" ∷ "t.dita:24 Foreign svg" ∷ "t.dita:27 Foreign unknown" ∷ "t.dita:31 Foreign object"
    ∷ [])
unfolding plan_of map_included page_part all_pushes resolved_from followed_from body_html digits
foreign = refl

-- faults of classes that are missing or can't be read; an element named `dita` has none
classes : shown (page 0 (alone (plain "x" (given "class" "topic/p" ∷ id "i" ∷ []) (p "1" ∷ plain "dita" [] (p "2" ∷ [])
    ∷ plain "y" [] (text "3" ∷ []) ∷ []) ∷ []))) ≡ in_t ("<p>1</p><p>2</p>3" ∷ [])
    ("t.dita:10 BadClass topic/p" ∷ "t.dita:23 NoClass y" ∷ [])
unfolding plan_of map_included page_part all_pushes resolved_from followed_from body_html digits
classes = refl

-- Limits

abbrev seen_whole : Html → List ℕ × List (List ℕ)
seen_whole html = (html.bytes, report html.faults)

abbrev seen_length : Html → ℕ × List (List ℕ)
seen_length html = (length html.bytes, report html.faults)

-- a page that is too long has an empty body and no links, with a fault at its root
page_too_large : see seen_whole
    (page_in (record rooms { bytes = 180 }) 0 (hello (p "A & B"))) ≡ Ok (
      lines ("<!DOCTYPE html>"
          ∷ "<html><head><meta charset=\"utf-8\"><title>Hello</title></head>" ∷ "<body>" ∷ "" ∷ "</body></html>" ∷ []),
      texts ("t.dita:1 PageTooLarge" ∷ []),
    )
unfolding plan_of map_included page_part all_pushes resolved_from followed_from body_html digits
page_too_large = refl

page_just_fits : see seen_length
    (page_in (record rooms { bytes = 181 }) 0 (hello (p "A & B"))) ≡ Ok (181, [])
unfolding plan_of map_included page_part all_pushes resolved_from followed_from body_html digits
page_just_fits = refl
