-- Pages whose elements lead elsewhere, with links and faults that are known by hand.
use Prim.Native.String.{String}
use Rattle.std.specs.Fmt.{digits}
use Rattle.std.specs.Prelude.{◌≡◌, List, [], ◌∷◌, refl, codes}
use Rattle.dita_doc.specs.Tree.{Content}
use Rattle.dita_doc.specs.declared.doc.Attribute.{Attribute}
use Rattle.map_spec.specs.Included.{map_included}
use Rattle.map_spec.specs.Keys.{chain_from}
use Rattle.map_spec.specs.PlanOf.{plan_of}
use Rattle.map_spec.specs.Scopes.{found_from, qualified}
use Rattle.html_spec.specs.Blocks.{body_html}
use Rattle.conref_spec.specs.Content.{followed_from, resolved_from}
use Rattle.map_spec.specs.Pushes.{all_pushes}
use Rattle.part_spec.specs.Parts.{page_part}
use Rattle.reader_spec.specs.World.{World}
use Rattle.language_examples.proofs.Short.{Document, classed, given, href, key, keyword, m, of_map, of_topic, plain, ref, text, these, topic, topicref}
use Rattle.language_examples.proofs.ShortPages.{alone, alone_with, bare, behind, conref, id, in_t, item, nav, no_links, page, shown, t, titled, topic_of, with_text}

abbrev u : Document
u = titled "u.dita" "u" "U" []

-- two pages, and keys: `u` and `v` lead to the second, `n` has a text, `x` leads away, `w` to a document without a page
abbrev resource : String → List Attribute → List Content → Content
resource name attributes inside =
    topicref (given "keys" name ∷ given "processing-role" "resource-only" ∷ attributes) inside

abbrev two : List Content → World
two inside = these (m (ref "t.dita" ∷ ref "u.dita" ∷ resource "u" (href "u.dita" ∷ []) []
    ∷ resource "v" (href "u.dita#v" ∷ []) []
    ∷ resource "x" (href "http://x/y" ∷ given "scope" "external" ∷ given "navtitle" "X" ∷ []) [] ∷ key "n" "N"
    ∷ resource "w" (href "w.dita" ∷ []) [] ∷ []) ∷ t inside ∷ u ∷ topic "w.dita" "w" ∷ [])

abbrev xref : List Attribute → Content
xref attributes = of_topic "xref" attributes []

abbrev by_key : String → Attribute
by_key value = given "keyref" value

-- Cross references

-- to a page, away, and to a document without a page, which is a fault; the text is a title or the value
three_ways : shown (page 0 (these (m (ref "t.dita" ∷ ref "u.dita" ∷ []) ∷ t (bare "p" (xref (href "v.dita" ∷ []) ∷ [])
    ∷ bare "p" (xref (href "u.dita" ∷ []) ∷ xref (href "http://x/y" ∷ given "scope" "external" ∷ []) ∷ []) ∷ [])
    ∷ topic "u.dita" "u" ∷ topic "v.dita" "v" ∷ []))) ≡ in_t ("<p><span>H</span></p><p><a href=\"u.html\">H</a>"
    ∷ "<a href=\"http://x/y\">http://x/y</a></p>" ∷ []) ("t.dita:12 LinkNoPage v.dita" ∷ [])
unfolding plan_of map_included page_part all_pushes resolved_from followed_from body_html digits
three_ways = refl

-- a topic or an element that is named stands behind the name of the page; its text is the title of the topic
to_elements : shown (page 0 (alone (xref (href "#t/e" ∷ []) ∷ xref (href "#./e" ∷ []) ∷ xref (href "t.dita#t" ∷ id "i"
    ∷ [])
    ∷ with_text "xref" (href "#n/e" ∷ []) "own" ∷ []))) ≡ in_t
    ("<a href=\"t.html#t__e\">H</a><a href=\"t.html#t__e\">H</a><a id=\"t__i\" href=\"t.html#t\">H</a>"
    ∷ "<a href=\"t.html#n__e\">own</a>" ∷ []) []
unfolding plan_of map_included page_part all_pushes resolved_from followed_from body_html digits
to_elements = refl

-- an href that can't be read shows its value, and none shows nothing; a file keeps what stands behind its name
odd_hrefs : shown (page 0 (alone (xref (href "../x" ∷ []) ∷ xref (href "" ∷ []) ∷ xref [] ∷ xref (href "d/f.txt#a#b"
    ∷ given "format" "txt" ∷ [])
    ∷ xref (href "t.dita" ∷ given "scope" "peer" ∷ []) ∷ xref (href "#a/b/c" ∷ []) ∷ []))) ≡ in_t
    ("<span>../x</span><span></span><span></span><a href=\"d/f.txt#a#b\">d/f.txt#a#b</a><a href=\"t.dita\">t.dita</a>"
    ∷ "<span>#a/b/c</span>" ∷ []) ("t.dita:10 BadReference ../x" ∷ "t.dita:14 BadReference"
    ∷ "t.dita:31 BadReference #a/b/c" ∷ [])
unfolding plan_of map_included page_part all_pushes resolved_from followed_from body_html digits
odd_hrefs = refl

-- from a page in a folder the way leads up first
from_folder : shown (page 0 (these (m (ref "d/t.dita" ∷ ref "u.dita" ∷ [])
    ∷ topic_of "d/t.dita" "t" (xref (href "../u.dita" ∷ [])
    ∷ of_topic "image" (href "i.png" ∷ []) [] ∷ []) ∷ u ∷ []))) ≡ in_t
    ("<a href=\"../u.html\">U</a><img src=\"../d/i.png\" alt=\"\">" ∷ []) []
unfolding plan_of map_included page_part all_pushes resolved_from followed_from body_html digits
from_folder = refl

-- an href that was taken from a target is read in the document where it was written, and `#./` where it is brought in
taken_hrefs : shown (page 0 (alone_with (topic_of "d/s.dita" "s" (bare "p" (xref (id "a" ∷ href "f"
    ∷ given "format" "x" ∷ []) ∷ xref (id "b"
    ∷ href "#./e" ∷ []) ∷ xref (id "c" ∷ href "f" ∷ given "format" "x" ∷ []) ∷ []) ∷ [])
    ∷ []) (xref (conref "d/s.dita#s/a" ∷ [])
    ∷ xref (conref "d/s.dita#s/b" ∷ []) ∷ xref (conref "d/s.dita#s/c" ∷ href "g" ∷ []) ∷ []))) ≡ in_t
    ("<a href=\"d/f\">f</a><a href=\"t.html#t__e\">H</a><a href=\"g\">g</a>" ∷ []) []
unfolding plan_of map_included page_part all_pushes resolved_from followed_from body_html digits
taken_hrefs = refl

-- Keys

-- `key/id` is that element of the topic that the key's reference names, or of the first of its document
key_with_id : shown (page 0 (two (xref (by_key "u/e" ∷ []) ∷ xref (by_key "v/e" ∷ []) ∷ xref (by_key "u" ∷ [])
    ∷ xref (by_key "v" ∷ [])
    ∷ xref (by_key "x/e" ∷ []) ∷ xref (by_key "n/e" ∷ []) ∷ [])))
    ≡ in_t ("<a href=\"u.html#u__e\">U</a><a href=\"u.html#v__e\">U</a>"
    ∷ "<a href=\"u.html\">U</a><a href=\"u.html#v\">U</a><a href=\"http://x/y\">X</a><span>N</span>" ∷ []) []
unfolding plan_of map_included page_part all_pushes resolved_from followed_from body_html digits chain_from found_from
    qualified
key_with_id = refl

-- an element whose key has a link holds the link, around its content or the text of the key
keyed_elements : shown (page 0 (two (of_topic "ph" (by_key "u" ∷ id "i" ∷ []) [] ∷ with_text "p" (by_key "x"
    ∷ []) "own" ∷ of_topic "term" (by_key "n" ∷ [])
    [] ∷ with_text "ph" (by_key "n" ∷ []) "own" ∷ classed "x" (codes "- x/y ") (by_key "u/e" ∷ []) []
    ∷ bare "table" (bare "row"
    (of_topic "entry" (by_key "u" ∷ []) [] ∷ []) ∷ []) ∷ [])))
    ≡ in_t ("<span id=\"t__i\"><a href=\"u.html\">U</a></span>"
    ∷ "<p><a href=\"http://x/y\">own</a></p><span>N</span><span>own</span><a href=\"u.html#u__e\">U</a>"
    ∷ "<table><tr><td><a href=\"u.html\">U</a></td></tr></table>" ∷ []) []
unfolding plan_of map_included page_part all_pushes resolved_from followed_from body_html digits chain_from found_from
    qualified
keyed_elements = refl

-- a key that leads to a document without a page is a fault of the element, with the key's text and no link
key_without_page : shown (page 0 (two (of_topic "ph" (by_key "w" ∷ []) [] ∷ xref (by_key "w/e" ∷ [])
    ∷ bare "data" (xref (by_key "w" ∷ []) ∷ [])
    ∷ []))) ≡ in_t ("<span>H</span><span>H</span>" ∷ [])
    ("t.dita:10 LinkNoPage w.dita" ∷ "t.dita:14 LinkNoPage w.dita" ∷ "t.dita:20 LinkNoPage w.dita" ∷ [])
unfolding plan_of map_included page_part all_pushes resolved_from followed_from body_html digits chain_from found_from
    qualified
key_without_page = refl

-- an undefined key is a fault, unless an href stands beside it; a key on an element without a class says nothing
undefined_keys : shown (page 0 (two (of_topic "ph" (by_key "no" ∷ []) [] ∷ xref (by_key "no" ∷ href "u.dita" ∷ [])
    ∷ xref (by_key "no/e" ∷ []) ∷ xref (by_key "n" ∷ href "u.dita" ∷ []) ∷ of_topic "ph" (by_key "no" ∷ href "u.dita"
    ∷ []) []
    ∷ plain "x" (by_key "no" ∷ []) [] ∷ plain "x" (by_key "u" ∷ []) [] ∷ []))) ≡ in_t
    ("<span></span><a href=\"u.html\">U</a><span></span><span>N</span><span></span>" ∷ [])
    ("t.dita:10 KeyUndefined no" ∷ "t.dita:19 KeyUndefined no" ∷ "t.dita:33 NoClass x" ∷ "t.dita:36 NoClass x" ∷ [])
unfolding plan_of map_included page_part all_pushes resolved_from followed_from body_html digits chain_from found_from
    qualified
undefined_keys = refl

-- Images

abbrev image : List Attribute → Content
image attributes = of_topic "image" attributes []

-- a document of ours that a key names counts as the file of its name; where the key has no target, the href counts
images_by_key : shown (page 0 (two (image (by_key "v" ∷ []) ∷ image (by_key "w/e" ∷ []) ∷ image (by_key "x" ∷ href "i"
    ∷ []) ∷ image (by_key "n"
    ∷ href "i#j" ∷ []) ∷ image (by_key "no" ∷ href "i" ∷ []) ∷ image (by_key "no" ∷ []) ∷ image [] ∷ []))) ≡ in_t
    ("<img src=\"u.dita\" alt=\"\"><img src=\"w.dita\" alt=\"\"><img src=\"http://x/y\" alt=\"\">"
    ∷ "<img src=\"i#j\" alt=\"\">"
    ∷ "<img src=\"i\" alt=\"\"><img src=\"\" alt=\"\"><img src=\"\" alt=\"\">" ∷ []) ("t.dita:33 KeyUndefined no" ∷ [])
unfolding plan_of map_included page_part all_pushes resolved_from followed_from body_html digits chain_from found_from
    qualified
images_by_key = refl

-- an href is read as that of a file; the attribute for the text in its place comes before the element
images_by_href : shown (page 0 (alone (of_topic "image" (href "i\"" ∷ given "alt" "<\"" ∷ id "i"
    ∷ []) (bare "alt" (text "no" ∷ []) ∷ [])
    ∷ of_topic "image" (href "" ∷ []) (plain "x" [] (bare "alt" (text " a  b " ∷ []) ∷ []) ∷ bare "alt" (text "no"
    ∷ []) ∷ [])
    ∷ of_topic "image" (href "" ∷ given "scope" "external" ∷ given "alt" "" ∷ []) (bare "alt" (text "no" ∷ []) ∷ [])
    ∷ image (href "a:b" ∷ [])
    ∷ image (href "t.dita" ∷ []) ∷ image (href "/i" ∷ []) ∷ []))) ≡ in_t
    ("<img id=\"t__i\" src=\"i&quot;\" alt=\"&lt;&quot;\"><img src=\"\" alt=\"a b\"><img src=\"\" alt=\"\">"
    ∷ "<img src=\"a:b\" alt=\"\">"
    ∷ "<img src=\"t.dita\" alt=\"\"><img src=\"\" alt=\"\">" ∷ []) ("t.dita:20 BadReference"
    ∷ "t.dita:52 BadReference /i" ∷ [])
unfolding plan_of map_included page_part all_pushes resolved_from followed_from body_html digits
images_by_href = refl

-- Links

abbrev link : List Attribute → List Content → Content
link attributes inside = of_topic "link" attributes inside

abbrev linked : List Content → World
linked links = two (bare "related-links" links ∷ [])

-- a link has the title of its target, the text of its key, or its own text, also an empty one; each address stands once
links : behind (page 0 (linked (link (href "u.dita" ∷ []) [] ∷ link (href "u.dita" ∷ []) (bare "linktext" (text "no"
    ∷ []) ∷ [])
    ∷ link (href "http://x/y" ∷ []) (plain "x" [] (bare "linktext" (text " A  & B " ∷ []) ∷ []) ∷ [])
    ∷ link (by_key "v" ∷ []) [] ∷ link (href "u.dita#a/b" ∷ []) (bare "linktext" [] ∷ []) ∷ [])))
    ≡ nav (item "related" "u.html" "U"
    ∷ item "related" "http://x/y" "A &amp; B" ∷ item "related" "u.html#v" "U" ∷ item "related" "u.html#a__b" "" ∷ [])
unfolding plan_of map_included page_part all_pushes resolved_from followed_from body_html digits chain_from found_from
    qualified
links = refl

-- a link to the page itself is none, with a fragment too, nor is one without a target, or to a document without a page
no_link : behind (page 0 (linked (link (href "#t/e" ∷ []) [] ∷ link (href "t.dita" ∷ []) [] ∷ link [] []
    ∷ link (by_key "n" ∷ []) []
    ∷ link (href "w.dita" ∷ []) [] ∷ []))) ≡ no_links
unfolding plan_of map_included page_part all_pushes resolved_from followed_from body_html digits chain_from found_from
    qualified
no_link = refl

abbrev in_body : World
in_body = two (bare "p" (link (href "u.dita" ∷ []) [] ∷ link (href "x" ∷ given "format" "x" ∷ []) (bare "desc" []
    ∷ text "own" ∷ [])
    ∷ link (by_key "x" ∷ []) (bare "linktext" (text "T" ∷ []) ∷ []) ∷ []) ∷ [])

-- a link counts wherever it stands; there it shows its text or its content, and links if it is keyed
body_links : behind (page 0 in_body) ≡ nav (item "related" "u.html" "U" ∷ item "related" "x" "x"
    ∷ item "related" "http://x/y" "T" ∷ [])
unfolding plan_of map_included page_part all_pushes resolved_from followed_from body_html digits chain_from found_from
    qualified
body_links = refl

body_of_links : shown (page 0 in_body) ≡ in_t ("<p>Uown<a href=\"http://x/y\">T</a></p>" ∷ []) []
unfolding plan_of map_included page_part all_pushes resolved_from followed_from body_html digits chain_from found_from
    qualified
body_of_links = refl

-- the link of a table comes first, with the title of its page
after_rows : behind (page 0 (these (m (ref "t.dita" ∷ ref "u.dita"
    ∷ of_map "reltable" [] (of_map "relrow" [] (of_map "relcell" []
    (ref "t.dita" ∷ []) ∷ of_map "relcell" [] (ref "u.dita" ∷ []) ∷ []) ∷ []) ∷ [])
    ∷ t (bare "related-links" (link (href "a:b" ∷ []) []
    ∷ link (href "u.dita" ∷ []) (bare "linktext" (text "no" ∷ []) ∷ []) ∷ []) ∷ []) ∷ u ∷ [])))
    ≡ nav (item "related" "u.html" "U" ∷ item "related" "a:b" "a:b" ∷ [])
unfolding plan_of map_included page_part all_pushes resolved_from followed_from body_html digits
after_rows = refl

-- Odd types

-- the last type that the table has decides whether an element is a link itself; any other is one by its key alone
odd_types : shown (page 0 (two (classed "x" (codes "+ topic/xref hi-d/b ") (href "u.dita" ∷ []) (text "1" ∷ [])
    ∷ classed "x" (codes "+ topic/image hi-d/b ") (href "u.dita" ∷ []) (text "2" ∷ [])
    ∷ classed "x" (codes "+ topic/xref hi-d/b ") (by_key "u" ∷ []) (text "3" ∷ [])
    ∷ classed "x" (codes "+ topic/ph topic/xref ") (href "u.dita" ∷ []) []
    ∷ classed "x" (codes "+ topic/xref x/y ") (href "u.dita" ∷ [])
    [] ∷ []))) ≡ in_t
    ("<b>1</b><b>2</b><b><a href=\"u.html\">3</a></b><a href=\"u.html\">U</a><a href=\"u.html\">U</a>" ∷ []) []
unfolding plan_of map_included page_part all_pushes resolved_from followed_from body_html digits chain_from found_from
    qualified
odd_types = refl

-- Scopes

abbrev ph_by : String → Content
ph_by value = of_topic "ph" (by_key value ∷ []) []

abbrev scope : String → List Content → Content
scope name inside = topicref (given "keyscope" name ∷ []) inside

abbrev two_scopes : World
two_scopes = these (m (scope "a" (key "k" "A" ∷ key "only" "one" ∷ ref "t.dita" ∷ []) ∷ scope "b" (key "only" "two"
    ∷ ref "t.dita" ∷ []) ∷ key "k" "R" ∷ []) ∷ t (bare "p" (ph_by "k" ∷ ph_by "only" ∷ []) ∷ []) ∷ [])

-- a document has a page for each scope in which it is used, and keys are those of the page's scope
first_scope : shown (page 0 two_scopes) ≡ in_t ("<p><span>R</span><span>one</span></p>" ∷ []) []
unfolding plan_of map_included page_part all_pushes resolved_from followed_from body_html digits chain_from found_from
    qualified
first_scope = refl

second_scope : shown (page 1 two_scopes) ≡ in_t ("<p><span>R</span><span>two</span></p>" ∷ []) []
unfolding plan_of map_included page_part all_pushes resolved_from followed_from body_html digits chain_from found_from
    qualified
second_scope = refl

abbrev round : World
round = these (m (topicref (given "keys" "a" ∷ given "keyref" "b" ∷ []) (keyword "X" ∷ []) ∷ topicref (given "keys" "b"
    ∷ given "keyref" "a" ∷ []) [] ∷ ref "t.dita" ∷ []) ∷ t (bare "p" (ph_by "a" ∷ []) ∷ []) ∷ [])

-- the faults of a key come with each use of it
key_cycle : shown (page 0 round) ≡ in_t ("<p><span>X</span></p>" ∷ []) ("m.ditamap:3 KeyCycle a" ∷ [])
unfolding plan_of map_included page_part all_pushes resolved_from followed_from body_html digits chain_from found_from
    qualified
key_cycle = refl
