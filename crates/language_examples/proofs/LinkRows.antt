-- Pages with links, whose bodies, links and faults are known by hand.
use Prim.Native.String.{String}
use Rattle.std.specs.Fmt.{digits}
use Rattle.std.specs.Prelude.{◌≡◌, List, [], ◌∷◌, Ok, refl}
use Rattle.dita_doc.specs.Tree.{Content}
use Rattle.dita_doc.specs.declared.doc.Attribute.{Attribute}
use Rattle.map_spec.specs.Included.{map_included}
use Rattle.map_spec.specs.PlanOf.{plan_of}
use Rattle.html_spec.specs.Blocks.{body_html}
use Rattle.conref_spec.specs.Content.{followed_from, resolved_from}
use Rattle.map_spec.specs.Pushes.{all_pushes}
use Rattle.part_spec.specs.Parts.{page_part, rooms}
use Rattle.reader_spec.specs.World.{World}
use Rattle.language_examples.proofs.Short.{Document, given, href, m, of_map, ref, texts, these, topicref}
use Rattle.language_examples.proofs.ShortPages.{behind, item, nav, no_links, page, page_faults, page_in, titled}

-- Collections

abbrev a : Document
a = titled "a.dita" "a" "A" []

abbrev b : Document
b = titled "b.dita" "b" "B" []

abbrev c : Document
c = titled "c.dita" "c" "C" []

abbrev d : Document
d = titled "d.dita" "d" "D" []

abbrev map_of : List Content → World
map_of refs = these (m refs ∷ a ∷ b ∷ c ∷ d ∷ [])

abbrev ref_with : String → List Attribute → Content
ref_with value attributes = topicref (href value ∷ attributes) []

abbrev linking : String → Attribute
linking value = given "linking" value

abbrev gathered : String → List Content → World
gathered kind refs = map_of (topicref (href "a.dita" ∷ given "collection-type" kind ∷ []) refs ∷ [])

abbrev sequence : World
sequence = gathered "sequence" (ref "b.dita" ∷ ref "c.dita" ∷ ref "d.dita" ∷ [])

-- the children of a sequence link to those beside them; the one around has no links
around_sequence : behind (page 0 sequence) ≡ no_links
unfolding plan_of map_included page_part all_pushes resolved_from followed_from body_html digits
around_sequence = refl

first_of_sequence : behind (page 1 sequence) ≡ nav (item "next" "c.html" "C" ∷ [])
unfolding plan_of map_included page_part all_pushes resolved_from followed_from body_html digits
first_of_sequence = refl

second_of_sequence : behind (page 2 sequence) ≡ nav (item "previous" "b.html" "B" ∷ item "next" "d.html" "D" ∷ [])
unfolding plan_of map_included page_part all_pushes resolved_from followed_from body_html digits
second_of_sequence = refl

-- two alone link to one another
abbrev pair : World
pair = gathered "sequence" (ref "b.dita" ∷ ref "c.dita" ∷ [])

first_of_pair : behind (page 1 pair) ≡ nav (item "next" "c.html" "C" ∷ [])
unfolding plan_of map_included page_part all_pushes resolved_from followed_from body_html digits
first_of_pair = refl

second_of_pair : behind (page 2 pair) ≡ nav (item "previous" "b.html" "B" ∷ [])
unfolding plan_of map_included page_part all_pushes resolved_from followed_from body_html digits
second_of_pair = refl

-- each of a family links to each other
first_of_family : behind (page 1 (gathered "family" (ref "b.dita" ∷ ref "c.dita" ∷ ref "d.dita" ∷ [])))
    ≡ nav (item "sibling" "c.html" "C" ∷ item "sibling" "d.html" "D" ∷ [])
unfolding plan_of map_included page_part all_pushes resolved_from followed_from body_html digits
first_of_family = refl

third_of_family : behind (page 3 (gathered "family" (ref "b.dita" ∷ ref "c.dita" ∷ ref "d.dita" ∷ [])))
    ≡ nav (item "sibling" "b.html" "B" ∷ item "sibling" "c.html" "C" ∷ [])
unfolding plan_of map_included page_part all_pushes resolved_from followed_from body_html digits
third_of_family = refl

-- where two beside one another may not link, none beyond is taken; other collections link nothing
abbrev unlinked : World
unlinked = gathered "sequence" (ref "b.dita" ∷ ref_with "c.dita" (linking "none" ∷ []) ∷ ref "d.dita" ∷ [])

before_unlinked : behind (page 1 unlinked) ≡ no_links
unfolding plan_of map_included page_part all_pushes resolved_from followed_from body_html digits
before_unlinked = refl

unlinked_itself : behind (page 2 unlinked) ≡ no_links
unfolding plan_of map_included page_part all_pushes resolved_from followed_from body_html digits
unlinked_itself = refl

unordered : behind (page 1 (gathered "unordered" (ref "b.dita" ∷ ref "c.dita" ∷ []))) ≡ no_links
unfolding plan_of map_included page_part all_pushes resolved_from followed_from body_html digits
unordered = refl

-- a child without a page stands between none: a heading, and a mere resource whose document has none
abbrev gaps : World
gaps = gathered "sequence" (ref "b.dita" ∷ topicref (given "navtitle" "N" ∷ []) (ref "d.dita" ∷ [])
    ∷ ref_with "n.dita" [] ∷ ref "c.dita" ∷ [])

over_gaps : behind (page 1 gaps) ≡ nav (item "next" "c.html" "C" ∷ [])
unfolding plan_of map_included page_part all_pushes resolved_from followed_from body_html digits
over_gaps = refl

-- Relationship tables

abbrev row : List Content → Content
row cells = of_map "reltable" [] (of_map "relrow" [] cells ∷ [])

abbrev relcell : List Attribute → List Content → Content
relcell attributes refs = of_map "relcell" attributes refs

abbrev one_way : World
one_way = map_of (ref "a.dita" ∷ ref "b.dita" ∷ row (relcell (linking "sourceonly" ∷ []) (ref "a.dita" ∷ [])
    ∷ relcell [] (ref "b.dita" ∷ []) ∷ []) ∷ [])

-- the nodes of different cells of a row link to each other, as far as they may
source_links : behind (page 0 one_way) ≡ nav (item "related" "b.html" "B" ∷ [])
unfolding plan_of map_included page_part all_pushes resolved_from followed_from body_html digits
source_links = refl

target_does_not : behind (page 1 one_way) ≡ no_links
unfolding plan_of map_included page_part all_pushes resolved_from followed_from body_html digits
target_does_not = refl

abbrev cells : List Attribute → World
cells attributes = map_of (ref "a.dita" ∷ ref "b.dita" ∷ ref "c.dita" ∷ row (relcell attributes (ref "a.dita"
    ∷ topicref (href "b.dita" ∷ []) []
    ∷ []) ∷ relcell [] (topicref [] (ref "c.dita" ∷ []) ∷ []) ∷ []) ∷ [])

-- nodes of one cell link to each other in a family alone
cell_of_family : behind (page 0 (cells (given "collection-type" "family" ∷ [])))
    ≡ nav (item "related" "b.html" "B" ∷ item "related" "c.html" "C" ∷ [])
unfolding plan_of map_included page_part all_pushes resolved_from followed_from body_html digits
cell_of_family = refl

cell_of_none : behind (page 0 (cells [])) ≡ nav (item "related" "c.html" "C" ∷ [])
unfolding plan_of map_included page_part all_pushes resolved_from followed_from body_html digits
cell_of_none = refl

cell_of_sequence : behind (page 1 (cells (given "collection-type" "sequence" ∷ [])))
    ≡ nav (item "related" "c.html" "C" ∷ [])
unfolding plan_of map_included page_part all_pushes resolved_from followed_from body_html digits
cell_of_sequence = refl

abbrev lost : World
lost = map_of (ref "a.dita" ∷ ref "b.dita" ∷ row (relcell [] (ref "c.dita" ∷ ref_with "x" (given "format" "txt" ∷ [])
    ∷ topicref [] []
    ∷ []) ∷ relcell [] (ref "a.dita" ∷ ref "n.dita" ∷ []) ∷ []) ∷ [])

-- a document of ours without a page in a cell is a fault of every page, stored or not; other targets are none
lost_in_first : page_faults (page 0 lost) ≡ Ok (texts ("m.ditamap:17 LinkNoPage c.dita"
    ∷ "m.ditamap:36 LinkNoPage n.dita" ∷ []))
unfolding plan_of map_included page_part all_pushes resolved_from followed_from body_html digits
lost_in_first = refl

lost_in_second : page_faults (page 1 lost) ≡ Ok (texts ("m.ditamap:17 LinkNoPage c.dita"
    ∷ "m.ditamap:36 LinkNoPage n.dita" ∷ []))
unfolding plan_of map_included page_part all_pushes resolved_from followed_from body_html digits
lost_in_second = refl

lost_links : behind (page 0 lost) ≡ no_links
unfolding plan_of map_included page_part all_pushes resolved_from followed_from body_html digits
lost_links = refl

abbrev orders : World
orders = map_of (topicref (href "a.dita" ∷ given "collection-type" "sequence" ∷ []) (ref "b.dita"
    ∷ topicref (href "c.dita"
    ∷ given "collection-type" "family" ∷ []) (ref "b.dita" ∷ ref "d.dita" ∷ []) ∷ []) ∷ row (relcell [] (ref "b.dita"
    ∷ [])
    ∷ relcell [] (ref "d.dita" ∷ ref "a.dita" ∷ ref "b.dita" ∷ ref "c.dita" ∷ []) ∷ []) ∷ [])

-- by kind and then by place, to each page once and never to itself
links_in_order : behind (page 1 orders) ≡ nav (item "next" "c.html" "C" ∷ item "sibling" "d.html" "D"
    ∷ item "related" "a.html" "A" ∷ [])
unfolding plan_of map_included page_part all_pushes resolved_from followed_from body_html digits
links_in_order = refl

-- Limits

-- a page of too much content keeps the faults of its rows, and its links
too_much_content : page_faults (page_in (record rooms { nodes = 3 }) 0 lost) ≡ Ok (texts
    ("a.dita:1 TooManyResolved" ∷ "m.ditamap:17 LinkNoPage c.dita" ∷ "m.ditamap:36 LinkNoPage n.dita" ∷ []))
unfolding plan_of map_included page_part all_pushes resolved_from followed_from body_html digits
too_much_content = refl

links_of_too_much : behind (page_in (record rooms { nodes = 3 }) 0 one_way)
    ≡ nav (item "related" "b.html" "B" ∷ [])
unfolding plan_of map_included page_part all_pushes resolved_from followed_from body_html digits
links_of_too_much = refl

-- a page of too many bytes has no links either
too_many_bytes : behind (page_in (record rooms { bytes = 200 }) 0 one_way) ≡ no_links
unfolding plan_of map_included page_part all_pushes resolved_from followed_from body_html digits
too_many_bytes = refl
