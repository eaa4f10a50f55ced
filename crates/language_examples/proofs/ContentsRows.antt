-- Contents pages that are known by hand.
use Prim.Native.String.{String}
use Rattle.std.specs.Fmt.{digits}
use Rattle.std.specs.Prelude.{◌≡◌, List, [], ◌∷◌, ◌++◌, Ok, length, refl, codes}
use Rattle.dita_doc.specs.Tree.{Content}
use Rattle.dita_doc.specs.declared.doc.Attribute.{Attribute}
use Rattle.map_spec.specs.Included.{map_included}
use Rattle.map_spec.specs.Keys.{chain_from}
use Rattle.map_spec.specs.PlanOf.{plan_of}
use Rattle.map_spec.specs.Scopes.{found_from, qualified}
use Rattle.html_spec.specs.Contents.{contents, items_from}
use Rattle.map_spec.specs.Pushes.{all_pushes}
use Rattle.reader_spec.specs.World.{World}
use Rattle.language_examples.proofs.Short.{Seen, ditaval, ditavalmeta, ditavalref, doc, dvr, given, href, keyword, m, map_doc, map_with, of_map, of_topic, plain, prop, ref, submap, table_of, these, topic, topicref}
use Rattle.language_examples.proofs.ShortPages.{Shown, bare, bytes_of, contents_of, id, is_shown, line_at, lines, p, see, shown, t, title, titled, with_text}

-- Whole pages

abbrev hello : World
hello = these (m (ref "t.dita" ∷ []) ∷ titled "t.dita" "t" "Hello" (p "A & B" ∷ []) ∷ [])

-- the contents page has a heading and a list of links to pages
hello_contents : bytes_of (contents_of hello) ≡ Ok (lines ("<!DOCTYPE html>"
    ∷ "<html><head><meta charset=\"utf-8\"><title>Contents</title></head>" ∷ "<body>"
    ∷ "<nav class=\"toc\"><h1>Contents</h1><ul><li><a href=\"t.html\">Hello</a></li></ul></nav>" ∷ "</body></html>"
    ∷ []))
unfolding plan_of map_included all_pushes contents items_from digits
hello_contents = refl

hello_length : see (λ html. length html.bytes) (contents_of hello) ≡ Ok 188
unfolding plan_of map_included all_pushes contents items_from digits
hello_length = refl

-- without items there is no list
empty_contents : bytes_of (contents_of (these (m [] ∷ []))) ≡ Ok (lines ("<!DOCTYPE html>"
    ∷ "<html><head><meta charset=\"utf-8\"><title>Contents</title></head>" ∷ "<body>"
    ∷ "<nav class=\"toc\"><h1>Contents</h1></nav>" ∷ "</body></html>" ∷ []))
unfolding plan_of map_included all_pushes contents items_from digits
empty_contents = refl

empty_length : see (λ html. length html.bytes) (contents_of (these (m [] ∷ []))) ≡ Ok 144
unfolding plan_of map_included all_pushes contents items_from digits
empty_length = refl

-- Items

abbrev navtitle : String → Attribute
navtitle value = given "navtitle" value

abbrev locked : Attribute
locked = given "locktitle" "yes"

abbrev listed : List String → Seen Shown
listed items = is_shown ("<nav class=\"toc\"><h1>Contents</h1><ul>" ∷ items ++ "</ul></nav>" ∷ []) []

-- an item has the conditional attributes that cascade to it, and the items below it
nested : shown (contents_of (these (m (topicref (given "audience" "x" ∷ locked ∷ navtitle "N"
    ∷ []) (topicref (href "t.dita"
    ∷ given "audience" "y" ∷ []) [] ∷ []) ∷ topicref (navtitle "G" ∷ []) [] ∷ []) ∷ t [] ∷ []))) ≡ listed
    ("<li data-audience=\"x\">N<ul><li data-audience=\"x y\"><a href=\"t.html\">H</a></li></ul></li><li>G</li>" ∷ [])
unfolding plan_of map_included all_pushes contents items_from digits
nested = refl

-- these stand in the order of the rules, whatever the order on the element; values and labels are escaped
data_order : shown (contents_of (these (m (topicref (given "product" "p\"" ∷ given "x" "y" ∷ given "props" "a  b"
    ∷ given "otherprops" "o"
    ∷ given "deliveryTarget" "d" ∷ given "platform" "f" ∷ given "audience" "g(x)" ∷ navtitle "<\"&>" ∷ []) [] ∷ [])
    ∷ []))) ≡ listed
    ("<li data-platform=\"f\" data-product=\"p&quot;\" data-otherprops=\"o\" data-props=\"a b\""
    ∷ " data-deliveryTarget=\"d\">"
    ∷ "&lt;\"&amp;&gt;</li>" ∷ [])
unfolding plan_of map_included all_pushes contents items_from digits
data_order = refl

abbrev meta : String → Content
meta words = of_map "topicmeta" [] (with_text "navtitle" [] words ∷ [])

-- a title that the map gives counts if it is locked, or if the target is no document of ours; its element comes first
labels : shown (contents_of (these (m (topicref (href "t.dita" ∷ navtitle "no" ∷ []) (meta "no" ∷ [])
    ∷ topicref (href "t.dita" ∷ navtitle "no" ∷ locked ∷ []) (meta " A  <b" ∷ []) ∷ topicref (href "t.dita"
    ∷ navtitle "B" ∷ locked ∷ [])
    (meta "" ∷ []) ∷ topicref (href "t.dita" ∷ locked ∷ []) (ref "t.dita" ∷ []) ∷ topicref (href "a:b" ∷ navtitle "D"
    ∷ []) []
    ∷ topicref (href "d/f.txt#a" ∷ given "format" "txt" ∷ navtitle "no" ∷ []) (meta "E" ∷ []) ∷ []) ∷ t [] ∷ [])))
    ≡ listed
    ("<li><a href=\"t.html\">H</a></li><li><a href=\"t.html\">A &lt;b</a></li><li><a href=\"t.html\">B</a></li>"
    ∷ "<li><a href=\"t.html\">H</a><ul><li><a href=\"t.html\">H</a></li></ul></li><li><a href=\"a:b\">D</a></li>"
    ∷ "<li><a href=\"d/f.txt#a\">E</a></li>" ∷ [])
unfolding plan_of map_included all_pushes contents items_from digits
labels = refl

-- without a title there stands the value, but the name of a file where a key gives it, or the value behind the key
values : shown (contents_of (these (map_doc "m.ditamap" (topicref (href "a:b" ∷ []) [] ∷ topicref (href "./f.txt#a"
    ∷ given "format" "txt" ∷ []) []
    ∷ topicref (given "keyref" "f" ∷ href "no" ∷ []) [] ∷ topicref (given "keyref" "x" ∷ []) []
    ∷ topicref (given "keyref" "no"
    ∷ href "./g" ∷ given "format" "x" ∷ []) [] ∷ topicref (given "keyref" "t" ∷ []) [] ∷ topicref (given "keys" "f"
    ∷ href "./k.txt#b"
    ∷ given "format" "txt" ∷ given "toc" "no" ∷ []) (keyword "K" ∷ []) ∷ topicref (given "keys" "x" ∷ href "c:d"
    ∷ given "toc" "no" ∷ [])
    (keyword "X" ∷ []) ∷ topicref (given "keys" "t" ∷ href "t.dita#a/b" ∷ given "toc" "no" ∷ []) [] ∷ []) ∷ t []
    ∷ []))) ≡ listed
    ("<li><a href=\"a:b\">a:b</a></li><li><a href=\"f.txt#a\">./f.txt#a</a></li><li>"
    ∷ "<a href=\"k.txt#b\">k.txt#b</a></li>"
    ∷ "<li><a href=\"c:d\">c:d</a></li><li><a href=\"g\">./g</a></li><li><a href=\"t.html\">H</a></li>" ∷ [])
unfolding plan_of map_included all_pushes contents items_from digits chain_from found_from qualified
values = refl

-- what is no item is replaced by the items below it: it has no target and no title, is a resource, kept out, or a map
replaced : shown (contents_of (these (m (topicref [] (topicref (navtitle "1" ∷ given "toc" "no"
    ∷ []) (topicref (navtitle "2" ∷ given "toc" "yes"
    ∷ []) [] ∷ []) ∷ []) ∷ topicref (navtitle "3" ∷ given "processing-role" "resource-only"
    ∷ []) (topicref (navtitle "4" ∷ []) []
    ∷ topicref (navtitle "5" ∷ given "processing-role" "normal" ∷ []) [] ∷ []) ∷ submap "s.ditamap"
    ∷ topicref (navtitle "7" ∷ given "toc" ""
    ∷ []) [] ∷ table_of (topicref (navtitle "8" ∷ given "toc" "yes" ∷ []) [] ∷ []) ∷ []) ∷ map_doc "s.ditamap"
    (topicref (navtitle "6" ∷ []) [] ∷ []) ∷ []))) ≡ listed
    ("<li>2</li><li>5</li><li>6</li><li>7</li>" ∷ [])
unfolding plan_of map_included all_pushes contents items_from digits
replaced = refl

-- a document of ours without a page stands without a link, with its title or its name; a fragment does not count
without_pages : shown (contents_of (these (m (ref "n.dita" ∷ ref "s.ditamap" ∷ ref "t.dita#x/y" ∷ [])
    ∷ map_with "s.ditamap"
    (given "title" "no" ∷ []) [] ∷ doc "t.dita" (bare "topic" (of_topic "topic" (id "x" ∷ []) (title "no" ∷ [])
    ∷ title "T" ∷ [])) ∷ []))) ≡ listed
    ("<li>n.dita</li><li>s.ditamap</li><li><a href=\"t.html\">T</a></li>" ∷ [])
unfolding plan_of map_included all_pushes contents items_from digits
without_pages = refl

-- each copy of a branch is an item with a page of its own
branches : shown (contents_of (these (m (topicref (href "t.dita" ∷ []) (ditavalref (href "v.ditaval" ∷ []) (ditavalmeta
    (dvr "dvrResourceSuffix" "-v" ∷ []) ∷ []) ∷ ditavalref (href "v.ditaval" ∷ []) [] ∷ topicref (navtitle "N"
    ∷ given "audience" "x" ∷ []) []
    ∷ topicref (navtitle "O" ∷ []) [] ∷ []) ∷ ref "d/u.dita" ∷ []) ∷ t [] ∷ topic "d/u.dita" "u"
    ∷ ditaval "v.ditaval" (prop "exclude" "audience" "x" ∷ []) ∷ []))) ≡ listed
    ("<li><a href=\"t-v.html\">H</a><ul><li>O</li></ul></li><li><a href=\"t.html\">H</a><ul><li>O</li></ul></li>"
    ∷ "<li><a href=\"d/u.html\">H</a></li>" ∷ [])
unfolding plan_of map_included all_pushes contents items_from digits
branches = refl

-- Titles

abbrev heading : String → Seen Shown
heading words = is_shown ("<nav class=\"toc\"><h1>" ∷ words ∷ "</h1></nav>" ∷ []) []

-- the title of the root map is that of its element, else its attribute, else a word of ours
title_element : shown (contents_of (these (map_with "m.ditamap" (given "title" "no" ∷ []) (of_map "topicmeta" [] []
    ∷ plain "x" []
    (title " A  &  B " ∷ []) ∷ title "no" ∷ []) ∷ []))) ≡ heading "A &amp; B"
unfolding plan_of map_included all_pushes contents items_from digits
title_element = refl

title_attribute : shown (contents_of (these (map_with "m.ditamap" (given "title" " B  C" ∷ []) (title " " ∷ title "no"
    ∷ []) ∷ [])))
    ≡ heading " B  C"
unfolding plan_of map_included all_pushes contents items_from digits
title_attribute = refl

title_word : shown (contents_of (these (map_with "m.ditamap" (given "title" "" ∷ []) [] ∷ []))) ≡ heading "Contents"
unfolding plan_of map_included all_pushes contents items_from digits
title_word = refl

title_in_head : see (λ html. line_at 1 html.bytes) (contents_of (these (map_with "m.ditamap" (given "title" "<"
    ∷ []) [] ∷ [])))
    ≡ Ok (codes "<html><head><meta charset=\"utf-8\"><title>&lt;</title></head>")
unfolding plan_of map_included all_pushes contents items_from digits
title_in_head = refl
