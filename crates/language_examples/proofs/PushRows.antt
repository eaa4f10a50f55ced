-- Pages with pushed content, whose bodies and faults are known by hand.
use Prim.Native.String.{String}
use Rattle.std.specs.Fmt.{digits}
use Rattle.std.specs.Prelude.{◌≡◌, List, [], ◌∷◌, Ok, refl, codes}
use Rattle.dita_doc.specs.Tree.{Content}
use Rattle.dita_doc.specs.declared.doc.Attribute.{Attribute}
use Rattle.map_spec.specs.Included.{map_included}
use Rattle.map_spec.specs.PlanOf.{plan_of}
use Rattle.html_spec.specs.Blocks.{body_html}
use Rattle.conref_spec.specs.Content.{followed_from, resolved_from}
use Rattle.html_spec.specs.Contents.{contents, items_from}
use Rattle.map_spec.specs.Pushes.{all_pushes}
use Rattle.part_spec.specs.Parts.{page_part}
use Rattle.reader_spec.specs.World.{World}
use Rattle.language_examples.proofs.Short.{Document, classed, doc, given, m, of_topic, plain, ref, text, texts, these}
use Rattle.language_examples.proofs.ShortPages.{bare, build_faults, conref, id, in_t, in_topic, is_shown, page, shown, t, title, topic_of, with_text}

abbrev acts : String → Attribute
acts value = given "conaction" value

abbrev replacing : String → List Attribute → String → String → Content
replacing name attributes target words = with_text name (acts "pushreplace" ∷ conref target ∷ attributes) words

abbrev mark : String → String → Content
mark name target = of_topic name (acts "mark" ∷ conref target ∷ []) []

abbrev q : List Content → Document
q inside = topic_of "q.dita" "q" inside

abbrev pushing : List Content → List Content → World
pushing inside pushed = these (m (ref "t.dita" ∷ ref "q.dita" ∷ []) ∷ t inside ∷ q pushed ∷ [])

abbrev li : List Attribute → String → Content
li attributes words = with_text "li" attributes words

-- Replacing

abbrev twice : World
twice = these (m (ref "t.dita" ∷ ref "q1.dita" ∷ ref "q2.dita" ∷ [])
    ∷ topic_of "q2.dita" "q2" (replacing "p" [] "t.dita#t/s" "Two" ∷ [])
    ∷ topic_of "q1.dita" "q1" (replacing "p" [] "t.dita#t/s" "One" ∷ []) ∷ t (with_text "p" (id "s" ∷ []) "Old" ∷ [])
    ∷ [])

-- of two replacements the first by use of its document counts, with the id of what it replaces
replaced_once : shown (page 0 twice) ≡ in_t ("<p id=\"t__s\">One</p>" ∷ []) []
unfolding plan_of map_included page_part all_pushes resolved_from followed_from body_html digits
replaced_once = refl

-- what pushes vanishes from its own document, the second replacement too, with a fault there
first_vanishes : shown (page 1 twice) ≡ in_topic "q1" [] []
unfolding plan_of map_included page_part all_pushes resolved_from followed_from body_html digits
first_vanishes = refl

second_vanishes : shown (page 2 twice) ≡ in_topic "q2" [] []
unfolding plan_of map_included page_part all_pushes resolved_from followed_from body_html digits
second_vanishes = refl

replaced_twice : build_faults twice ≡ Ok (texts ("q2.dita:10 PushTwice t.dita#t/s" ∷ []))
unfolding plan_of map_included page_part all_pushes resolved_from followed_from body_html digits contents items_from
replaced_twice = refl

-- a replacing element has no id where the replaced one has none
replaced_without_id : shown (page 0 (these (m (ref "t.dita" ∷ ref "q.dita" ∷ [])
    ∷ doc "t.dita" (of_topic "topic" [] (title "H" ∷ []))
    ∷ doc "q.dita" (of_topic "topic" (id "q" ∷ []) (of_topic "topic" (id "n" ∷ acts "pushreplace" ∷ conref "t.dita"
    ∷ [])
    (title "N" ∷ []) ∷ [])) ∷ []))) ≡ is_shown ("<article><h1>N</h1></article>" ∷ []) []
unfolding plan_of map_included page_part all_pushes resolved_from followed_from body_html digits
replaced_without_id = refl

-- Before and after

abbrev before : World
before = pushing (bare "ul" (li (id "s" ∷ []) "M" ∷ []) ∷ [])
    (bare "ul" (li (acts "pushbefore" ∷ []) "B" ∷ mark "li" "t.dita#t/s" ∷ []) ∷ [])

pushed_before : shown (page 0 before) ≡ in_t ("<ul><li>B</li><li id=\"t__s\">M</li></ul>" ∷ []) []
unfolding plan_of map_included page_part all_pushes resolved_from followed_from body_html digits
pushed_before = refl

-- a mark vanishes without a fault
mark_vanishes : shown (page 1 before) ≡ in_topic "q" ("<ul></ul>" ∷ []) []
unfolding plan_of map_included page_part all_pushes resolved_from followed_from body_html digits
mark_vanishes = refl

before_faults : build_faults before ≡ Ok []
unfolding plan_of map_included page_part all_pushes resolved_from followed_from body_html digits contents items_from
before_faults = refl

abbrev around : World
around = pushing (bare "ul" (li (id "s" ∷ []) "M" ∷ []) ∷ []) (bare "ul" (li (acts "pushbefore" ∷ []) "1" ∷ text " "
    ∷ mark "li" "t.dita#t/s"
    ∷ li (id "a" ∷ acts "pushafter" ∷ []) "2" ∷ li (acts "pushbefore" ∷ []) "3" ∷ mark "li" "t.dita#t/s"
    ∷ li (acts "pushafter" ∷ []) "4"
    ∷ li [] "5" ∷ replacing "li" (id "b" ∷ []) "t.dita#t/s" "N" ∷ []) ∷ [])

-- before a place and after it pushes stand in their order, also around what replaces it
pushed_around : shown (page 0 around)
    ≡ in_t ("<ul><li>1</li><li>3</li><li id=\"t__s\">N</li><li id=\"t__a\">2</li><li>4</li></ul>"
    ∷ []) []
unfolding plan_of map_included page_part all_pushes resolved_from followed_from body_html digits
pushed_around = refl

rest_stays : shown (page 1 around) ≡ in_topic "q" ("<ul> <li>5</li></ul>" ∷ []) []
unfolding plan_of map_included page_part all_pushes resolved_from followed_from body_html digits
rest_stays = refl

around_faults : build_faults around ≡ Ok []
unfolding plan_of map_included page_part all_pushes resolved_from followed_from body_html digits contents items_from
around_faults = refl

-- a push before the root makes a document of two roots; its title is that of the document as stored
two_roots : shown (page 0 (these (m (ref "t.dita" ∷ ref "q.dita" ∷ []) ∷ t [] ∷ doc "q.dita" (of_topic "topic" (id "q"
    ∷ [])
    (of_topic "topic" (id "n" ∷ acts "pushbefore" ∷ []) (title "N" ∷ []) ∷ mark "topic" "t.dita#t" ∷ [])) ∷ [])))
    ≡ is_shown
    ("<article id=\"n\"><h1>N</h1></article><article id=\"t\"><h1>H</h1><div class=\"body\"></div></article>" ∷ []) []
unfolding plan_of map_included page_part all_pushes resolved_from followed_from body_html digits
two_roots = refl

-- a root that acts leaves none
no_root : shown (page 0 (these (m (ref "t.dita" ∷ []) ∷ doc "t.dita" (of_topic "topic" (acts "" ∷ []) (title "H" ∷ []))
    ∷ [])))
    ≡ is_shown [] []
unfolding plan_of map_included page_part all_pushes resolved_from followed_from body_html digits
no_root = refl

-- Faults

abbrev bad_places : World
bad_places = pushing (bare "ul" (li (id "s" ∷ []) "M" ∷ classed "step" (codes "- topic/li task/step ") (id "z"
    ∷ []) (text "S" ∷ [])
    ∷ []) ∷ []) (bare "ul" (li (acts "pushbefore" ∷ []) "1" ∷ li (acts "mark" ∷ []) "2" ∷ li (acts "pushbefore"
    ∷ []) "3"
    ∷ li (conref "t.dita#t/s" ∷ []) "4" ∷ li (acts "pushafter" ∷ []) "5" ∷ []) ∷ replacing "p" [] "t.dita#t/s" "6"
    ∷ replacing "p" [] "t.dita#t/no" "7" ∷ replacing "li" [] "t.dita#t/z" "8" ∷ plain "x" (acts "pushreplace"
    ∷ conref "t.dita#t/s" ∷ []) (text "9" ∷ []) ∷ with_text "p" (acts "pushreplace" ∷ []) "10" ∷ [])

-- a push needs its mark with a value, a target, and the type of the target or a special one
bad_places_faults : build_faults bad_places ≡ Ok (texts ("q.dita:12 PushPlace" ∷ "q.dita:22 PushPlace"
    ∷ "q.dita:32 PushPlace"
    ∷ "q.dita:38 PushPlace t.dita#t/s" ∷ "q.dita:44 PushPlace t.dita#t/no" ∷ "q.dita:50 PushPlace t.dita#t/z"
    ∷ "q.dita:56 PushPlace t.dita#t/s" ∷ "q.dita:61 PushPlace" ∷ []))
unfolding plan_of map_included page_part all_pushes resolved_from followed_from body_html digits contents items_from
bad_places_faults = refl

bad_places_do_nothing : shown (page 0 bad_places) ≡ in_t ("<ul><li id=\"t__s\">M</li><li id=\"t__z\">S</li></ul>"
    ∷ []) []
unfolding plan_of map_included page_part all_pushes resolved_from followed_from body_html digits
bad_places_do_nothing = refl

-- what would push vanishes all the same
bad_pushes_vanish : shown (page 1 bad_places) ≡ in_topic "q" ("<ul><li>M</li></ul>" ∷ []) []
unfolding plan_of map_included page_part all_pushes resolved_from followed_from body_html digits
bad_pushes_vanish = refl

-- Content that is pushed

abbrev within : World
within = pushing (of_topic "ul" (id "u" ∷ []) (li [] "old" ∷ []) ∷ bare "ul" (li (id "s" ∷ []) "M" ∷ [])
    ∷ []) (of_topic "ul"
    (acts "pushreplace" ∷ conref "t.dita#t/u" ∷ given "conkeyref" "k" ∷ given "conrefend" "#q/z" ∷ []) (li [] "A"
    ∷ replacing "li" [] "t.dita#t/s" "B" ∷ li (acts "other" ∷ []) "C" ∷ li (id "d" ∷ []) "D" ∷ []) ∷ [])

-- elements within that act are left out there, and push themselves
acting_within : shown (page 0 within) ≡ in_t
    ("<ul id=\"t__u\"><li>A</li><li id=\"t__d\">D</li></ul><ul><li id=\"t__s\">B</li></ul>" ∷ []) []
unfolding plan_of map_included page_part all_pushes resolved_from followed_from body_html digits
acting_within = refl

-- what is replaced takes pushes to its content with it
pushed_into_replaced : shown (page 0 (pushing (of_topic "ul" (id "u" ∷ []) (li (id "s" ∷ []) "M" ∷ [])
    ∷ []) (of_topic "ul"
    (acts "pushreplace" ∷ conref "t.dita#t/u" ∷ []) (li [] "N" ∷ []) ∷ bare "ul" (replacing "li" [] "t.dita#t/s" "X"
    ∷ []) ∷ [])))
    ≡ in_t ("<ul id=\"t__u\"><li>N</li></ul>" ∷ []) []
unfolding plan_of map_included page_part all_pushes resolved_from followed_from body_html digits
pushed_into_replaced = refl

-- what acts takes along what was pushed beside it
pushed_beside_acting : shown (page 0 (pushing (bare "ul" (li (id "s" ∷ acts "x" ∷ []) "M" ∷ []) ∷ []) (bare "ul"
    (li (acts "pushbefore" ∷ []) "B" ∷ mark "li" "t.dita#t/s" ∷ []) ∷ []))) ≡ in_t ("<ul></ul>" ∷ []) []
unfolding plan_of map_included page_part all_pushes resolved_from followed_from body_html digits
pushed_beside_acting = refl

-- references within are read in the document where they were written, but `#./` means the place that they are pushed to
references_within : shown (page 0 (pushing (with_text "p" (id "x" ∷ []) "here" ∷ of_topic "div" (id "d" ∷ []) []
    ∷ []) (of_topic "div"
    (acts "pushreplace" ∷ conref "t.dita#t/d" ∷ []) (of_topic "p" (conref "#./x" ∷ []) [] ∷ of_topic "p" (conref "#q/x"
    ∷ []) []
    ∷ of_topic "p" (conref "#q/no" ∷ []) [] ∷ []) ∷ with_text "p" (id "x" ∷ []) "there" ∷ []))) ≡ in_t
    ("<p id=\"t__x\">here</p><div id=\"t__d\"><p>here</p><p>there</p><p></p></div>"
    ∷ []) ("q.dita:22 ConrefMissing #q/no" ∷ [])
unfolding plan_of map_included page_part all_pushes resolved_from followed_from body_html digits
references_within = refl

-- in the target of a push `#./` means the topic that holds the pushing element
pushed_here : shown (page 1 (pushing [] (with_text "p" (id "z" ∷ []) "Z" ∷ replacing "p" [] "#./z" "N" ∷ [])))
    ≡ in_topic "q"
    ("<p id=\"q__z\">N</p>" ∷ []) []
unfolding plan_of map_included page_part all_pushes resolved_from followed_from body_html digits
pushed_here = refl

-- content references see what was pushed
pushed_then_pulled : shown (page 0 (pushing (with_text "p" (id "s" ∷ []) "M" ∷ of_topic "p" (conref "#t/s" ∷ []) []
    ∷ [])
    (replacing "p" [] "t.dita#t/s" "N" ∷ []))) ≡ in_t ("<p id=\"t__s\">N</p><p>N</p>" ∷ []) []
unfolding plan_of map_included page_part all_pushes resolved_from followed_from body_html digits
pushed_then_pulled = refl
