-- Pages with content references, whose bodies and faults are known by hand.
use Prim.Native.String.{String}
use Rattle.std.specs.Fmt.{digits}
use Rattle.std.specs.Prelude.{◌≡◌, List, [], ◌∷◌, refl, codes}
use Rattle.dita_doc.specs.Tree.{Content}
use Rattle.dita_doc.specs.declared.doc.Attribute.{Attribute}
use Rattle.map_spec.specs.Included.{map_included}
use Rattle.map_spec.specs.Keys.{chain_from}
use Rattle.map_spec.specs.PlanOf.{plan_of}
use Rattle.map_spec.specs.Scopes.{found_from, qualified}
use Rattle.html_spec.specs.Blocks.{body_html}
use Rattle.conref_spec.specs.Content.{followed_from, resolved_from}
use Rattle.map_spec.specs.Pushes.{all_pushes}
use Rattle.part_spec.specs.Parts.{page_part}
use Rattle.reader_spec.specs.World.{World}
use Rattle.language_examples.proofs.Short.{Document, classed, ditaval, given, href, key, m, of_topic, plain, prop, ref, text, these, topicref}
use Rattle.language_examples.proofs.ShortPages.{alone, alone_with, bare, conref, id, in_t, p, page, page_by, shown, t, topic_of, with_text}

-- Judging

abbrev no_x : Document
no_x = ditaval "v.ditaval" (prop "exclude" "audience" "x" ∷ [])

abbrev for_x : Attribute
for_x = given "audience" "x"

-- an attribute excludes if each of its tokens does
judged : shown (page_by "v.ditaval" 0 (alone_with (no_x ∷ []) (with_text "p" (given "audience" "x y" ∷ []) "1"
    ∷ with_text "p" (for_x ∷ given "platform" "z" ∷ []) "2" ∷ []))) ≡ in_t ("<p>1</p>" ∷ []) []
unfolding plan_of map_included page_part all_pushes resolved_from followed_from body_html digits
judged = refl

-- what is excluded as written gives no fault of its references, its classes and its content
judged_first : shown (page_by "v.ditaval" 0 (alone_with (no_x ∷ []) (of_topic "p" (for_x ∷ conref "no.dita" ∷ []) []
    ∷ plain "x" (for_x ∷ []) [] ∷ of_topic "div" (for_x ∷ []) (of_topic "p" (conref "no.dita" ∷ given "platform" "a(b)"
    ∷ []) []
    ∷ []) ∷ []))) ≡ in_t [] []
unfolding plan_of map_included page_part all_pushes resolved_from followed_from body_html digits
judged_first = refl

-- what an element takes counts when it is judged again, with its own values first; then its content gives no faults
judged_again : shown (page_by "v.ditaval" 0 (alone_with (no_x ∷ topic_of "s.dita" "s" (of_topic "div" (id "a" ∷ for_x
    ∷ [])
    (of_topic "p" (conref "no.dita" ∷ []) [] ∷ p "s" ∷ []) ∷ []) ∷ []) (of_topic "div" (conref "s.dita#s/a" ∷ []) []
    ∷ of_topic "div" (given "audience" "y" ∷ conref "s.dita#s/a" ∷ []) [] ∷ []))) ≡ in_t ("<div><p></p><p>s</p></div>"
    ∷ [])
    ("s.dita:14 ConrefMissing no.dita" ∷ [])
unfolding plan_of map_included page_part all_pushes resolved_from followed_from body_html digits
judged_again = refl

-- a value of groups counts as absent, with a fault wherever an element is judged
grouped : shown (page_by "v.ditaval" 0 (alone_with (no_x ∷ topic_of "s.dita" "s" (with_text "p"
    (id "a" ∷ given "platform" "(y)" ∷ []) "1" ∷ []) ∷ []) (with_text "p" (given "audience" "g(x)" ∷ []) "2"
    ∷ of_topic "p" (conref "s.dita#s/a" ∷ []) [] ∷ []))) ≡ in_t ("<p>2</p><p>1</p>" ∷ [])
    ("t.dita:10 GroupValue audience" ∷ "t.dita:15 GroupValue platform" ∷ [])
unfolding plan_of map_included page_part all_pushes resolved_from followed_from body_html digits
grouped = refl

-- Single references

abbrev shared : Document
shared = topic_of "s.dita" "s" (with_text "p" (id "a" ∷ []) "shared" ∷ [])

abbrev keyed : String → List Attribute → Content
keyed value attributes = with_text "p" (given "conkeyref" value ∷ attributes) "own"

-- where a key is undefined, the value beside it counts, without a fault
value_beside_key : shown (page 0 (alone_with (shared ∷ []) (keyed "nokey/a" (conref "s.dita#s/a" ∷ []) ∷ [])))
    ≡ in_t ("<p>shared</p>" ∷ []) []
unfolding plan_of map_included page_part all_pushes resolved_from followed_from body_html digits chain_from found_from
    qualified
value_beside_key = refl

-- without one that is a fault with the key's name, and the element stays as it is
undefined_key : shown (page 0 (alone_with (shared ∷ []) (keyed "nokey/a" [] ∷ []))) ≡ in_t ("<p>own</p>" ∷ [])
    ("t.dita:10 KeyUndefined nokey" ∷ [])
unfolding plan_of map_included page_part all_pushes resolved_from followed_from body_html digits chain_from found_from
    qualified
undefined_key = refl

abbrev keys : List Content → World
keys inside = these (m (ref "t.dita" ∷ topicref (given "keys" "e" ∷ href "s.dita#s/a"
    ∷ given "processing-role" "resource-only"
    ∷ []) [] ∷ topicref (given "keys" "d" ∷ href "s.dita" ∷ given "processing-role" "resource-only" ∷ []) []
    ∷ key "n" "N"
    ∷ topicref (given "keys" "f" ∷ href "s.dita" ∷ given "format" "txt" ∷ []) [] ∷ []) ∷ t inside
    ∷ topic_of "s.dita" "s"
    (with_text "p" (id "a" ∷ []) "A" ∷ with_text "p" (id "b" ∷ []) "B" ∷ []) ∷ [])

-- the id behind a key counts, else the element that the key's reference names; without a topic the first counts
by_key : shown (page 0 (keys (keyed "e" [] ∷ keyed "e/b" [] ∷ keyed "d/b" [] ∷ keyed "e/" [] ∷ [])))
    ≡ in_t ("<p>A</p><p>B</p><p>B</p><p>A</p>" ∷ []) []
unfolding plan_of map_included page_part all_pushes resolved_from followed_from body_html digits chain_from found_from
    qualified
by_key = refl

-- a key that is defined but gives no element is a missing target, by the value that counts in the end
key_without_target : shown (page 0 (keys (keyed "n/a" [] ∷ keyed "f/a" [] ∷ keyed "d/z" []
    ∷ keyed "z" (conref "s.dita#s/z" ∷ [])
    ∷ keyed "n/a" (conref "s.dita#s/b" ∷ []) ∷ []))) ≡ in_t
    ("<p>own</p><p>own</p><p>own</p><p>own</p><p>B</p>" ∷ []) ("m.ditamap:30 KeyNoText f"
    ∷ "t.dita:10 ConrefMissing n/a"
    ∷ "t.dita:15 ConrefMissing f/a" ∷ "t.dita:20 ConrefMissing d/z" ∷ "t.dita:25 ConrefMissing s.dita#s/z" ∷ [])
unfolding plan_of map_included page_part all_pushes resolved_from followed_from body_html digits chain_from found_from
    qualified
key_without_target = refl

-- a wrong type does not fall back to the value; without an id and an element a key means the topic itself
key_of_wrong_type : shown (page 0 (keys (keyed "d" (conref "s.dita#s/b" ∷ []) ∷ []))) ≡ in_t ("<p>own</p>" ∷ [])
    ("t.dita:10 ConrefType d" ∷ [])
unfolding plan_of map_included page_part all_pushes resolved_from followed_from body_html digits chain_from found_from
    qualified
key_of_wrong_type = refl

-- a value that can't be read or joined, or leads away, is a missing target too
unread : shown (page 0 (alone (of_topic "p" (conref "" ∷ []) [] ∷ of_topic "p" (conref "a#" ∷ []) [] ∷ of_topic "p"
    (conref "../t.dita" ∷ []) [] ∷ of_topic "p" (conref "http://x/y" ∷ []) [] ∷ of_topic "p" (conref "#u/a" ∷ []) []
    ∷ [])))
    ≡ in_t ("<p></p><p></p><p></p><p></p><p></p>" ∷ []) ("t.dita:10 ConrefMissing" ∷ "t.dita:14 ConrefMissing a#"
    ∷ "t.dita:18 ConrefMissing ../t.dita" ∷ "t.dita:22 ConrefMissing http://x/y" ∷ "t.dita:26 ConrefMissing #u/a" ∷ [])
unfolding plan_of map_included page_part all_pushes resolved_from followed_from body_html digits
unread = refl

abbrev step : List Attribute → String → Content
step attributes words = classed "step" (codes "- topic/li task/step ") attributes (text words ∷ [])

-- the target is of the element's type or a special one, and not the other way round
target_types : shown (page 0 (alone (bare "ol" (step (id "a" ∷ conref "#t/b" ∷ []) "1" ∷ with_text "li" (id "b"
    ∷ []) "2"
    ∷ with_text "li" (conref "#t/c" ∷ []) "3" ∷ step (id "c" ∷ []) "4" ∷ step (conref "#t/d" ∷ []) "5"
    ∷ plain "x" (conref "#t/d" ∷ []) (text "6" ∷ []) ∷ plain "x" (id "d" ∷ []) (text "7" ∷ []) ∷ []) ∷ []))) ≡ in_t
    ("<ol><li id=\"t__a\">1</li><li id=\"t__b\">2</li><li>4</li><li id=\"t__c\">4</li><li>5</li>67</ol>" ∷ [])
    ("t.dita:12 ConrefType #t/b" ∷ "t.dita:33 ConrefType #t/d" ∷ "t.dita:38 NoClass x" ∷ "t.dita:38 ConrefType #t/d"
    ∷ "t.dita:42 NoClass x" ∷ [])
unfolding plan_of map_included page_part all_pushes resolved_from followed_from body_html digits
target_types = refl

-- Attributes

abbrev note : List Attribute → Content
note attributes = of_topic "note" attributes []

abbrev left : String
left = "-dita-use-conref-target"

-- an element's own attributes win, but those that it leaves to its target; an id that is left so is none
merged : shown (page 0 (alone (note (id left ∷ conref "#t/n" ∷ []) ∷ note (conref "#t/n" ∷ given "type" "own" ∷ [])
    ∷ note (conref "#t/n" ∷ given "type" left ∷ id "o" ∷ []) ∷ with_text "note" (id "n" ∷ given "type" "tip" ∷ []) "N"
    ∷ [])))
    ≡ in_t ("<div class=\"note tip\">N</div><div class=\"note own\">N</div><div id=\"t__o\" class=\"note tip\">N</div>"
    ∷ "<div id=\"t__n\" class=\"note tip\">N</div>" ∷ []) []
unfolding plan_of map_included page_part all_pushes resolved_from followed_from body_html digits
merged = refl

-- after a fault they stay as they are
not_merged : shown (page 0 (alone (note (id left ∷ conref "#t/n" ∷ given "type" left ∷ []) ∷ []))) ≡ in_t
    ("<div id=\"t__-dita-use-conref-target\" class=\"note -dita-use-conref-target\"></div>" ∷ [])
    ("t.dita:10 ConrefMissing #t/n" ∷ [])
unfolding plan_of map_included page_part all_pushes resolved_from followed_from body_html digits
not_merged = refl

-- Cycles and chains

-- a target within its own resolving is a cycle, and the element that comes back stays as it is
cycle : shown (page 0 (alone (with_text "p" (id "a" ∷ conref "#t/b" ∷ []) "x" ∷ with_text "p" (id "b" ∷ conref "#t/a"
    ∷ []) "y"
    ∷ []))) ≡ in_t ("<p id=\"t__a\">x</p><p id=\"t__b\">y</p>" ∷ [])
    ("t.dita:10 ConrefCycle #t/b" ∷ "t.dita:16 ConrefCycle #t/a" ∷ [])
unfolding plan_of map_included page_part all_pushes resolved_from followed_from body_html digits
cycle = refl

-- an element within its own target is met again below it
cycle_below : shown (page 0 (alone (of_topic "div" (id "a" ∷ []) (of_topic "div" (conref "#t/a" ∷ []) (text "x" ∷ [])
    ∷ []) ∷ [])))
    ≡ in_t ("<div id=\"t__a\"><div><div>x</div></div></div>" ∷ []) ("t.dita:13 ConrefCycle #t/a" ∷ [])
unfolding plan_of map_included page_part all_pushes resolved_from followed_from body_html digits
cycle_below = refl

-- a target that refers on is resolved first; of the attributes on the way the nearer ones win
chain : shown (page 0 (alone (note (conref "#t/b" ∷ []) ∷ of_topic "note" (id "b" ∷ given "type" "two" ∷ conref "#t/c"
    ∷ []) []
    ∷ with_text "note" (id "c" ∷ given "type" "three" ∷ []) "C" ∷ []))) ≡ in_t ("<div class=\"note two\">C</div>"
    ∷ "<div id=\"t__b\" class=\"note two\">C</div><div id=\"t__c\" class=\"note three\">C</div>" ∷ []) []
unfolding plan_of map_included page_part all_pushes resolved_from followed_from body_html digits
chain = refl

-- a fault on the way stands at its own element, and what that has itself is taken
chain_fault : shown (page 0 (alone_with (topic_of "s.dita" "s" (with_text "p" (id "a" ∷ conref "#s/no" ∷ []) "A" ∷ [])
    ∷ [])
    (of_topic "p" (conref "s.dita#s/a" ∷ []) [] ∷ []))) ≡ in_t ("<p>A</p>" ∷ []) ("s.dita:10 ConrefMissing #s/no" ∷ [])
unfolding plan_of map_included page_part all_pushes resolved_from followed_from body_html digits
chain_fault = refl

-- `#./` means the page and the topic where content is brought in, also on the way
here : shown (page 0 (alone_with (topic_of "s.dita" "s" (of_topic "div" (id "d" ∷ []) (of_topic "p" (conref "#./x"
    ∷ []) []
    ∷ of_topic "p" (conref "#s/x" ∷ []) [] ∷ []) ∷ of_topic "p" (id "c" ∷ conref "#./x" ∷ []) []
    ∷ with_text "p" (id "x" ∷ []) "there"
    ∷ []) ∷ []) (with_text "p" (id "x" ∷ []) "here" ∷ of_topic "div" (conref "s.dita#s/d" ∷ []) []
    ∷ of_topic "p" (conref "s.dita#s/c" ∷ []) [] ∷ []))) ≡ in_t
    ("<p id=\"t__x\">here</p><div><p>here</p><p>there</p></div><p>here</p>" ∷ []) []
unfolding plan_of map_included page_part all_pushes resolved_from followed_from body_html digits
here = refl

-- Ranges

abbrev li : List Attribute → String → Content
li attributes words = with_text "li" attributes words

abbrev listed : List Content → Document
listed inside = topic_of "s.dita" "s" (bare "ul" inside ∷ [])

abbrev range : String → Attribute
range value = given "conrefend" value

-- a range without its end is a fault, and the element stays as it is
no_end : shown (page 0 (alone_with (listed (li (id "a" ∷ []) "1" ∷ []) ∷ []) (bare "ul"
    (li (conref "s.dita#s/a" ∷ range "s.dita#s/z" ∷ []) "own" ∷ []) ∷ []))) ≡ in_t ("<ul><li>own</li></ul>" ∷ [])
    ("t.dita:12 RangeEnd s.dita#s/z" ∷ [])
unfolding plan_of map_included page_part all_pushes resolved_from followed_from body_html digits
no_end = refl

-- a range has the siblings up to its end, without their own ids, and the texts between; the first has the element's id
range_with_texts : shown (page 0 (alone_with (topic_of "s.dita" "s" (bare "p" (with_text "ph" (id "a" ∷ []) "1"
    ∷ text " and "
    ∷ with_text "ph" (id "b" ∷ []) "2" ∷ text ", " ∷ with_text "b" (id "z" ∷ []) "3" ∷ text "." ∷ []) ∷ []) ∷ [])
    (bare "p" (text "x " ∷ of_topic "ph" (id "i" ∷ conref "s.dita#s/a" ∷ range "#s/z" ∷ []) [] ∷ text " y" ∷ [])
    ∷ []))) ≡ in_t
    ("<p>x <span id=\"t__i\">1</span> and <span>2</span>, 3 y</p>" ∷ []) []
unfolding plan_of map_included page_part all_pushes resolved_from followed_from body_html digits
range_with_texts = refl

-- where the first of a range goes when it is judged again, the rest stays
range_first_goes : shown (page_by "v.ditaval" 0 (alone_with (no_x ∷ listed (li (id "a" ∷ for_x ∷ []) "1" ∷ li [] "2"
    ∷ li (for_x ∷ []) "3" ∷ li (id "z" ∷ []) "4" ∷ []) ∷ []) (bare "ul" (li (conref "s.dita#s/a" ∷ range "s.dita#s/z"
    ∷ []) "own"
    ∷ []) ∷ []))) ≡ in_t ("<ul><li>2</li><li>4</li></ul>" ∷ []) []
unfolding plan_of map_included page_part all_pushes resolved_from followed_from body_html digits
range_first_goes = refl

-- the target may be the end itself; only the id of the element counts of the end; without a target an end does nothing
range_ends : shown (page 0 (alone_with (listed (li (id "a" ∷ []) "1" ∷ li (id "z" ∷ []) "2" ∷ []) ∷ []) (bare "ul"
    (li (conref "s.dita#s/a" ∷ range "s.dita#s/a" ∷ []) "own" ∷ li (conref "s.dita#s/a" ∷ range "no.dita#no/z"
    ∷ []) "own"
    ∷ li (range "s.dita#s/no" ∷ []) "own" ∷ li (conref "s.dita#s/a" ∷ range "s.dita#z" ∷ []) "own" ∷ []) ∷ []))) ≡ in_t
    ("<ul><li>1</li><li>1</li><li>2</li><li>own</li><li>own</li></ul>" ∷ []) ("t.dita:29 RangeEnd s.dita#z" ∷ [])
unfolding plan_of map_included page_part all_pushes resolved_from followed_from body_html digits
range_ends = refl

-- the range of a target on the way comes before that of the element; what is copied is resolved where it is brought in
range_on_the_way : shown (page 0 (alone_with (listed (li (id "a" ∷ conref "#s/c" ∷ range "#s/d" ∷ []) "1"
    ∷ of_topic "li"
    (id "b" ∷ conref "#./x" ∷ []) [] ∷ li (id "c" ∷ []) "3" ∷ li (id "d" ∷ []) "4" ∷ li (id "x" ∷ []) "there" ∷ [])
    ∷ [])
    (bare "ul" (li (conref "s.dita#s/a" ∷ range "s.dita#s/b" ∷ []) "own" ∷ li (id "x" ∷ []) "here" ∷ []) ∷ []))) ≡ in_t
    ("<ul><li>3</li><li>4</li><li>here</li><li id=\"t__x\">here</li></ul>" ∷ []) []
unfolding plan_of map_included page_part all_pushes resolved_from followed_from body_html digits
range_on_the_way = refl
