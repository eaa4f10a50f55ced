-- Keys that refer to keys, and the texts, targets and faults that they give.
use Prim.Native.String.{String}
use Rattle.std.specs.Fmt.{digits}
use Rattle.std.specs.Prelude.{◌≡◌, List, [], ◌∷◌, Some, Ok, refl, codes}
use Rattle.dita_doc.specs.Tree.{Content}
use Rattle.dita_doc.specs.declared.fault.FaultCode.TheVariants as codes_of
use Rattle.dita_doc.specs.declared.plan.Target.TheVariants as targets
use Rattle.map_spec.specs.Included.{map_included}
use Rattle.map_spec.specs.Keys.{chain_from}
use Rattle.map_spec.specs.PlanOf.{plan_of}
use Rattle.map_spec.specs.Scopes.{found_from, qualified}
use Rattle.reader_spec.specs.World.{World}
use Rattle.language_examples.proofs.Short.{Document, answer, faults, given, href, key, keyword, label, m, of_map, of_topic, pages, planned, ref, text, texts, these, topic, topicref}

abbrev t : Document
t = topic "t.dita" "t"

abbrev keyed : String → List Content → Content
keyed name inside = topicref (given "keys" name ∷ []) inside

abbrev to : String → String → List Content → Content
to name keyref inside = topicref (given "keys" name ∷ given "keyref" keyref ∷ []) inside

-- A chain that comes back

abbrev round : World
round = these (m (to "a" "b" (keyword "X" ∷ []) ∷ to "b" "a" [] ∷ ref "t.dita" ∷ []) ∷ t ∷ [])

-- the text is the first in the chain, and the fault stands at the definition that is met again
round_answer : answer 0 "a" round (planned round) ≡ Ok (record {
  node = Some 1;
  target = targets.Nothing;
  label = codes "X";
  faults = record { name = codes "m.ditamap"; line = 3; code = codes_of.KeyCycle; detail = codes "a" } ∷ [];
})
unfolding plan_of map_included found_from qualified chain_from
round_answer = refl

-- each of both references meets itself again
round_faults : faults (planned round) ≡ Ok (texts ("m.ditamap:3 KeyCycle a" ∷ "m.ditamap:15 KeyCycle b" ∷ []))
unfolding plan_of map_included found_from qualified chain_from digits
round_faults = refl

abbrev into_round : World
into_round = these (m (to "a" "b" [] ∷ to "b" "c" (keyword "X" ∷ []) ∷ topicref (given "keys" "c"
    ∷ given "keyref" "b" ∷ href "t.dita" ∷ [])
    [] ∷ []) ∷ t ∷ [])

-- of a chain that comes back the last definition before that is the one whose href counts
into_round_answer : answer 0 "a" into_round (planned into_round) ≡ Ok (record {
  node = Some 1;
  target = targets.Local (codes "t.dita") (record { file = codes "t.dita"; topic = []; element = [] });
  label = codes "X";
  faults = record { name = codes "m.ditamap"; line = 8; code = codes_of.KeyCycle; detail = codes "b" } ∷ [];
})
unfolding plan_of map_included found_from qualified chain_from
into_round_answer = refl

-- Undefined keys

abbrev undefined : World
undefined = these (m (to "a" "n/e" (keyword "A" ∷ []) ∷ topicref (given "keys" "b" ∷ given "keyref" "n"
    ∷ href "t.dita#t" ∷ []) []
    ∷ to "c" "b/e" [] ∷ []) ∷ t ∷ [])

-- an undefined key is a fault of the definition that names it
undefined_answer : answer 0 "a" undefined (planned undefined) ≡ Ok (record {
  node = Some 1;
  target = targets.Nothing;
  label = codes "A";
  faults = record { name = codes "m.ditamap"; line = 3; code = codes_of.KeyUndefined; detail = codes "n" } ∷ [];
})
unfolding plan_of map_included found_from qualified chain_from
undefined_answer = refl

-- it is none where an href stands beside it, and this is then read
undefined_with_href : answer 0 "b" undefined (planned undefined) ≡ Ok (record {
  node = Some 2;
  target = targets.Local (codes "t.dita")
      (record { file = codes "t.dita"; topic = codes "t"; element = [] });
  label = codes "H";
  faults = [];
})
unfolding plan_of map_included found_from qualified chain_from
undefined_with_href = refl

-- the target of the next definition is this one's; an id in its key reference is not carried on
next_target : answer 0 "c" undefined (planned undefined) ≡ Ok (record {
  node = Some 3;
  target = targets.Local (codes "t.dita")
      (record { file = codes "t.dita"; topic = codes "t"; element = [] });
  label = codes "H";
  faults = [];
})
unfolding plan_of map_included found_from qualified chain_from
next_target = refl

-- a reference that defines a key has the faults of its own key reference
undefined_faults : faults (planned undefined) ≡ Ok (texts ("m.ditamap:3 KeyUndefined n" ∷ []))
unfolding plan_of map_included found_from qualified chain_from digits
undefined_faults = refl

abbrev no_target : World
no_target = these (m (topicref (given "keys" "a" ∷ given "keyref" "b" ∷ href "t.dita" ∷ []) [] ∷ key "b" "B" ∷ [])
    ∷ t ∷ [])

-- a key reference to a key without a target has none, also where an href stands beside it
no_target_answer : answer 0 "a" no_target (planned no_target)
    ≡ Ok (record { node = Some 1; target = targets.Nothing; label = codes "B"; faults = [] })
unfolding plan_of map_included found_from qualified chain_from
no_target_answer = refl

-- so no page is made
no_target_pages : pages (planned no_target) ≡ Ok []
unfolding plan_of map_included found_from qualified chain_from
no_target_pages = refl

abbrev other_scope : World
other_scope = these (m (topicref (given "keyscope" "s" ∷ []) (to "a" "b" [] ∷ key "b" "inner" ∷ []) ∷ []) ∷ [])

-- a definition's own key reference is resolved in its scope
chain_in_scope : label 0 "s.a" other_scope (planned other_scope) ≡ Ok (codes "inner")
unfolding plan_of map_included found_from qualified chain_from
chain_in_scope = refl

-- Texts

abbrev no_text : World
no_text = these (m (keyed "a" [] ∷ topicref (given "keyref" "a/e" ∷ []) [] ∷ topicref (given "keyref" "" ∷ []) []
    ∷ topicref (given "keyref" "" ∷ href "t.dita" ∷ []) [] ∷ []) ∷ t ∷ [])

-- a key without a text shows its name, which is a fault at its definition
no_text_answer : answer 0 "a" no_text (planned no_text) ≡ Ok (record {
  node = Some 1;
  target = targets.Nothing;
  label = codes "a";
  faults = record { name = codes "m.ditamap"; line = 3; code = codes_of.KeyNoText; detail = codes "a" } ∷ [];
})
unfolding plan_of map_included found_from qualified chain_from
no_text_answer = refl

-- each use of the key has that fault; an undefined key is a fault of the reference, unless an href stands beside it
no_text_faults : faults (planned no_text) ≡ Ok (texts ("m.ditamap:3 KeyNoText a" ∷ "m.ditamap:11 KeyUndefined" ∷ []))
unfolding plan_of map_included found_from qualified chain_from digits
no_text_faults = refl

abbrev metadata : List Content → Content
metadata inside = of_map "topicmeta" [] inside

abbrev word : String → Content
word words = of_topic "keyword" [] (text words ∷ [])

abbrev all_texts : World
all_texts = these (m (keyed "k" (metadata (of_topic "navtitle" [] (text "N" ∷ []) ∷ [])
    ∷ metadata (of_map "linktext" [] (text "L" ∷ [])
    ∷ of_topic "keywords" [] (word " K  1 " ∷ word "K2" ∷ []) ∷ []) ∷ [])
    ∷ keyed "l" (metadata (of_topic "navtitle" [] (text "N" ∷ []) ∷ word " " ∷ of_map "linktext" [] (text "L" ∷ [])
    ∷ word "K" ∷ []) ∷ [])
    ∷ topicref (given "keys" "n" ∷ given "navtitle" "A" ∷ []) (metadata (of_topic "navtitle" [] (text "N" ∷ [])
    ∷ []) ∷ [])
    ∷ topicref (given "keys" "a" ∷ given "navtitle" " A" ∷ href "t.dita" ∷ []) (word "K" ∷ [])
    ∷ topicref (given "keys" "next" ∷ given "keyref" "n" ∷ href "t.dita" ∷ []) []
    ∷ topicref (given "keys" "t" ∷ given "navtitle" "" ∷ href "t.dita" ∷ []) []
    ∷ topicref (given "keys" "u" ∷ href "u.dita" ∷ given "processing-role" "resource-only" ∷ []) []
    ∷ topicref (given "keys" "f" ∷ href "f.html" ∷ given "format" "html" ∷ []) [] ∷ []) ∷ t ∷ [])

-- the first keyword, below any of the metadata; its plain text
keyword_first : label 0 "k" all_texts (planned all_texts) ≡ Ok (codes "K 1")
unfolding plan_of map_included found_from qualified chain_from
keyword_first = refl

-- where the first keyword is empty the link text, and not the next keyword
then_linktext : label 0 "l" all_texts (planned all_texts) ≡ Ok (codes "L")
unfolding plan_of map_included found_from qualified chain_from
then_linktext = refl

-- then the title for navigation, the element before the attribute
then_navtitle : label 0 "n" all_texts (planned all_texts) ≡ Ok (codes "N")
unfolding plan_of map_included found_from qualified chain_from
then_navtitle = refl

-- the attribute as it is written; a keyword outside the metadata says nothing
then_attribute : label 0 "a" all_texts (planned all_texts) ≡ Ok (codes " A")
unfolding plan_of map_included found_from qualified chain_from
then_attribute = refl

-- then the texts of the next definition
then_next : label 0 "next" all_texts (planned all_texts) ≡ Ok (codes "N")
unfolding plan_of map_included found_from qualified chain_from
then_next = refl

-- then the title of the target, which is its name where it is not stored
then_title : label 0 "t" all_texts (planned all_texts) ≡ Ok (codes "H")
unfolding plan_of map_included found_from qualified chain_from
then_title = refl

-- a document that is not stored has its name for a title
then_name : label 0 "u" all_texts (planned all_texts) ≡ Ok (codes "u.dita")
unfolding plan_of map_included found_from qualified chain_from
then_name = refl

-- a file has no title
file_has_no_title : label 0 "f" all_texts (planned all_texts) ≡ Ok (codes "f")
unfolding plan_of map_included found_from qualified chain_from
file_has_no_title = refl
