-- Maps with submaps, whose nodes, pages and faults are known by hand.
use Prim.Native.String.{String}
use lib.Utf8.{encode}
use Rattle.std.specs.Fmt.{digits}
use Rattle.std.specs.List.{flat_map}
use Rattle.std.specs.Str.{is_utf8, chars}
use Rattle.std.specs.Prelude.{◌≡◌, ℕ, List, [], ◌∷◌, ◌++◌, Ok, map, refl, codes}
use Rattle.dita_doc.specs.Pyx.{document_of}
use Rattle.dita_doc.specs.Tree.{Content}
use Rattle.dita_doc.specs.declared.plan.PlanKind.{PlanKind}
use Rattle.dita_doc.specs.declared.plan.PlanKind.TheVariants as kinds
use Rattle.dita_doc.specs.declared.plan.PlanNode.{PlanNode}
use Rattle.dita_doc.specs.declared.plan.Target.TheVariants as targets
use Rattle.map_spec.specs.Included.{map_included}
use Rattle.map_spec.specs.PlanOf.{plan_of}
use Rattle.reader_spec.specs.World.{World}
use Rattle.language_examples.proofs.Short.{Document, Planned, Seen, classed, doc, faults, given, href, m, map_doc, map_with, of_map, of_topic, outline, pages, plain, planned, ref, submap, table_of, text, texts, these, topic, topicref, view}

-- a node's kind, document, place there, line, level, parent and end
abbrev Whole : Type 0
Whole = PlanKind × List ℕ × ℕ × ℕ × ℕ × ℕ × ℕ

abbrev whole : PlanNode → Whole
whole node = (node.kind, node.doc, node.place, node.line, node.level, node.parent, node.end)

abbrev wholes : Planned → Seen (List Whole)
wholes made = view (λ plan. map whole plan.nodes) made

abbrev in_m : List ℕ
in_m = codes "m.ditamap"

abbrev in_s : List ℕ
in_s = codes "s.ditamap"

abbrev t : Document
t = topic "t.dita" "t"

abbrev include : List Content → Content
include inside = topicref (given "format" "ditamap" ∷ href "s.ditamap" ∷ []) inside

-- The short form

abbrev written : List String → List ℕ
written lines = flat_map (λ line. codes line ++ 10 ∷ []) lines

-- a document in its short form is what is read of its lines
short_form : document_of (written ("(a" ∷ "Ab c" ∷ "(d" ∷ "-t" ∷ "(e" ∷ ")e" ∷ ")d" ∷ "(f" ∷ ")f" ∷ ")a" ∷ []))
    ≡ Ok (doc "x" (plain "a" (given "b" "c" ∷ []) (plain "d" [] (text "t" ∷ plain "e" [] [] ∷ []) ∷ plain "f" [] []
    ∷ []))).1
unfolding document_of is_utf8 chars encode
short_form = refl

-- Submaps

abbrev round : World
round = these (m (submap "s.ditamap" ∷ []) ∷ map_doc "s.ditamap" (submap "m.ditamap" ∷ ref "t.dita" ∷ []) ∷ t ∷ [])

-- an included map is the first child of its reference, one level deeper; a map around the reference is not included
round_nodes : wholes (planned round) ≡ Ok (
    (kinds.Map, in_m, 0, 1, 0, 0, 5) ∷ (kinds.Included, in_m, 1, 3, 0, 0, 5)
    ∷ (kinds.Map, in_s, 0, 1, 1, 1, 5) ∷ (kinds.Included, in_s, 1, 3, 1, 2, 4)
    ∷ (kinds.Reference, in_s, 2, 8, 1, 2, 5) ∷ [])
unfolding plan_of map_included
round_nodes = refl

-- a map that stands around its reference is a fault of the reference
round_faults : faults (planned round) ≡ Ok (texts ("s.ditamap:3 MapCycle m.ditamap" ∷ []))
unfolding plan_of map_included digits
round_faults = refl

-- the pages are those of the references in both maps
round_pages : pages (planned round) ≡ Ok (texts ("t.html" ∷ []))
unfolding plan_of map_included
round_pages = refl

abbrev twice : World
twice = these (m (include (ref "t.dita" ∷ []) ∷ include [] ∷ []) ∷ map_doc "s.ditamap" (ref "t.dita" ∷ []) ∷ t ∷ [])

-- what a reference holds itself comes behind the map that it includes; side by side a map is included each time
twice_nodes : wholes (planned twice) ≡ Ok (
    (kinds.Map, in_m, 0, 1, 0, 0, 8) ∷ (kinds.Included, in_m, 1, 3, 0, 0, 5)
    ∷ (kinds.Map, in_s, 0, 1, 1, 1, 4) ∷ (kinds.Reference, in_s, 1, 3, 1, 2, 4)
    ∷ (kinds.Reference, in_m, 2, 7, 0, 1, 5) ∷ (kinds.Included, in_m, 3, 12, 0, 0, 8)
    ∷ (kinds.Map, in_s, 0, 1, 1, 5, 8) ∷ (kinds.Reference, in_s, 1, 3, 1, 6, 8) ∷ [])
unfolding plan_of map_included
twice_nodes = refl

-- a map that stands beside itself is no fault
twice_faults : faults (planned twice) ≡ Ok []
unfolding plan_of map_included
twice_faults = refl

abbrev no_maps : World
no_maps = these (m (submap "s.ditamap#x" ∷ submap "t.dita" ∷ submap "#x" ∷ []) ∷ t ∷ [])

-- the target is not stored, is no map, or is the map itself, since an empty file means that; a fragment does not count
no_map_is_included : faults (planned no_maps) ≡ Ok (texts ("m.ditamap:3 MapMissing s.ditamap"
    ∷ "m.ditamap:8 MapMissing t.dita" ∷ "m.ditamap:13 MapCycle m.ditamap" ∷ []))
unfolding plan_of map_included digits
no_map_is_included = refl

-- the reference stays, without a map below it
no_map_below : outline (planned no_maps) ≡ Ok (
    (kinds.Map, 1, 0) ∷ (kinds.Included, 3, 0) ∷ (kinds.Included, 8, 0) ∷ (kinds.Included, 13, 0) ∷ [])
unfolding plan_of map_included
no_map_below = refl

abbrev far : World
far = these (m (topicref (given "format" "ditamap" ∷ href "s.ditamap" ∷ given "scope" "external" ∷ []) []
    ∷ topicref (given "format" "ditamap" ∷ href "s.ditamap" ∷ given "scope" "peer" ∷ []) []
    ∷ submap "http://x/s.ditamap" ∷ []) ∷ map_doc "s.ditamap" [] ∷ [])

-- a map that is not ours is not included, and that is no fault
far_maps_are_left : outline (planned far) ≡ Ok (
    (kinds.Map, 1, 0) ∷ (kinds.Included, 3, 0) ∷ (kinds.Included, 9, 0) ∷ (kinds.Included, 15, 0) ∷ [])
unfolding plan_of map_included
far_maps_are_left = refl

-- nothing is said of it
far_maps_are_no_fault : faults (planned far) ≡ Ok []
unfolding plan_of map_included
far_maps_are_no_fault = refl

abbrev unread : World
unread = these (m (submap "" ∷ submap "../s.ditamap" ∷ submap "a b" ∷ submap "." ∷ []) ∷ [])

-- an href that is empty, leads above the root, or joins to no name can't be read
unread_maps : faults (planned unread) ≡ Ok (texts ("m.ditamap:3 BadReference"
    ∷ "m.ditamap:8 BadReference ../s.ditamap"
    ∷ "m.ditamap:13 BadReference a b" ∷ "m.ditamap:18 BadReference ." ∷ []))
unfolding plan_of map_included digits
unread_maps = refl

abbrev in_table : World
in_table = these (m (table_of (submap "s.ditamap#x" ∷ []) ∷ []) ∷ map_doc "s.ditamap" (ref "t.dita" ∷ []) ∷ t ∷ [])

-- in a relationship table nothing is included
table_nodes : outline (planned in_table) ≡ Ok ((kinds.Map, 1, 0) ∷ (kinds.RelTable, 3, 0) ∷ (kinds.RelRow, 5, 1)
    ∷ (kinds.RelCell, 7, 2) ∷ (kinds.Reference, 9, 3) ∷ [])
unfolding plan_of map_included
table_nodes = refl

-- there it is a reference to a file, with what stands behind the file's name
table_targets : view (λ plan. plan.targets) (planned in_table) ≡ Ok (targets.Nothing ∷ targets.Nothing
    ∷ targets.Nothing
    ∷ targets.Nothing ∷ targets.File (codes "s.ditamap") (codes "#x") ∷ [])
unfolding plan_of map_included
table_targets = refl

-- Elements

abbrev kinds_of_elements : World
kinds_of_elements = these (m (of_topic "title" [] (text "B" ∷ plain "x" [] [] ∷ [])
    ∷ of_map "topicmeta" [] (ref "t.dita" ∷ [])
    ∷ of_map "map" [] (ref "t.dita" ∷ []) ∷ plain "dita" [] (ref "t.dita" ∷ [])
    ∷ classed "keydef" (codes "+ map/topicref mapgroup-d/keydef ") [] (of_map "relrow" [] [] ∷ []) ∷ []) ∷ [])

-- what makes no node is passed over with its content, `dita` too; a special topicref is a reference; texts have places
passed_over : wholes (planned kinds_of_elements) ≡ Ok ((kinds.Map, in_m, 0, 1, 0, 0, 3)
    ∷ (kinds.Reference, in_m, 10, 29, 0, 0, 3) ∷ (kinds.RelRow, in_m, 11, 31, 0, 1, 3) ∷ [])
unfolding plan_of map_included
passed_over = refl

-- no fault of a class is found in what is passed over
passed_over_is_no_fault : faults (planned kinds_of_elements) ≡ Ok []
unfolding plan_of map_included
passed_over_is_no_fault = refl

abbrev transparent : World
transparent = these (m (plain "x" (href "a" ∷ []) (ref "t.dita" ∷ plain "y" (given "class" "map/topicref" ∷ [])
    (ref "t.dita" ∷ []) ∷ []) ∷ []) ∷ t ∷ [])

-- the children of an element whose class is not there or can't be read stand in its place
transparent_nodes : outline (planned transparent) ≡ Ok (
    (kinds.Map, 1, 0) ∷ (kinds.Reference, 5, 0) ∷ (kinds.Reference, 11, 0) ∷ [])
unfolding plan_of map_included
transparent_nodes = refl

-- it is a fault with the element's name, or with the class that can't be read
transparent_faults : faults (planned transparent) ≡ Ok (texts ("m.ditamap:3 NoClass x"
    ∷ "m.ditamap:9 BadClass map/topicref" ∷ []))
unfolding plan_of map_included digits
transparent_faults = refl

abbrev with_conrefs : World
with_conrefs = these (map_with "m.ditamap" (given "conref" "r" ∷ []) (topicref (href "t.dita"
    ∷ given "conkeyref" "k/b"
    ∷ given "conref" "a" ∷ []) [] ∷ of_topic "title" (given "conref" "c" ∷ []) [] ∷ []) ∷ t ∷ [])

-- each content reference of a node's element is a fault, of the root too, and has no effect
conrefs_are_ignored : faults (planned with_conrefs) ≡ Ok (texts (
    "m.ditamap:1 MapConref r" ∷ "m.ditamap:4 MapConref a" ∷ "m.ditamap:4 MapConref k/b" ∷ []))
unfolding plan_of map_included digits
conrefs_are_ignored = refl
