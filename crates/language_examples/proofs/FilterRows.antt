-- Maps that a DITAVAL filters, whose nodes and faults are known by hand.
use Rattle.std.specs.Fmt.{digits}
use Rattle.std.specs.Prelude.{◌≡◌, [], ◌∷◌, Ok, refl}
use Rattle.dita_doc.specs.declared.doc.Attribute.{Attribute}
use Rattle.dita_doc.specs.declared.plan.PlanKind.TheVariants as kinds
use Rattle.map_spec.specs.Included.{map_included}
use Rattle.map_spec.specs.PlanOf.{plan_of}
use Rattle.reader_spec.specs.World.{World}
use Rattle.language_examples.proofs.Short.{Document, Planned, ditaval, ditavalref, faults, given, href, m, map_with, of_map, outline, pages, plain, planned, planned_by, prop, ref, submap, texts, these, topic, topicref}

abbrev t : Document
t = topic "t.dita" "t"

-- the token `x` of an audience is excluded
abbrev v : Document
v = ditaval "v.ditaval" (prop "exclude" "audience" "x" ∷ [])

abbrev by_v : World → Planned
by_v world = planned_by "v.ditaval" world

abbrev for_x : Attribute
for_x = given "audience" "x"

abbrev subtree : World
subtree = these (m (topicref (for_x ∷ href "a.dita" ∷ []) (ref "b.dita" ∷ []) ∷ ref "t.dita" ∷ []) ∷ t ∷ v ∷ [])

-- a node that is excluded goes with all that stands below it
subtree_goes : outline (by_v subtree) ≡ Ok ((kinds.Map, 1, 0) ∷ (kinds.Reference, 12, 0) ∷ [])
unfolding plan_of map_included
subtree_goes = refl

-- what is gone has no later faults
no_faults_of_what_is_gone : faults (by_v subtree) ≡ Ok []
unfolding plan_of map_included
no_faults_of_what_is_gone = refl

-- without the DITAVAL both documents are missing
faults_of_what_is_there : faults (planned subtree) ≡ Ok (texts ("m.ditamap:3 TopicMissing a.dita"
    ∷ "m.ditamap:7 TopicMissing b.dita" ∷ []))
unfolding plan_of map_included digits
faults_of_what_is_there = refl

abbrev one_of_two : World
one_of_two = these (m (topicref (given "audience" "x y" ∷ []) [] ∷ topicref (given "audience" "x x" ∷ []) []
    ∷ topicref (given "audience" "y" ∷ given "platform" "x" ∷ []) [] ∷ topicref (given "audience" " " ∷ []) [] ∷ [])
    ∷ v ∷ [])

-- an attribute excludes if each of its tokens is excluded; by no rule for its attribute a token stays
all_tokens_exclude : outline (by_v one_of_two) ≡ Ok ((kinds.Map, 1, 0) ∷ (kinds.Reference, 3, 0)
    ∷ (kinds.Reference, 11, 0)
    ∷ (kinds.Reference, 16, 0) ∷ [])
unfolding plan_of map_included
all_tokens_exclude = refl

abbrev root : World
root = these (map_with "m.ditamap" (for_x ∷ given "props" "a(b)" ∷ []) (ref "t.dita" ∷ []) ∷ t ∷ v ∷ [])

-- the root of the whole map stays
root_stays : outline (by_v root) ≡ Ok ((kinds.Map, 1, 0) ∷ (kinds.Reference, 5, 0) ∷ [])
unfolding plan_of map_included
root_stays = refl

-- a value of groups on it is a fault nevertheless
root_has_its_faults : faults (by_v root) ≡ Ok (texts ("m.ditamap:1 GroupValue props" ∷ []))
unfolding plan_of map_included digits
root_has_its_faults = refl

abbrev groups : World
groups = these (m (topicref (given "audience" "x a(x)" ∷ []) [] ∷ topicref (given "platform" "(a" ∷ for_x ∷ [])
    (topicref (given "product" "a(b)" ∷ []) [] ∷ []) ∷ []) ∷ v ∷ [])

-- a value of groups counts as absent, so that it does not exclude
groups_do_not_exclude : outline (by_v groups) ≡ Ok ((kinds.Map, 1, 0) ∷ (kinds.Reference, 3, 0) ∷ [])
unfolding plan_of map_included
groups_do_not_exclude = refl

-- it is a fault of each node that is judged, also of one that goes, but not of those below that
groups_are_faults : faults (by_v groups) ≡ Ok (texts ("m.ditamap:3 GroupValue audience"
    ∷ "m.ditamap:7 GroupValue platform" ∷ []))
unfolding plan_of map_included digits
groups_are_faults = refl

-- without a DITAVAL all are judged, by no rules
groups_without_ditaval : faults (planned groups) ≡ Ok (texts ("m.ditamap:3 GroupValue audience"
    ∷ "m.ditamap:7 GroupValue platform" ∷ "m.ditamap:11 GroupValue product" ∷ []))
unfolding plan_of map_included digits
groups_without_ditaval = refl

abbrev other_map : World
other_map = these (m (topicref (given "format" "ditamap" ∷ href "s.ditamap" ∷ []) (ref "t.dita" ∷ []) ∷ [])
    ∷ map_with "s.ditamap" (for_x ∷ []) (ref "a.dita" ∷ []) ∷ t ∷ v ∷ [])

-- where the root of an included map is excluded, its reference stays with what it holds itself
included_map_goes : outline (by_v other_map) ≡ Ok ((kinds.Map, 1, 0) ∷ (kinds.Included, 3, 0)
    ∷ (kinds.Reference, 7, 1) ∷ [])
unfolding plan_of map_included
included_map_goes = refl

abbrev each_kind : World
each_kind = these (m (of_map "reltable" [] (of_map "relrow" (for_x ∷ []) [] ∷ of_map "relrow" []
    (of_map "relcell" (for_x ∷ []) [] ∷ of_map "relcell" [] [] ∷ []) ∷ []) ∷ of_map "reltable" (for_x ∷ []) []
    ∷ topicref [] (ditavalref (for_x ∷ href "w.ditaval" ∷ []) [] ∷ []) ∷ []) ∷ v ∷ [])

-- rows, cells, tables and references to DITAVALs are judged like any other node; one that goes copies nothing
each_kind_is_judged : outline (by_v each_kind) ≡ Ok ((kinds.Map, 1, 0) ∷ (kinds.RelTable, 3, 0) ∷ (kinds.RelRow, 9, 1)
    ∷ (kinds.RelCell, 15, 2) ∷ (kinds.Reference, 24, 0) ∷ [])
unfolding plan_of map_included
each_kind_is_judged = refl

-- the DITAVAL of a reference that goes is not read
each_kind_is_no_fault : faults (by_v each_kind) ≡ Ok []
unfolding plan_of map_included
each_kind_is_no_fault = refl

abbrev before : World
before = these (m (topicref (for_x ∷ given "conref" "c" ∷ []) (submap "s.ditamap" ∷ plain "y" [] [] ∷ []) ∷ []) ∷ v
    ∷ [])

-- the faults of what a map's nodes are made of stay, also for nodes that go
faults_before_filtering : faults (by_v before) ≡ Ok (texts ("m.ditamap:3 MapConref c"
    ∷ "m.ditamap:7 MapMissing s.ditamap"
    ∷ "m.ditamap:12 NoClass y" ∷ []))
unfolding plan_of map_included digits
faults_before_filtering = refl

abbrev transparent : World
transparent = these (m (plain "y" (for_x ∷ given "props" "a(b)" ∷ []) (ref "t.dita" ∷ []) ∷ []) ∷ t ∷ v ∷ [])

-- nodes alone are judged: an element that makes none passes its children on
transparent_is_not_judged : faults (by_v transparent) ≡ Ok (texts ("m.ditamap:3 NoClass y" ∷ []))
unfolding plan_of map_included digits
transparent_is_not_judged = refl

-- so they make their pages
transparent_keeps_its_children : pages (by_v transparent) ≡ Ok (texts ("t.html" ∷ []))
unfolding plan_of map_included digits
transparent_keeps_its_children = refl

abbrev faulty_rules : World
faulty_rules = these (m [] ∷ ditaval "v.ditaval" (prop "hide" "audience" "x" ∷ prop "exclude" "audience" "x"
    ∷ prop "include" "audience" "x" ∷ []) ∷ [])

-- the faults of the DITAVAL are the plan's
faults_of_rules : faults (by_v faulty_rules) ≡ Ok (texts ("v.ditaval:2 BadAction hide"
    ∷ "v.ditaval:12 DitavalTwice audience" ∷ []))
unfolding plan_of map_included digits
faults_of_rules = refl
