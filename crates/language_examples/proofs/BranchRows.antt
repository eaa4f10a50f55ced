-- Maps with branches that are copied, whose nodes, pages, scopes and faults are known by hand.
use Rattle.std.specs.Fmt.{digits}
use Rattle.std.specs.Prelude.{◌≡◌, ℕ, List, [], ◌∷◌, Ok, map, refl, codes}
use Rattle.dita_doc.specs.Tree.{Content}
use Rattle.dita_doc.specs.declared.doc.Attribute.{Attribute}
use Rattle.dita_doc.specs.declared.plan.Affix.{Affix}
use Rattle.dita_doc.specs.declared.plan.PlanKind.TheVariants as kinds
use Rattle.dita_doc.specs.declared.plan.PlanNode.{PlanNode}
use Rattle.map_spec.specs.Included.{map_included}
use Rattle.map_spec.specs.PlanOf.{plan_of}
use Rattle.reader_spec.specs.World.{World}
use Rattle.language_examples.proofs.Short.{Document, Planned, Seen, ditaval, ditavalmeta, ditavalref, dvr, faults, given, href, m, map_with, of_map, outline, pages, plain, planned, prop, ref, texts, these, topic, topicref, view}

-- a reference to a DITAVAL with metadata
abbrev branch : List Attribute → List Content → Content
branch attributes inside = ditavalref attributes (ditavalmeta inside ∷ [])

abbrev filters : Planned → Seen (List (List (List ℕ)))
filters made = view (λ plan. map (λ (node : PlanNode). node.filters) plan.nodes) made

abbrev affixes : Planned → Seen (List (List Affix))
affixes made = view (λ plan. map (λ (node : PlanNode). node.affixes) plan.nodes) made

abbrev scope_names : Planned → Seen (List (List (List ℕ)))
scope_names made = view (λ plan. map (λ (node : PlanNode). node.scope_names) plan.nodes) made

abbrev t : Document
t = topic "t.dita" "t"

-- the token `x` of an audience is excluded
abbrev v : Document
v = ditaval "v.ditaval" (prop "exclude" "audience" "x" ∷ [])

abbrev for_x : Attribute
for_x = given "audience" "x"

-- Copies within copies

abbrev nested : World
nested = these (m (topicref (href "b.dita" ∷ given "keyscope" "s" ∷ [])
    (branch (href "o.ditaval" ∷ []) (dvr "dvrResourcePrefix" "p-" ∷ dvr "dvrKeyscopePrefix" "p-" ∷ [])
    ∷ topicref (href "c.dita" ∷ []) (branch (href "w.ditaval" ∷ []) (dvr "dvrResourceSuffix" "-win" ∷ [])
    ∷ branch (href "l.ditaval" ∷ []) (dvr "dvrResourceSuffix" "-lin" ∷ []) ∷ []) ∷ []) ∷ [])
    ∷ topic "b.dita" "b" ∷ topic "c.dita" "c" ∷ ditaval "o.ditaval" [] ∷ ditaval "w.ditaval" []
    ∷ ditaval "l.ditaval" [] ∷ [])

-- a copy for each reference to a DITAVAL, in their order, without these references
nested_nodes : outline (planned nested) ≡ Ok ((kinds.Map, 1, 0) ∷ (kinds.Reference, 3, 0) ∷ (kinds.Reference, 22, 1)
    ∷ (kinds.Reference, 22, 1) ∷ [])
unfolding plan_of map_included
nested_nodes = refl

-- the inner branch's suffix is put on before the outer one's prefix
nested_pages : pages (planned nested) ≡ Ok (texts ("p-b.html" ∷ "p-c-win.html" ∷ "p-c-lin.html" ∷ []))
unfolding plan_of map_included
nested_pages = refl

-- each DITAVAL is there, and no page has another name than its base gives it
nested_faults : faults (planned nested) ≡ Ok []
unfolding plan_of map_included
nested_faults = refl

-- the prefix for scopes stands before the name of the branch's scope, and no other scope begins
nested_scopes : view (λ plan. plan.scopes) (planned nested) ≡ Ok (record { parent = 0; node = 0; names = [] }
    ∷ record { parent = 0; node = 1; names = texts ("p-s" ∷ []) } ∷ [])
unfolding plan_of map_included
nested_scopes = refl

-- inner filters stand before outer ones
nested_filters : filters (planned nested) ≡ Ok ([] ∷ texts ("o.ditaval" ∷ []) ∷ texts ("w.ditaval" ∷ "o.ditaval" ∷ [])
    ∷ texts ("l.ditaval" ∷ "o.ditaval" ∷ []) ∷ [])
unfolding plan_of map_included
nested_filters = refl

abbrev affix : List ℕ → List ℕ → Affix
affix prefix suffix = record { prefix = prefix; suffix = suffix }

-- and inner affixes before outer ones
nested_affixes : affixes (planned nested) ≡ Ok ([] ∷ (affix (codes "p-") [] ∷ [])
    ∷ (affix [] (codes "-win") ∷ affix (codes "p-") [] ∷ []) ∷ (affix [] (codes "-lin") ∷ affix (codes "p-") []
    ∷ []) ∷ [])
unfolding plan_of map_included
nested_affixes = refl

-- Groups

abbrev under_map : World
under_map = these (m (branch [] (dvr "dvrResourceSuffix" "-a" ∷ []) ∷ ref "t.dita"
    ∷ branch (href "v.ditaval" ∷ []) (dvr "dvrKeyscopePrefix" "k" ∷ dvr "dvrKeyscopeSuffix" "l" ∷ [])
    ∷ topicref (for_x ∷ []) [] ∷ []) ∷ t ∷ v ∷ [])

-- under a map each branch is a group of copies, at the line of its reference; what its rules exclude is not in it
groups : outline (planned under_map) ≡ Ok ((kinds.Map, 1, 0) ∷ (kinds.Group, 3, 0) ∷ (kinds.Reference, 13, 1)
    ∷ (kinds.Reference, 32, 1) ∷ (kinds.Group, 17, 0) ∷ (kinds.Reference, 13, 4) ∷ [])
unfolding plan_of map_included
groups = refl

-- a group has its reference's place
group_places : view (λ plan. map (λ (node : PlanNode). node.place) plan.nodes) (planned under_map)
    ≡ Ok (0 ∷ 1 ∷ 5 ∷ 12 ∷ 6 ∷ 5 ∷ [])
unfolding plan_of map_included
group_places = refl

-- a group is named by prefix and suffix together, unless both are empty
group_names : scope_names (planned under_map) ≡ Ok ([] ∷ [] ∷ [] ∷ [] ∷ texts ("kl" ∷ []) ∷ [] ∷ [])
unfolding plan_of map_included
group_names = refl

-- a group and all below it have the filter of its branch
group_filters : filters (planned under_map)
    ≡ Ok ([] ∷ [] ∷ [] ∷ [] ∷ texts ("v.ditaval" ∷ []) ∷ texts ("v.ditaval" ∷ []) ∷ [])
unfolding plan_of map_included
group_filters = refl

-- its affix stands on the group and on all below it; an affix of nothing is none
group_affixes : affixes (planned under_map)
    ≡ Ok ([] ∷ (affix [] (codes "-a") ∷ []) ∷ (affix [] (codes "-a") ∷ []) ∷ (affix [] (codes "-a") ∷ []) ∷ [] ∷ []
    ∷ [])
unfolding plan_of map_included
group_affixes = refl

-- the same topic in two groups has two pages, since their affixes and scopes differ
group_pages : pages (planned under_map) ≡ Ok (texts ("t-a.html" ∷ "t.html" ∷ []))
unfolding plan_of map_included
group_pages = refl

abbrev included : World
included = these (m (topicref (given "format" "ditamap" ∷ href "s.ditamap" ∷ given "keyscope" "a b" ∷ [])
    (branch [] (dvr "dvrKeyscopeSuffix" "-z" ∷ []) ∷ topicref [] [] ∷ []) ∷ [])
    ∷ map_with "s.ditamap" (given "keyscope" "b c b" ∷ []) (topicref [] [] ∷ ditavalref [] [] ∷ []) ∷ [])

-- a reference is copied with the map that it includes, and in that map stand groups
included_nodes : outline (planned included) ≡ Ok ((kinds.Map, 1, 0) ∷ (kinds.Included, 3, 0) ∷ (kinds.Map, 1, 1)
    ∷ (kinds.Group, 7, 2) ∷ (kinds.Reference, 4, 3) ∷ (kinds.Reference, 18, 1) ∷ [])
unfolding plan_of map_included
included_nodes = refl

-- a group is as deep as the map under which it stands
included_levels : view (λ plan. map (λ (node : PlanNode). node.level) plan.nodes) (planned included)
    ≡ Ok (0 ∷ 0 ∷ 1 ∷ 1 ∷ 1 ∷ 0 ∷ [])
unfolding plan_of map_included
included_levels = refl

-- the names of an included root stand at its reference behind those written there, each once
included_names : scope_names (planned included) ≡ Ok ([] ∷ texts ("a-z" ∷ "b-z" ∷ "c-z" ∷ []) ∷ [] ∷ [] ∷ [] ∷ []
    ∷ [])
unfolding plan_of map_included
included_names = refl

-- What is passed over, and what is no filter

abbrev elsewhere : World
elsewhere = these (m (of_map "reltable" [] (ditavalref (href "n" ∷ []) [] ∷ of_map "relrow" [] (ditavalref (href "n"
    ∷ []) []
    ∷ of_map "relcell" [] (ditavalref (href "n" ∷ []) [] ∷ topicref [] (ditavalref [] [] ∷ ditavalref [] (ditavalref
    (href "n" ∷ []) [] ∷ []) ∷ []) ∷ []) ∷ []) ∷ []) ∷ []) ∷ [])

-- a table, a row, a cell and a reference to a DITAVAL have no branches; a reference in a cell has
elsewhere_is_passed_over : outline (planned elsewhere) ≡ Ok ((kinds.Map, 1, 0) ∷ (kinds.RelTable, 3, 0)
    ∷ (kinds.RelRow, 9, 1)
    ∷ (kinds.RelCell, 15, 2) ∷ (kinds.Reference, 21, 3) ∷ (kinds.Reference, 21, 3) ∷ [])
unfolding plan_of map_included
elsewhere_is_passed_over = refl

-- a DITAVAL that is passed over is not read
elsewhere_is_no_fault : faults (planned elsewhere) ≡ Ok []
unfolding plan_of map_included
elsewhere_is_no_fault = refl

abbrev within : World
within = these (m (topicref [] (ditavalref [] (topicref [] (ditavalref (href "n" ∷ []) [] ∷ []) ∷ []) ∷ []) ∷ []) ∷ [])

-- what stands within a reference to a DITAVAL is passed over with it
within_is_no_fault : faults (planned within) ≡ Ok []
unfolding plan_of map_included
within_is_no_fault = refl

abbrev unread : World
unread = these (m (topicref (for_x ∷ []) (ditavalref (href "w.ditaval" ∷ []) [] ∷ ditavalref (href "t.dita" ∷ []) []
    ∷ ditavalref (href "v.ditaval" ∷ given "scope" "peer" ∷ []) [] ∷ ditavalref (href "x:v" ∷ []) []
    ∷ ditavalref (href "" ∷ []) [] ∷ ditavalref (href "../v.ditaval" ∷ []) [] ∷ []) ∷ []) ∷ t ∷ v ∷ [])

-- a DITAVAL that is not stored, is none or is not ours is missing; an href that can't be read is a bad reference
unread_faults : faults (planned unread) ≡ Ok (texts ("m.ditamap:6 DitavalMissing w.ditaval"
    ∷ "m.ditamap:10 DitavalMissing t.dita" ∷ "m.ditamap:14 DitavalMissing v.ditaval"
    ∷ "m.ditamap:19 DitavalMissing x:v"
    ∷ "m.ditamap:23 BadReference" ∷ "m.ditamap:27 BadReference ../v.ditaval" ∷ []))
unfolding plan_of map_included digits
unread_faults = refl

-- for each of these there is a copy nevertheless, and no filter
unread_filters : filters (planned unread) ≡ Ok ([] ∷ [] ∷ [] ∷ [] ∷ [] ∷ [] ∷ [] ∷ [])
unfolding plan_of map_included
unread_filters = refl

-- Filtering

abbrev top : World
top = these (m (topicref (for_x ∷ []) (ditavalref (href "v.ditaval#y" ∷ given "format" "html" ∷ []) []
    ∷ ditavalref [] []
    ∷ topicref [] [] ∷ []) ∷ []) ∷ v ∷ [])

-- a branch's rules may exclude the node that is copied; neither a fragment nor a format counts in a DITAVAL's href
top_goes : outline (planned top) ≡ Ok ((kinds.Map, 1, 0) ∷ (kinds.Reference, 3, 0) ∷ (kinds.Reference, 14, 1) ∷ [])
unfolding plan_of map_included
top_goes = refl

-- the DITAVAL is no filter of the copy that is left
top_filters : filters (planned top) ≡ Ok ([] ∷ [] ∷ [] ∷ [])
unfolding plan_of map_included
top_filters = refl

abbrev gone : World
gone = these (m (topicref [] (ditavalref (href "v.ditaval" ∷ []) [] ∷ topicref (for_x ∷ []) (ditavalref
    (href "w.ditaval" ∷ []) [] ∷ ditavalref (href "f.ditaval" ∷ []) [] ∷ []) ∷ topicref [] [] ∷ []) ∷ []) ∷ v
    ∷ ditaval "f.ditaval" (prop "hide" "" "" ∷ []) ∷ [])

-- an outer filter drops the copies of an inner branch
gone_nodes : outline (planned gone) ≡ Ok ((kinds.Map, 1, 0) ∷ (kinds.Reference, 3, 0) ∷ (kinds.Reference, 21, 1) ∷ [])
unfolding plan_of map_included
gone_nodes = refl

-- the faults of the inner DITAVALs are given nevertheless
gone_faults : faults (planned gone) ≡ Ok (texts ("f.ditaval:2 BadAction hide"
    ∷ "m.ditamap:12 DitavalMissing w.ditaval" ∷ []))
unfolding plan_of map_included digits
gone_faults = refl

abbrev map_gone : World
map_gone = these (m (topicref (given "format" "ditamap" ∷ href "s.ditamap" ∷ []) (ditavalref (href "v.ditaval"
    ∷ []) []
    ∷ topicref [] [] ∷ []) ∷ []) ∷ map_with "s.ditamap" (given "keyscope" "s" ∷ for_x ∷ []) (topicref [] [] ∷ [])
    ∷ v ∷ [])

-- a branch's rules may exclude the map that its reference includes
map_goes : outline (planned map_gone) ≡ Ok ((kinds.Map, 1, 0) ∷ (kinds.Included, 3, 0) ∷ (kinds.Reference, 11, 1)
    ∷ [])
unfolding plan_of map_included
map_goes = refl

-- the names of that map's scope stay
names_stay : scope_names (planned map_gone) ≡ Ok ([] ∷ texts ("s" ∷ []) ∷ [] ∷ [])
unfolding plan_of map_included
names_stay = refl

-- Metadata

abbrev metadata : World
metadata = these (m (topicref (given "keyscope" "a b a" ∷ []) (ditavalref [] (dvr "dvrResourcePrefix" "no"
    ∷ ditavalmeta [] ∷ ditavalmeta (plain "z" [] (dvr "dvrResourcePrefix" " p  q" ∷ []) ∷ dvr "dvrResourcePrefix" "r"
    ∷ dvr "dvrKeyscopePrefix" "p." ∷ dvr "dvrKeyscopeSuffix" ".s" ∷ []) ∷ []) ∷ []) ∷ []) ∷ [])

-- the plain text of the first element of its type below any of the metadata counts, and nothing outside them
metadata_affix : affixes (planned metadata) ≡ Ok ([] ∷ (affix (codes "p q") [] ∷ []) ∷ [])
unfolding plan_of map_included
metadata_affix = refl

-- each name of the scope once, with prefix and suffix
metadata_names : scope_names (planned metadata) ≡ Ok ([] ∷ texts ("p.a.s" ∷ "p.b.s" ∷ []) ∷ [])
unfolding plan_of map_included
metadata_names = refl

-- no class is looked for in metadata
metadata_is_no_fault : faults (planned metadata) ≡ Ok []
unfolding plan_of map_included
metadata_is_no_fault = refl

abbrev bad_names : World
bad_names = these (m (branch [] (dvr "dvrKeyscopePrefix" "a#" ∷ []) ∷ topicref (given "keyscope" "s" ∷ [])
    (branch [] (dvr "dvrKeyscopePrefix" "p/" ∷ []) ∷ []) ∷ []) ∷ [])

-- a name is put together first and then judged; the fault of a group's name stands at its reference
bad_names_are_faults : faults (planned bad_names) ≡ Ok (texts ("m.ditamap:3 BadScopeName a#"
    ∷ "m.ditamap:13 BadScopeName p/s" ∷ []))
unfolding plan_of map_included digits
bad_names_are_faults = refl
