-- Maps whose cascaded values are known by hand, node by node.
use Prim.Native.String.{String}
use Rattle.std.specs.Prelude.{◌≡◌, [], ◌∷◌, Ok, map, refl, codes}
use Rattle.dita_doc.specs.Tree.{Content}
use Rattle.dita_doc.specs.declared.doc.Attribute.{Attribute}
use Rattle.dita_doc.specs.declared.plan.PlanNode.{PlanNode}
use Rattle.map_spec.specs.Included.{map_included}
use Rattle.map_spec.specs.PlanOf.{plan_of}
use Rattle.reader_spec.specs.World.{World}
use Rattle.language_examples.proofs.Short.{ditavalref, given, href, m, map_with, of_map, planned, ref, table_of, texts, these, topic, topicref, values, view}

abbrev audience : String → Attribute
audience tokens = given "audience" tokens

-- an empty node with this audience, and one with others besides
abbrev for : String → Content
for tokens = topicref (audience tokens ∷ []) []

abbrev merging : String → String → Content
merging how tokens = topicref (given "cascade" how ∷ audience tokens ∷ []) []

-- The values of a node

abbrev one_node : World
one_node = these (map_with "m.ditamap" (given "props" " b  a " ∷ given "product" "" ∷ given "audience" "x"
    ∷ given "rev" "1" ∷ [])
    [] ∷ [])

-- the six values are always there, and behind them the conditional attributes that have tokens, with a space between
all_values : view (λ plan. map (λ (node : PlanNode). node.cascaded) plan.nodes) (planned one_node) ≡ Ok ((
    given "linking" "normal" ∷ given "toc" "yes" ∷ given "format" "dita" ∷ given "scope" "local"
    ∷ given "processing-role" "normal" ∷ given "cascade" "merge" ∷ given "audience" "x" ∷ given "props" "b a" ∷ [])
    ∷ [])
unfolding plan_of map_included
all_values = refl

abbrev labelled : World
labelled = these (m (topicref (audience "x" ∷ given "locktitle" "yes" ∷ given "navtitle" "N" ∷ [])
    (topicref (href "t.dita" ∷ audience "y" ∷ []) [] ∷ []) ∷ topicref (given "navtitle" "G" ∷ []) [] ∷ [])
    ∷ topic "t.dita" "t" ∷ [])

-- tokens of a node come behind those above it
tokens_come_behind : values "audience" (planned labelled) ≡ Ok ([] ∷ codes "x" ∷ codes "x y" ∷ [] ∷ [])
unfolding plan_of map_included
tokens_come_behind = refl

-- The nearest value

abbrev near : World
near = these (map_with "m.ditamap" (given "linking" "none" ∷ [])
    (topicref (given "processing-role" "resource-only" ∷ given "linking" "" ∷ []) (topicref [] [] ∷ topicref
    (given "processing-role" "normal" ∷ []) [] ∷ []) ∷ topicref [] [] ∷ []) ∷ [])

-- the nearest value on the way to the root counts, also an empty one
nearest_role : values "processing-role" (planned near) ≡ Ok (texts ("normal" ∷ "resource-only" ∷ "resource-only"
    ∷ "normal"
    ∷ "normal" ∷ []))
unfolding plan_of map_included
nearest_role = refl

-- an empty value is written too
nearest_linking : values "linking" (planned near) ≡ Ok (texts ("none" ∷ "" ∷ "" ∷ "" ∷ "none" ∷ []))
unfolding plan_of map_included
nearest_linking = refl

abbrev grouped : World
grouped = these (map_with "m.ditamap" (given "toc" "no" ∷ audience "x" ∷ []) (ditavalref (given "toc" "yes"
    ∷ audience "y" ∷ []) []
    ∷ topicref [] [] ∷ []) ∷ [])

-- a group says nothing itself
group_passes_on : values "toc" (planned grouped) ≡ Ok (texts ("no" ∷ "no" ∷ "no" ∷ []))
unfolding plan_of map_included
group_passes_on = refl

-- the tokens at the reference to a DITAVAL are not the group's
group_passes_tokens_on : values "audience" (planned grouped) ≡ Ok (texts ("x" ∷ "x" ∷ "x" ∷ []))
unfolding plan_of map_included
group_passes_tokens_on = refl

-- Into an included map

abbrev into_map : World
into_map = these (m (topicref (given "scope" "external" ∷ given "format" "html"
    ∷ []) (topicref (given "format" "ditamap"
    ∷ href "s.ditamap" ∷ given "linking" "none" ∷ audience "x" ∷ []) (topicref [] (topicref [] [] ∷ []) ∷ []) ∷ [])
    ∷ [])
    ∷ map_with "s.ditamap" (audience "y" ∷ []) (topicref [] [] ∷ []) ∷ [])

-- the scope of a reference does not pass into the map that it includes, but to the reference's own children
scope_into_map : values "scope" (planned into_map) ≡ Ok (texts ("local" ∷ "external" ∷ "external" ∷ "local" ∷ "local"
    ∷ "external" ∷ "external" ∷ []))
unfolding plan_of map_included
scope_into_map = refl

-- its format passes to neither, nor does one above it
format_into_map : values "format" (planned into_map) ≡ Ok (texts ("dita" ∷ "html" ∷ "ditamap" ∷ "dita" ∷ "dita"
    ∷ "dita" ∷ "dita" ∷ []))
unfolding plan_of map_included
format_into_map = refl

-- all else passes into the map
linking_into_map : values "linking" (planned into_map) ≡ Ok (texts ("normal" ∷ "normal" ∷ "none" ∷ "none" ∷ "none"
    ∷ "none" ∷ "none" ∷ []))
unfolding plan_of map_included
linking_into_map = refl

-- tokens above pass into the map, and those of its root come behind them
tokens_into_map : values "audience" (planned into_map) ≡ Ok (texts ("" ∷ "" ∷ "x" ∷ "x y" ∷ "x y" ∷ "x" ∷ "x" ∷ []))
unfolding plan_of map_included
tokens_into_map = refl

abbrev map_says : World
map_says = these (m (topicref (given "format" "ditamap" ∷ href "s.ditamap" ∷ []) [] ∷ [])
    ∷ map_with "s.ditamap" (given "format" "html" ∷ given "scope" "peer" ∷ []) (topicref [] [] ∷ []) ∷ [])

-- what an included map's root says itself passes to its nodes
map_says_format : values "format" (planned map_says) ≡ Ok (texts ("dita" ∷ "ditamap" ∷ "html" ∷ "html" ∷ []))
unfolding plan_of map_included
map_says_format = refl

-- its scope too
map_says_scope : values "scope" (planned map_says) ≡ Ok (texts ("local" ∷ "local" ∷ "peer" ∷ "peer" ∷ []))
unfolding plan_of map_included
map_says_scope = refl

-- Relationship tables

abbrev tables : World
tables = these (m (table_of (topicref (given "format" "ditamap" ∷ []) (ref "t.dita" ∷ []) ∷ []) ∷ topicref [] []
    ∷ of_map "reltable" (given "toc" "yes" ∷ []) (of_map "relrow" [] [] ∷ []) ∷ []) ∷ topic "t.dita" "t" ∷ [])

-- without a value, nothing of a relationship table is in the contents
toc_of_tables : values "toc" (planned tables) ≡ Ok (texts ("yes" ∷ "no" ∷ "no" ∷ "no" ∷ "no" ∷ "no" ∷ "yes" ∷ "yes"
    ∷ "yes" ∷ []))
unfolding plan_of map_included
toc_of_tables = refl

-- the format of maps passes to no child there either
format_of_tables : values "format" (planned tables) ≡ Ok (texts ("dita" ∷ "dita" ∷ "dita" ∷ "dita" ∷ "ditamap"
    ∷ "dita"
    ∷ "dita" ∷ "dita" ∷ "dita" ∷ []))
unfolding plan_of map_included
format_of_tables = refl

abbrev table_in_map : World
table_in_map = these (map_with "m.ditamap" (given "toc" "yes" ∷ []) (of_map "reltable" [] [] ∷ []) ∷ [])

-- a value of the map passes into its tables
toc_of_map : values "toc" (planned table_in_map) ≡ Ok (texts ("yes" ∷ "yes" ∷ []))
unfolding plan_of map_included
toc_of_map = refl

-- Tokens

abbrev merged : World
merged = these (m (topicref (audience "x y" ∷ []) (for "y z y" ∷ for "" ∷ for "a(b) z" ∷ merging "nomerge" "z  z"
    ∷ merging "nomerge" "" ∷ merging "nomerge" "a(b)" ∷ topicref (given "cascade" "nomerge" ∷ []) []
    ∷ merging "other" "z" ∷ [])
    ∷ []) ∷ [])

-- merged, tokens that are there already do not come again; else what is written counts alone, also if it is empty
tokens_merge : values "audience" (planned merged) ≡ Ok (texts ("" ∷ "x y" ∷ "x y z" ∷ "x y" ∷ "x y"
    ∷ "z z" ∷ "" ∷ "x y" ∷ "x y" ∷ "x y z" ∷ []))
unfolding plan_of map_included
tokens_merge = refl

abbrev not_merged : World
not_merged = these (map_with "m.ditamap" (given "cascade" "nomerge" ∷ audience "x" ∷ []) (topicref (audience "y" ∷ [])
    (topicref [] [] ∷ for "z" ∷ merging "merge" "z" ∷ []) ∷ []) ∷ [])

-- whether tokens merge passes on from the nearest node that says so
not_merged_below : values "audience" (planned not_merged) ≡ Ok (texts ("x" ∷ "y" ∷ "y" ∷ "z" ∷ "y z" ∷ []))
unfolding plan_of map_included
not_merged_below = refl

abbrev grouped_root : World
grouped_root = these (map_with "m.ditamap" (audience "a(b)" ∷ []) (for "y" ∷ []) ∷ [])

-- a value of groups at the root passes nothing on
grouped_value_of_the_root : values "audience" (planned grouped_root) ≡ Ok (texts ("" ∷ "y" ∷ []))
unfolding plan_of map_included
grouped_value_of_the_root = refl
