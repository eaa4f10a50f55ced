-- Maps of which there is no plan, in the order in which that is looked for; and the limit on nodes, in small.
use Prim.Native.String.{String}
use Rattle.std.specs.Prelude.{◌≡◌, ℕ, List, [], ◌∷◌, Ok, Err, Some, refl, codes}
use Rattle.dita_doc.specs.Tree.{Content}
use Rattle.dita_doc.specs.declared.plan.PlanKind.TheVariants as kinds
use Rattle.dita_doc.specs.declared.plan.PlanStop.TheVariants as stops
use Rattle.map_spec.specs.Included.{map_included}
use Rattle.map_spec.specs.PlanOf.{limits, plan_of}
use Rattle.reader_spec.specs.World.{World}
use Rattle.language_examples.proofs.Short.{Planned, href, classed, ditaval, ditavalref, doc, m, map_doc, node_count, outline, plain, planned, planned_by, planned_in, prop, submap, these, topic, topicref, given}

-- with room for so many nodes, and with a DITAVAL
abbrev planned_both : ℕ → String → World → Planned
planned_both nodes val world =
    plan_of (record limits { nodes = nodes }) world (codes "m.ditamap") (Some (codes val))

-- Stops

abbrev no_map : World
no_map = these []

-- a map that is not stored is found first
no_map_comes_first : planned_by "v.ditaval" no_map ≡ Err stops.NoMap
unfolding plan_of
no_map_comes_first = refl

abbrev a_topic : World
a_topic = these (topic "m.ditamap" "t" ∷ [])

-- the root must be a map, and this is looked for before the DITAVAL
topic_is_no_map : planned_by "v.ditaval" a_topic ≡ Err stops.NotMap
unfolding plan_of
topic_is_no_map = refl

abbrev without_class : World
without_class = these (doc "m.ditamap" (plain "map" [] []) ∷ [])

-- what an element is its class says, and not its name
name_is_no_type : planned without_class ≡ Err stops.NotMap
unfolding plan_of
name_is_no_type = refl

abbrev bookmap : World
bookmap = these (doc "m.ditamap" (classed "bookmap" (codes "- map/map bookmap/bookmap ") [] []) ∷ [])

-- a map of a special type is a map
special_map : outline (planned bookmap) ≡ Ok ((kinds.Map, 1, 0) ∷ [])
unfolding plan_of map_included
special_map = refl

abbrev many : World
many = these (m (topicref [] [] ∷ topicref [] [] ∷ topicref [] [] ∷ []) ∷ topic "t.dita" "t"
    ∷ ditaval "v.ditaval" [] ∷ [])

-- a DITAVAL that is not stored, or whose root is no `val`, comes before the limit on nodes
no_ditaval : planned_both 3 "w.ditaval" many ≡ Err stops.NoDitaval
unfolding plan_of
no_ditaval = refl

-- the root of a DITAVAL must be a `val`
topic_is_no_ditaval : planned_both 3 "t.dita" many ≡ Err stops.NoDitaval
unfolding plan_of
topic_is_no_ditaval = refl

-- Limits

abbrev two_refs : World
two_refs = these (m (topicref [] [] ∷ topicref [] [] ∷ []) ∷ [])

-- as many nodes as the limit says are a plan, the root counted
as_many_as_the_limit : node_count (planned_in 3 two_refs) ≡ Ok 3
unfolding plan_of map_included
as_many_as_the_limit = refl

-- one node more is too many
one_too_many : planned_in 3 many ≡ Err stops.TooManyNodes
unfolding plan_of map_included
one_too_many = refl

-- with room for one node more there is a plan
just_enough : node_count (planned_in 4 many) ≡ Ok 4
unfolding plan_of map_included
just_enough = refl

abbrev deep : World
deep = these (m (submap "a.ditamap" ∷ []) ∷ map_doc "a.ditamap" (submap "b.ditamap" ∷ []) ∷ map_doc "b.ditamap" []
    ∷ [])

-- included maps count
maps_too_many : planned_in 4 deep ≡ Err stops.TooManyNodes
unfolding plan_of map_included
maps_too_many = refl

-- a map and the reference that includes it are two nodes
maps_just_enough : node_count (planned_in 5 deep) ≡ Ok 5
unfolding plan_of map_included
maps_just_enough = refl

-- a reference that is copied twice for nothing
abbrev doubled : List Content → Content
doubled inside = topicref [] (ditavalref [] [] ∷ ditavalref [] [] ∷ inside)

abbrev two_deep : World
two_deep = these (m (doubled (doubled [] ∷ []) ∷ []) ∷ [])

abbrev three_deep : World
three_deep = these (m (doubled (doubled (doubled [] ∷ []) ∷ []) ∷ []) ∷ [])

-- copies of copies: two of the outer node, and four of the inner one
two_deep_copied : outline (planned_in 7 two_deep) ≡ Ok ((kinds.Map, 1, 0) ∷ (kinds.Reference, 3, 0)
    ∷ (kinds.Reference, 11, 1)
    ∷ (kinds.Reference, 11, 1) ∷ (kinds.Reference, 3, 0) ∷ (kinds.Reference, 11, 4) ∷ (kinds.Reference, 11, 4) ∷ [])
unfolding plan_of map_included
two_deep_copied = refl

-- seven nodes are too many for a limit of six
two_deep_too_many : planned_in 6 two_deep ≡ Err stops.TooManyNodes
unfolding plan_of map_included
two_deep_too_many = refl

-- ten nodes before the copies, and fifteen after them
three_deep_copied : node_count (planned_in 15 three_deep) ≡ Ok 15
unfolding plan_of map_included
three_deep_copied = refl

-- the limit holds after the copies too
copies_too_many : planned_in 14 three_deep ≡ Err stops.TooManyNodes
unfolding plan_of map_included
copies_too_many = refl

abbrev three_refs : World
three_refs = these (m (topicref [] (ditavalref [] [] ∷ ditavalref [] [] ∷ ditavalref [] [] ∷ []) ∷ []) ∷ [])

-- references to DITAVALs count before the copies, and not after them
refs_count_before : planned_in 4 three_refs ≡ Err stops.TooManyNodes
unfolding plan_of map_included
refs_count_before = refl

-- each copy is without them
refs_do_not_count_after : node_count (planned_in 5 three_refs) ≡ Ok 4
unfolding plan_of map_included
refs_do_not_count_after = refl

abbrev judged_away : World
judged_away = these (m (doubled (doubled (topicref (given "audience" "x" ∷ []) [] ∷ []) ∷ []) ∷ [])
    ∷ ditaval "v.ditaval" (prop "exclude" "audience" "x" ∷ []) ∷ [])

-- after the copies only what is left counts, but before them what a filter will drop counts too
filter_counts_before : planned_both 7 "v.ditaval" judged_away
    ≡ Err stops.TooManyNodes
unfolding plan_of map_included
filter_counts_before = refl

-- with room for those there is a plan, of which the rest counts
filter_leaves : node_count (planned_both 8 "v.ditaval" judged_away)
    ≡ Ok 7
unfolding plan_of map_included
filter_leaves = refl

abbrev dropped_copies : World
dropped_copies = these (m (topicref [] (ditavalref (href "v.ditaval" ∷ []) [] ∷ topicref (given "audience" "x" ∷ [])
    (ditavalref [] [] ∷ ditavalref [] [] ∷ doubled (doubled (doubled [] ∷ []) ∷ []) ∷ []) ∷ []) ∷ [])
    ∷ ditaval "v.ditaval" (prop "exclude" "audience" "x" ∷ []) ∷ [])

-- thirty copies that an outer branch's rules exclude do not count
dropped_copies_do_not_count : node_count (planned_in 15 dropped_copies) ≡ Ok 2
unfolding plan_of map_included
dropped_copies_do_not_count = refl
