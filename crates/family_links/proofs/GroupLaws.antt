-- The collections of a plan, by the children of its nodes.
use Rattle.std.specs.Prelude.{◌≡◌, ◌+◌, ◌<◌, ◌≤◌, ◌&&◌, ℕ, zero, suc, Bool, true, false, not, List, [], ◌∷◌, ◌++◌, Option, Some, None, bytes_eq, codes, filter, is_some, length, map, option_map, slice_get, take, if◌then◌else◌}
use Rattle.std.specs.List.{All, cons_option, filter_map, flat_map}
use Rattle.std.specs.Option.{option_and_then, option_to_list}
use Rattle.std.specs.declared.alloc.Global.{Global}
use Rattle.std.specs.declared.vec.Vec.{Vec}
use Rattle.std.proofs.Common.{refl, sym, ap, ◌∙◌, arith}
use Rattle.std.proofs.Math.Logic.{⊎_elim}
use Rattle.std.proofs.lemmas.Bool.{cases_lt}
use Rattle.std.proofs.lemmas.List.{length-map, map-append, take_all}
use Rattle.std.proofs.lemmas.List.Elements.{All-cons, All-nil, filter-append}
use Rattle.std.proofs.lemmas.Option.{slice_get-map, slice_get_past}
use Rattle.std.proofs.lemmas.Slice.Eq.{bytes_eq-Decides}
use Rattle.dita_doc.specs.declared.plan.Plan.{Plan}
use Rattle.dita_doc.proofs.Tests.{and_false}
use Rattle.link_groups.specs.LinkNodes.{link_node_at, with_page}
use Rattle.link_groups.specs.declared.link_nodes.LinkNode.{LinkNode}
use Rattle.map_spec.specs.Cascade.{attribute_at, is_in_table, walk}
use Rattle.map_spec.specs.Elements.{is_value}
use Rattle.map_spec.specs.Scopes.{places}
use Rattle.link_spec.specs.Links.{children_with_pages, collections, has_page, is_child, is_collection, node_attribute, page_of_node}
use Rattle.reader_spec.specs.World.{World}
use Rattle.map_lemmas.proofs.ListedLaws.{count_places, place_there}
use Rattle.family_links.specs.Collected.{group_of, groups_of}
use Rattle.family_links.specs.Grouped.{child_at, groups, kind_at, kind_in, kind_named, kinds_of, nodes_below}
use Rattle.family_links.specs.Lists.{listed}
use Rattle.family_links.specs.declared.groups.GroupKind.{GroupKind}
use Rattle.family_links.specs.declared.groups.GroupKind.TheVariants.{Sequence, Family}
use Rattle.family_links.proofs.NodeLaws.{IsNode, RiseFrom, found_place, nodes_are, nodes_rise, place_of, places_of}
use Rattle.family_links.proofs.PlaceLaws.{place_more}

-- What a kind is called

abbrev name_of : GroupKind → List ℕ
name_of Sequence = codes "sequence"
name_of Family = codes "family"

not_both : (value : Option (List ℕ)) → is_value (codes "sequence") value ≡ true
    → is_value (codes "family") value ≡ false
not_both None is = cc
not_both (Some text) is =
    let same = (bytes_eq-Decides (codes "sequence") text).0 is in
    sym (ap (bytes_eq (codes "family")) same)

abbrev kind_by : Bool → Bool → Bool → Option GroupKind
kind_by inside sequence family =
    if inside then None else (if sequence then Some Sequence else if family then Some Family else None)

abbrev if_group : Bool → List LinkNode → List (List LinkNode)
if_group b nodes = if b then nodes ∷ [] else []

module _ (entries : List (ℕ × Vec LinkNode Global)) (at : ℕ) where
  sequence_by : (inside sequence family : Bool) → group_of Sequence (kind_by inside sequence family) entries at
      ≡ if_group (sequence && not inside) (listed at entries)
  sequence_by true sequence family = ap (λ b. if_group b (listed at entries)) (sym (and_false sequence))
  sequence_by false true family = refl
  sequence_by false false true = refl
  sequence_by false false false = refl

  family_by : (inside sequence family : Bool) → (sequence ≡ true → family ≡ false)
      → group_of Family (kind_by inside sequence family) entries at
      ≡ if_group (family && not inside) (listed at entries)
  family_by true sequence family apart = ap (λ b. if_group b (listed at entries)) (sym (and_false family))
  family_by false true family apart =
      ap (λ b. if_group (b && true) (listed at entries)) (sym (apart refl))
  family_by false false true apart = refl
  family_by false false false apart = refl

  group_by : (wanted : GroupKind) (world : World) (plan : Plan)
      → group_of wanted (kind_at world plan at) entries at
      ≡ if_group (is_collection world plan (name_of wanted) at) (listed at entries)
  group_by Sequence world plan = sequence_by (is_in_table (walk plan.nodes at))
      (is_value (codes "sequence") (node_attribute world plan (codes "collection-type") at))
      (is_value (codes "family") (node_attribute world plan (codes "collection-type") at))
  group_by Family world plan = family_by (is_in_table (walk plan.nodes at))
      (is_value (codes "sequence") (node_attribute world plan (codes "collection-type") at))
      (is_value (codes "family") (node_attribute world plan (codes "collection-type") at))
      (not_both (node_attribute world plan (codes "collection-type") at))

-- a collection is of a kind
has_kind : (inside sequence family : Bool) → ((sequence && not inside) ≡ true)
    → is_some (kind_by inside sequence family) ≡ true
has_kind true sequence family is = absurd (no sequence is)
  where
    no : (b : Bool) → (b && false) ≡ true → ⊥
    no true e = cc
    no false e = cc
has_kind false true family is = refl
has_kind false false family is = cc

has_family : (inside sequence family : Bool) → ((family && not inside) ≡ true)
    → is_some (kind_by inside sequence family) ≡ true
has_family true sequence family is = absurd (no family is)
  where
    no : (b : Bool) → (b && false) ≡ true → ⊥
    no true e = cc
    no false e = cc
has_family false true family is = refl
has_family false false true is = refl
has_family false false false is = cc

collection_kind : (wanted : GroupKind) (world : World) (plan : Plan) (at : ℕ)
    → is_collection world plan (name_of wanted) at ≡ true → is_some (kind_at world plan at) ≡ true
collection_kind Sequence world plan at is = has_kind (is_in_table (walk plan.nodes at))
    (is_value (codes "sequence") (node_attribute world plan (codes "collection-type") at))
    (is_value (codes "family") (node_attribute world plan (codes "collection-type") at)) is
collection_kind Family world plan at is = has_family (is_in_table (walk plan.nodes at))
    (is_value (codes "sequence") (node_attribute world plan (codes "collection-type") at))
    (is_value (codes "family") (node_attribute world plan (codes "collection-type") at)) is

-- Children

children_below : (p : ℕ → Bool) (h : ℕ → Option LinkNode) (known : Bool) → known ≡ true → (ats : List ℕ)
    → flat_map (λ at. if p at && known then option_to_list (h at) else []) ats ≡ filter_map h (filter p ats)
children_below p h known is [] = refl
children_below p h known is (at ∷ ats) = by_test (children_below p h known is ats) (p at) refl
  where
    front : (first : Option LinkNode) (nodes : List LinkNode) → option_to_list first ++ nodes ≡ cons_option first nodes
    front None nodes = refl
    front (Some node) nodes = refl

    by_test : flat_map (λ at. if p at && known then option_to_list (h at) else []) ats ≡ filter_map h (filter p ats)
        → (b : Bool) → p at ≡ b
        → (if p at && known then option_to_list (h at) else [])
        ++ flat_map (λ at. if p at && known then option_to_list (h at) else []) ats
        ≡ filter_map h (if p at then at ∷ filter p ats else filter p ats)
    by_test behind true e =
        (λ i. (if e i && is i then option_to_list (h at) else []) ++ behind i)
        ∙ front (h at) (filter_map h (filter p ats))
        ∙ sym (ap (λ b. filter_map h (if b then at ∷ filter p ats else filter p ats)) e)
    by_test behind false e =
        ap (λ b. (if b && known then option_to_list (h at) else [])
        ++ flat_map (λ at. if p at && known then option_to_list (h at) else []) ats) e
        ∙ behind
        ∙ sym (ap (λ b. filter_map h (if b then at ∷ filter p ats else filter p ats)) e)

-- the children that are listed at a collection
listed_below : (world : World) (plan : Plan) (entries : List (ℕ × Vec LinkNode Global)) (at : ℕ)
    → listed at entries ≡ flat_map (child_at world plan at) (places plan.nodes)
    → is_some (kind_at world plan at) ≡ true → listed at entries ≡ nodes_below world plan at
listed_below world plan entries at is some =
    is ∙ children_below (is_child plan at) (link_node_at world plan) (is_some (kind_at world plan at)) some
    (places plan.nodes)

-- Groups, one by one

kind_there : (world : World) (plan : Plan) (kinds : List (Option GroupKind)) (at : ℕ) → kinds ≡ kinds_of world plan
    → at < length plan.nodes → kind_in kinds at ≡ kind_at world plan at
kind_there world plan kinds at same within =
    let zero_more : 0 + at ≡ at = omega arith in
    ap (λ l. kind_in l at) same
    ∙ ap (option_and_then (λ (kind : Option GroupKind). kind))
    (slice_get-map (kind_at world plan) (places plan.nodes) at
    ∙ ap (option_map (kind_at world plan)) (place_there plan.nodes 0 at within ∙ ap Some zero_more))

no_kind : (world : World) (plan : Plan) (at : ℕ) → slice_get plan.nodes at ≡ None → kind_at world plan at ≡ None
no_kind world plan at none =
    ap (λ found. kind_for (is_in_table (walk plan.nodes at))
    (option_and_then (attribute_at world (codes "collection-type"))
    found)) none ∙ by_table (is_in_table (walk plan.nodes at))
  where
    kind_for : Bool → Option (List ℕ) → Option GroupKind
    kind_for inside value = if inside then None else kind_named value

    by_table : (inside : Bool) → kind_for inside None ≡ None
    by_table true = refl
    by_table false = refl

-- a place beyond the end has no kind
pub kind_known : (world : World) (plan : Plan) (kinds : List (Option GroupKind)) (at : ℕ) → kinds ≡ kinds_of world plan
    → kind_in kinds at ≡ kind_at world plan at
kind_known world plan kinds at same = ⊎_elim (λ within. kind_there world plan kinds at same within)
    (λ beyond. ap (λ l. kind_in l at) same
    ∙ ap (option_and_then (λ (kind : Option GroupKind). kind))
    (slice_get-map (kind_at world plan) (places plan.nodes) at
    ∙ ap (option_map (kind_at world plan)) (slice_get_past (places plan.nodes) at
    (omega (arith, beyond, count_places plan.nodes 0))))
    ∙ sym (no_kind world plan at (slice_get_past plan.nodes at beyond)))
    (cases_lt at (length plan.nodes))

module _ (wanted : GroupKind) (world : World) (plan : Plan) (kinds : List (Option GroupKind))
    (entries : List (ℕ × Vec LinkNode Global)) (same : kinds ≡ kinds_of world plan)
    (each : (at : ℕ) → listed at entries ≡ flat_map (child_at world plan at) (places plan.nodes)) where
  abbrev is_wanted : ℕ → Bool
  is_wanted at = is_collection world plan (name_of wanted) at

  abbrev so_far : List ℕ → List (List LinkNode)
  so_far ats = map (nodes_below world plan) (filter is_wanted ats)

  one_group : (at : ℕ) → at < length plan.nodes → group_of wanted (kind_in kinds at) entries at ≡ so_far (at ∷ [])
  one_group at within =
      ap (λ kind. group_of wanted kind entries at) (kind_there world plan kinds at same within)
      ∙ group_by entries at wanted world plan
      ∙ by_test (is_wanted at) refl
    where
      by_test : (b : Bool) → is_wanted at ≡ b
          → if_group b (listed at entries) ≡ map (nodes_below world plan) (if b then at ∷ [] else [])
      by_test true e = ap (λ l. l ∷ [])
          (listed_below world plan entries at (each at) (collection_kind wanted world plan at e))
      by_test false e = refl

  first_groups : (count : ℕ) → count ≤ length plan.nodes
      → groups_of wanted kinds entries count ≡ so_far (take count (places plan.nodes))
  first_groups zero within = refl
  first_groups (suc at) within =
      let next : suc at ≡ at + 1 = omega arith in
      (λ i. first_groups at (omega (arith, within)) i ++ one_group at (omega (arith, within)) i)
      ∙ sym (map-append (nodes_below world plan) (filter is_wanted (take at (places plan.nodes)))
      (filter is_wanted (at ∷ [])))
      ∙ ap (map (nodes_below world plan)) (sym (filter-append is_wanted (take at (places plan.nodes)) (at ∷ [])))
      ∙ ap so_far (sym (place_more plan.nodes at (omega (arith, within))))
      ∙ ap (λ n. so_far (take n (places plan.nodes))) (sym next)

  pub all_groups : groups_of wanted kinds entries (length kinds) ≡ groups world plan (name_of wanted)
  all_groups =
      let long : length kinds ≡ length plan.nodes =
      ap length same ∙ length-map (places plan.nodes) (kind_at world plan) ∙ count_places plan.nodes 0 in
      ap (groups_of wanted kinds entries) long
      ∙ first_groups (length plan.nodes) (omega arith)
      ∙ ap so_far (take_all (length plan.nodes) (places plan.nodes) (omega (arith, count_places plan.nodes 0)))

-- What the nodes of collections are

pub record IsGroup (world : World) (plan : Plan) (nodes : List LinkNode) : Type 0 where
  pub all : All (IsNode world plan) nodes
  pub rise : RiseFrom 0 nodes

below_good : (world : World) (plan : Plan) (parent : ℕ) → IsGroup world plan (nodes_below world plan parent)
below_good world plan parent = record {
  all = nodes_are world plan (filter (is_child plan parent) (places plan.nodes));
  rise = nodes_rise (is_child plan parent) (link_node_at world plan) (found_place world plan) 0 plan.nodes;
}

all_good : (world : World) (plan : Plan) (parents : List ℕ)
    → All (IsGroup world plan) (map (nodes_below world plan) parents)
all_good world plan [] = All-nil (IsGroup world plan)
all_good world plan (parent ∷ parents) =
    All-cons (IsGroup world plan) (nodes_below world plan parent) (map (nodes_below world plan) parents)
    (below_good world plan parent) (all_good world plan parents)

pub groups_good : (world : World) (plan : Plan) (value : List ℕ) → All (IsGroup world plan) (groups world plan value)
groups_good world plan value = all_good world plan (filter (is_collection world plan value) (places plan.nodes))

-- Their places are the collections of the definition

no_page : (world : World) (plan : Plan) (at : ℕ) (page : Option ℕ) → option_map (with_page world plan at) page ≡ None
    → is_some page ≡ false
no_page world plan at None is = refl
no_page world plan at (Some page) is = cc

a_page : (world : World) (plan : Plan) (at : ℕ) (node : LinkNode) (page : Option ℕ)
    → option_map (with_page world plan at) page ≡ Some node → is_some page ≡ true
a_page world plan at node None is = cc
a_page world plan at node (Some page) is = refl

child_places : (world : World) (plan : Plan) (parent : ℕ)
    → children_with_pages plan parent ≡ map place_of (nodes_below world plan parent)
child_places world plan parent =
    places_of (is_child plan parent) (link_node_at world plan) (found_place world plan) (has_page plan)
    (λ at is. no_page world plan at (page_of_node plan at) is)
    (λ at node is. a_page world plan at node (page_of_node plan at) is) (places plan.nodes)

all_places_of : (world : World) (plan : Plan) (parents : List ℕ)
    → map (children_with_pages plan) parents ≡ map (map place_of) (map (nodes_below world plan) parents)
all_places_of world plan [] = refl
all_places_of world plan (parent ∷ parents) =
    (λ i. child_places world plan parent i ∷ all_places_of world plan parents i)

pub group_places : (world : World) (plan : Plan) (value : List ℕ)
    → collections world plan value ≡ map (map place_of) (groups world plan value)
group_places world plan value =
    all_places_of world plan (filter (is_collection world plan value) (places plan.nodes))
