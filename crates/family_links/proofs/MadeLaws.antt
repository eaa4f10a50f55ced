-- The collections of a plan, one by one, and all that they give.
use Rattle.std.specs.Prelude.{◌≡◌, ◌+◌, ◌<◌, ◌≤◌, ◌==◌, ◌&&◌, ℕ, suc, Bool, true, false, not, List, [], ◌∷◌, ◌++◌, Option, Some, None, OnOk, Result, Ok, Err, codes, is_some, length, map, option_map, slice_get, take, unwrap_or, if◌then◌else◌}
use Rattle.std.specs.List.{flat_map}
use Rattle.std.specs.Option.{option_and_then, option_map_or, option_to_list}
use Rattle.std.specs.declared.alloc.Global.{Global}
use Rattle.std.specs.declared.vec.Vec.{Vec}
use Rattle.std.proofs.Common.{refl, sym, ap, subst, ◌∙◌, append-nil, append_assoc, arith, get_or}
use Rattle.std.proofs.lemmas.Bool.{eqb-true}
use Rattle.std.proofs.lemmas.Grind.{flat_map-append}
use Rattle.std.proofs.lemmas.Option.{slice_get-get_or, slice_get-map, slice_get_read}
use Rattle.dita_doc.specs.declared.content.LinkKind.TheVariants as links
use Rattle.dita_doc.specs.declared.plan.Plan.{Plan}
use Rattle.dita_doc.specs.declared.plan.PlanNode.{PlanNode}
use Rattle.dita_doc.specs.declared.stop.NoMemory.{NoMemory}
use Rattle.dita_doc.proofs.Tests.{number_swaps}
use Rattle.link_groups.specs.LinkLists.{HoldsLinks}
use Rattle.link_groups.specs.LinkNodes.{AreLinkNodes, link_node_at}
use Rattle.link_groups.specs.declared.link_list.LinkList.{LinkList}
use Rattle.link_groups.specs.declared.link_nodes.LinkNode.{LinkNode}
use Rattle.link_groups.specs.declared.link_nodes.LinkNodes.{LinkNodes}
use Rattle.map_spec.specs.Scopes.{places}
use Rattle.link_spec.specs.Links.{LinkTo, links_of_kind}
use Rattle.plan_nodes.specs.Preorder.{HasParentsBefore, is_in_table_at, tables_around}
use Rattle.reader_spec.specs.World.{World}
use Rattle.map_lemmas.proofs.ListedLaws.{place_there}
use Rattle.family_links.specs.Collected.{AreCollected, IsMade, IsMadeMore, families_of, group_of, groups_of, links_by_collections, sequences_of}
use Rattle.family_links.specs.Families.{links_to_siblings}
use Rattle.family_links.specs.Grouped.{AreAllChildren, AreChildren, IsPutBelow, child_at, groups, kind_at, kind_in, kinds_of, parent_in, put_below}
use Rattle.family_links.specs.Lists.{if_there, listed}
use Rattle.family_links.specs.Sequenced.{links_beside}
use Rattle.family_links.specs.declared.groups.GroupKind.{GroupKind}
use Rattle.family_links.specs.declared.groups.GroupKind.TheVariants.{Sequence, Family}
use Rattle.family_links.specs.declared.table.Collections.{Collections}
use Rattle.family_links.proofs.GroupLaws.{all_groups, kind_known}
use Rattle.family_links.proofs.PlaceLaws.{all_places, place_more}

-- Kinds, one by one

pub kinds_more : (world : World) (plan : Plan) (kinds : List (Option GroupKind)) (kind : Option GroupKind) (at : ℕ)
    → at < length plan.nodes → kinds ≡ map (kind_at world plan) (take at (places plan.nodes))
    → kind ≡ kind_at world plan at
    → kinds ++ kind ∷ [] ≡ map (kind_at world plan) (take (at + 1) (places plan.nodes))
kinds_more world plan kinds kind at within so_far is =
    (λ i. so_far i ++ is i ∷ [])
    ∙ sym (map_both (take at (places plan.nodes)))
    ∙ ap (map (kind_at world plan)) (sym (place_more plan.nodes at within))
  where
    map_both : (ats : List ℕ) → map (kind_at world plan) (ats ++ at ∷ [])
        ≡ map (kind_at world plan) ats ++ kind_at world plan at ∷ []
    map_both [] = refl
    map_both (first ∷ ats) = ap (λ l. kind_at world plan first ∷ l) (map_both ats)

-- whether a node stands in a table, as the list for all nodes tells it
pub told_there : (nodes : List PlanNode) (at : ℕ) (inside : List Bool) (told : Bool) → at < length nodes
    → inside ≡ tables_around nodes → told ≡ unwrap_or (slice_get inside at) false → told ≡ is_in_table_at nodes at
told_there nodes at inside told within are is =
    let zero_more : 0 + at ≡ at = omega arith in
    is ∙ ap (λ all. unwrap_or (slice_get all at) false) are
    ∙ ap (λ found. unwrap_or found false) (slice_get-map (is_in_table_at nodes) (places nodes) at
    ∙ ap (option_map (is_in_table_at nodes)) (place_there nodes 0 at within ∙ ap Some zero_more))

-- by the nodes as the list of the plan gives them
pub tables_of : (nodes others : List PlanNode) (items : List Bool) → others ≡ nodes → HasParentsBefore nodes
    → (HasParentsBefore others → items ≡ tables_around others) → items ≡ tables_around nodes
tables_of nodes others items same before are =
    are (subst HasParentsBefore (sym same) before) ∙ ap tables_around same

-- A child more

abbrev below : ℕ → Bool → Bool → ℕ → Option LinkNode → List LinkNode
below number first some parent found =
    if first then [] else (if some then option_map_or (if_there number parent) found [] else [])

below_is : (number : ℕ) (first some : Bool) (parent : ℕ) (found : Option LinkNode)
    → put_below number (if first then None else if some then Some parent else None) found
    ≡ below number first some parent found
below_is number true some parent found = refl
below_is number false true parent found = refl
below_is number false false parent found = refl

if_same : (first some a b wanted : Bool) (found : Option LinkNode) → a ≡ b → (a ≡ true → some ≡ wanted)
    → (if first then [] else (if some then option_map_or (λ (x : LinkNode). if a then x ∷ [] else []) found [] else []))
    ≡ (if (not first && b) && wanted then option_to_list found else [])
if_same true some a b wanted found same so = refl
if_same false some true false wanted found same so = cc
if_same false some false true wanted found same so = cc
if_same false true true true true None same so = refl
if_same false true true true true (Some node) same so = refl
if_same false true true true false found same so = absurd (no (so refl))
  where
    no : true ≡ false → ⊥
    no e = cc
if_same false false true true true found same so = absurd (no (so refl))
  where
    no : false ≡ true → ⊥
    no e = cc
if_same false false true true false found same so = refl
if_same false true false false wanted None same so = refl
if_same false true false false wanted (Some node) same so = refl
if_same false false false false wanted found same so = refl

-- what a node has of the one at this place
one_child : (world : World) (plan : Plan) (at number : ℕ) (node : PlanNode) (kinds : List (Option GroupKind))
    → kinds ≡ kinds_of world plan → slice_get plan.nodes at ≡ Some node
    → put_below number (parent_in kinds at node) (link_node_at world plan at) ≡ child_at world plan number at
one_child world plan at number node kinds same there =
    below_is number (at == 0) (is_some (kind_in kinds node.parent)) node.parent (link_node_at world plan at)
    ∙ if_same (at == 0) (is_some (kind_in kinds node.parent)) (number == node.parent) (node.parent == number)
    (is_some (kind_at world plan number)) (link_node_at world plan at) (number_swaps number node.parent)
    (λ e. ap is_some (kind_known world plan kinds node.parent same)
    ∙ ap (λ n. is_some (kind_at world plan n)) (sym (eqb-true number node.parent e)))
    ∙ ap (λ found. if (not (at == 0) && option_map_or (λ (n : PlanNode). n.parent == number) found false)
    && is_some (kind_at world plan number) then option_to_list (link_node_at world plan at) else []) (sym there)

pub child_more : (world : World) (plan : Plan) (at : ℕ) (node : PlanNode) (kinds : List (Option GroupKind))
    (old new : List (ℕ × Vec LinkNode Global)) (nodes others : LinkNodes) → kinds ≡ kinds_of world plan
    → slice_get plan.nodes at ≡ Some node → at < length plan.nodes
    → AreChildren world plan (take at (places plan.nodes)) old nodes
    → IsPutBelow (parent_in kinds at node) (link_node_at world plan at) old new → AreLinkNodes world plan others
    → AreChildren world plan (take (at + 1) (places plan.nodes)) new others
child_more world plan at node kinds old new nodes others same there within before put kept = record {
  each = λ number.
      put.each number
      ∙ (λ i. before.each number i ++ one_child world plan at number node kinds same there i)
      ∙ ap (λ l. flat_map (child_at world plan number) (take at (places plan.nodes)) ++ l)
      (sym (append-nil (child_at world plan number at)))
      ∙ sym (flat_map-append (child_at world plan number) (take at (places plan.nodes)) (at ∷ []))
      ∙ ap (flat_map (child_at world plan number)) (sym (place_more plan.nodes at within));
  kept = kept;
}

pub no_children : (world : World) (plan : Plan) (entries : List (ℕ × Vec LinkNode Global)) (nodes : LinkNodes)
    → entries ≡ [] → AreLinkNodes world plan nodes → AreChildren world plan [] entries nodes
no_children world plan entries nodes none known = record {
  each = λ number. ap (listed number) none;
  kept = known;
}

pub node_there : (nodes others : List PlanNode) (at : ℕ) (node : PlanNode) → others ≡ nodes → at < length others
    → node ≡ get_or others at node → slice_get nodes at ≡ Some node
node_there nodes others at node same within item =
    ap (λ l. slice_get l at) (sym same) ∙ slice_get_read others (length others) at node refl within item

pub all_children : (world : World) (plan : Plan) (count : ℕ) (entries : List (ℕ × Vec LinkNode Global))
    (nodes : LinkNodes)
    → length plan.nodes ≤ count → AreChildren world plan (take count (places plan.nodes)) entries nodes
    → AreAllChildren world plan entries nodes
all_children world plan count entries nodes enough are =
    subst (λ ats. AreChildren world plan ats entries nodes) (all_places plan.nodes count enough) are

-- Collections, one by one

group_more : (wanted : GroupKind) (kinds : List (Option GroupKind)) (entries : List (ℕ × Vec LinkNode Global)) (at : ℕ)
    (d : Option GroupKind) → at < length kinds
    → groups_of wanted kinds entries at ++ group_of wanted (get_or kinds at d) entries at
    ≡ groups_of wanted kinds entries (at + 1)
group_more wanted kinds entries at d within =
    let next : suc at ≡ at + 1 = omega arith in
    ap (λ kind. groups_of wanted kinds entries at ++ group_of wanted kind entries at)
    (sym (ap (option_and_then (λ (kind : Option GroupKind). kind)) (slice_get-get_or kinds at d within)))
    ∙ ap (groups_of wanted kinds entries) next

pub made_more : (kinds : List (Option GroupKind)) (entries : List (ℕ × Vec LinkNode Global)) (at : ℕ)
    (d : Option GroupKind) (old made : Collections) → at < length kinds
    → IsMade (groups_of Sequence kinds entries at) (groups_of Family kinds entries at) old
    → IsMadeMore (get_or kinds at d) entries at old made
    → IsMade (groups_of Sequence kinds entries (at + 1)) (groups_of Family kinds entries (at + 1)) made
made_more kinds entries at d old made within before more =
    let is = more.more (groups_of Sequence kinds entries at) (groups_of Family kinds entries at) before in
    subst (λ l. IsMade l (groups_of Family kinds entries (at + 1)) made) (group_more Sequence kinds entries at d within)
    (subst (λ l. IsMade (groups_of Sequence kinds entries at ++ group_of Sequence (get_or kinds at d) entries at) l
    made)
    (group_more Family kinds entries at d within) is)

pub all_made : (kinds : List (Option GroupKind)) (entries : List (ℕ × Vec LinkNode Global)) (at : ℕ)
    (made : Collections)
    → at ≡ length kinds → IsMade (groups_of Sequence kinds entries at) (groups_of Family kinds entries at) made
    → IsMade (sequences_of kinds entries) (families_of kinds entries) made
all_made kinds entries at made all is =
    subst (λ n. IsMade (groups_of Sequence kinds entries n) (groups_of Family kinds entries n) made) all is

pub collected_is : (world : World) (plan : Plan) (kinds : List (Option GroupKind))
    (entries : List (ℕ × Vec LinkNode Global)) (nodes : LinkNodes) (made : Collections) → kinds ≡ kinds_of world plan
    → AreAllChildren world plan entries nodes → IsMade (sequences_of kinds entries) (families_of kinds entries) made
    → AreCollected world plan made nodes
collected_is world plan kinds entries nodes made same children is = record {
  are = subst (λ l. IsMade l (groups world plan (codes "family")) made)
      (all_groups Sequence world plan kinds entries same children.each)
      (subst (λ l. IsMade (sequences_of kinds entries) l made)
      (all_groups Family world plan kinds entries same children.each) is);
  kept = children.kept;
}

-- All links

pub appended_all : {A : Type 0} (world : World) (plan : Plan) (page : ℕ) (all : List LinkTo)
    (result : Result A NoMemory)
    (list : LinkList)
    → OnOk result (HoldsLinks page ((all ++ links_beside world plan page) ++ links_to_siblings world plan page) list)
    → OnOk result (HoldsLinks page (all ++ links_by_collections world plan page) list)
appended_all world plan page all (Err stop) list holds = holds
appended_all world plan page all (Ok x) list holds = subst (λ l. HoldsLinks page l list) (
    append_assoc all (links_beside world plan page) (links_to_siblings world plan page)
    ∙ ap (λ l. all ++ l) (append_assoc (links_of_kind world plan page links.Previous)
    (links_of_kind world plan page links.Next) (links_to_siblings world plan page)
    ∙ ap (λ l. links_of_kind world plan page links.Previous ++ (links_of_kind world plan page links.Next ++ l))
    (sym (append-nil (links_to_siblings world plan page))))) holds
