-- The links of a page by rows, in the order of the nodes to which they lead.
use Rattle.std.specs.Prelude.{◌≡◌, ◌+◌, ◌≤◌, ◌==◌, ◌&&◌, ℕ, Bool, true, false, List, [], ◌∷◌, Option, Some, None, filter, length, option_map, slice_get}
use Rattle.std.specs.List.{filter_map, list_any}
use Rattle.std.specs.Option.{option_and_then, option_map_or}
use Rattle.std.proofs.Common.{refl, sym, ap, ◌∙◌, arith}
use Rattle.std.proofs.lemmas.Bool.{and_from, eqb-true}
use Rattle.std.proofs.lemmas.Map.Keys.{any_passes_from_place}
use Rattle.std.proofs.lemmas.Option.{same_Some}
use Rattle.dita_doc.specs.declared.content.LinkKind.TheVariants as links
use Rattle.dita_doc.specs.declared.plan.Plan.{Plan}
use Rattle.dita_doc.specs.declared.plan.PlanNode.{PlanNode}
use Rattle.dita_doc.proofs.Tests.{by_truth, first_holds, number_itself, second_holds, zeroth}
use Rattle.map_spec.specs.Scopes.{places, places_from}
use Rattle.link_spec.specs.Links.{LinkTo, links_of_kind, page_of_node, to_each_once}
use Rattle.plan_nodes.specs.Preorder.{IsTree}
use Rattle.reader_spec.specs.World.{World}
use Rattle.link_groups.specs.LinkNodes.{is_target_at, with_page}
use Rattle.link_groups.specs.LinkLists.{link_beside, links_to_nodes}
use Rattle.link_groups.specs.declared.link_nodes.LinkNode.{LinkNode}
use Rattle.link_groups.proofs.OrderLaws.{AreBelow, AreFrom, among, is_linked, kind_in_order, link_at}
use Rattle.reltable_links.specs.CellTable.{is_below, node_at, node_below}
use Rattle.reltable_links.specs.Linked.{is_linked_at, is_linked_node, linked_nodes}
use Rattle.reltable_links.proofs.CellLaws.{all_cells}
use Rattle.reltable_links.proofs.LinkedLaws.{all_nodes, linked_same, paged}
use Rattle.reltable_links.proofs.ListLaws.{any_filter, any_where, place_there}

-- Places that are kept

from_kept : (q : ℕ → Bool) (from : ℕ) (nodes : List PlanNode) → (least : ℕ) → least ≤ from
    → AreFrom least (filter q (places_from from nodes))
from_kept q from [] least low = tt
from_kept q from (node ∷ nodes) least low = by_test (q from) refl
    (from_kept q (from + 1) nodes from (omega arith)) (from_kept q (from + 1) nodes least (omega (arith, low)))
  where
    by_test : (b : Bool) → q from ≡ b → AreFrom from (filter q (places_from (from + 1) nodes))
        → AreFrom least (filter q (places_from (from + 1) nodes)) → AreFrom least (filter q (places_from from (node ∷ nodes)))
    by_test true e one two = rw e (low, one)
    by_test false e one two = rw e two

below_kept : (q : ℕ → Bool) (from : ℕ) (nodes : List PlanNode) (end : ℕ) → from + length nodes ≤ end
    → AreBelow end (filter q (places_from from nodes))
below_kept q from [] end fits = tt
below_kept q from (node ∷ nodes) end fits = by_test (below_kept q (from + 1) nodes end (omega (arith, fits))) (q from) refl
  where
    by_test : AreBelow end (filter q (places_from (from + 1) nodes)) → (b : Bool) → q from ≡ b
        → AreBelow end (filter q (places_from from (node ∷ nodes)))
    by_test behind true e = rw e (omega (arith, fits), behind)
    by_test behind false e = rw e behind

among_kept : (q : ℕ → Bool) (nodes : List PlanNode) (at : ℕ) (node : PlanNode) → slice_get nodes at ≡ Some node
    → among (filter q (places nodes)) at ≡ q at
among_kept q nodes at node is =
    any_filter q (λ other. other == at) (places nodes)
    ∙ by_truth (list_any (λ k. q k && (k == at)) (places nodes)) (q at)
    (λ some. let here = any_where (λ k. q k && (k == at)) (places nodes) some in
    ap q (sym (eqb-true here.item at (second_holds (q here.item) (here.item == at) here.holds)))
    ∙ first_holds (q here.item) (here.item == at) here.holds)
    (λ holds. any_passes_from_place (λ k. q k && (k == at)) (places nodes) at at
    (place_there 0 at nodes node is ∙ zeroth at)
    (and_from (q at) (at == at) holds (number_itself at)))

-- Elements that are found, kept and led to, by their places

module _ {X Y Z : Type 0} (f : X → Option Y) (t : Y → Bool) (lead : Y → Option Z) (q : X → Bool) (way : X → Option Z)
    (kept : (x : X) → q x ≡ option_map_or t (f x) false)
    (ways : (x : X) (y : Y) → f x ≡ Some y → lead y ≡ way x) where
  pub kept_ways : (xs : List X) → filter_map lead (filter t (filter_map f xs)) ≡ filter_map way (filter q xs)
  kept_ways [] = refl
  kept_ways (x ∷ xs) = by_found (kept_ways xs) (f x) refl
    where
      with_way : (o : Option Z) → way x ≡ o → (more rest : List Z) → more ≡ rest → (y : Y) → lead y ≡ o
          → filter_map lead (filter t (filter_map f xs)) ≡ more → filter_map way (filter q xs) ≡ rest
          → filter_map lead (y ∷ filter t (filter_map f xs)) ≡ filter_map way (x ∷ filter q xs)
      with_way None e more rest behind y g h k = rw (e, g) (h ∙ behind ∙ sym k)
      with_way (Some z) e more rest behind y g h k = rw (e, g) (ap (λ l. z ∷ l) (h ∙ behind ∙ sym k))

      by_found : filter_map lead (filter t (filter_map f xs)) ≡ filter_map way (filter q xs) → (found : Option Y)
          → f x ≡ found
          → filter_map lead (filter t (filter_map f (x ∷ xs))) ≡ filter_map way (filter q (x ∷ xs))
      by_found behind None e =
          let out : q x ≡ false = kept x ∙ ap (λ o. option_map_or t o false) e in rw (e, out) behind
      by_found behind (Some y) e = by_test (t y) refl
        where
          by_test : (b : Bool) → t y ≡ b
              → filter_map lead (filter t (filter_map f (x ∷ xs))) ≡ filter_map way (filter q (x ∷ xs))
          by_test true g =
              let within : q x ≡ true = kept x ∙ ap (λ o. option_map_or t o false) e ∙ g in
              rw (e, within) (rw g (with_way (way x) refl (filter_map way (filter q xs)) (filter_map way (filter q xs)) refl
              y (ways x y e) behind refl))
          by_test false g =
              let out : q x ≡ false = kept x ∙ ap (λ o. option_map_or t o false) e ∙ g in
              rw (e, out) (rw g behind)

-- The links of a page

module _ (world : World) (plan : Plan) (tree : IsTree plan.nodes) (page : ℕ) where
  abbrev leads : LinkNode → Bool
  leads = is_linked_node page (all_cells plan world) (all_nodes world plan)

  abbrev leads_at : ℕ → Bool
  leads_at at = option_map_or leads (node_at world plan at) false

  way_of : (at : ℕ) (node : LinkNode) → node_at world plan at ≡ Some node
      → link_beside page links.Related node.page ≡ link_at world plan page links.Related at
  way_of at node is = by_below (is_below plan at) is
    where
      by_page : (found : Option ℕ) → option_map (with_page world plan at) found ≡ Some node
          → link_beside page links.Related node.page ≡ option_and_then (link_beside page links.Related) found
      by_page None there = cc
      by_page (Some own) there = ap (λ (n : LinkNode). link_beside page links.Related n.page)
          (sym (same_Some (with_page world plan at own) node there))

      by_below : (b : Bool) → node_below world plan b at ≡ Some node
          → link_beside page links.Related node.page ≡ link_at world plan page links.Related at
      by_below true there = by_page (page_of_node plan at) there
      by_below false there = cc

  another : (other : ℕ) (link : LinkTo) → link_beside page links.Related other ≡ Some link → (other == page) ≡ false
  another other link is = by_test (other == page) refl
    where
      by_test : (b : Bool) → (other == page) ≡ b → (other == page) ≡ false
      by_test false e = e
      by_test true e = let none : link_beside page links.Related other ≡ None = rw e refl in cc

  led_to : (to : ℕ) (link : LinkTo) → link_at world plan page links.Related to ≡ Some link
      → among (filter leads_at (places plan.nodes)) to ≡ is_linked world plan page links.Related to
  led_to to link is = by_page (page_of_node plan to) refl is
    where
      by_below : (other : ℕ) → page_of_node plan to ≡ Some other → (b : Bool) → is_below plan to ≡ b
          → leads_at to ≡ (b && (is_target_at world plan to
          && is_linked_at page (all_cells plan world) (all_nodes world plan) to))
      by_below other e true f = ap (λ b. option_map_or leads (node_below world plan b to) false) f
          ∙ ap (λ found. option_map_or leads (option_map (with_page world plan to) found) false) e
      by_below other e false f = ap (λ b. option_map_or leads (node_below world plan b to) false) f

      by_page : (found : Option ℕ) → page_of_node plan to ≡ found
          → option_and_then (link_beside page links.Related) found ≡ Some link
          → among (filter leads_at (places plan.nodes)) to ≡ is_linked world plan page links.Related to
      by_page None e there = cc
      by_page (Some other) e there =
          let node = paged world plan to other e in
          among_kept leads_at plan.nodes to node.0 node.1
          ∙ by_below other e (is_below plan to) refl
          ∙ linked_same world plan tree page to other e (another other link there)

  -- those of the kept nodes are those of the definition
  pub row_links_are : to_each_once (links_to_nodes page links.Related
      (linked_nodes page (all_cells plan world) (all_nodes world plan)))
      ≡ to_each_once (links_of_kind world plan page links.Related)
  row_links_are =
      ap to_each_once (kept_ways (node_at world plan) leads (λ (node : LinkNode). link_beside page links.Related node.page)
      leads_at (link_at world plan page links.Related) (λ at. refl) way_of (places plan.nodes))
      ∙ kind_in_order world plan page links.Related (filter leads_at (places plan.nodes))
      (from_kept leads_at 0 plan.nodes 0 (omega arith))
      (below_kept leads_at 0 plan.nodes (length plan.nodes) (omega arith)) led_to
