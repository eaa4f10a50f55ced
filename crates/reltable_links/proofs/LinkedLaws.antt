-- The nodes to which a page is linked are those of the definition.
use Rattle.std.specs.Prelude.{◌≡◌, ◌==◌, ◌&&◌, ◌||◌, ℕ, Bool, true, false, not, List, Option, Some, None, is_some, option_map, slice_get, codes}
use Rattle.std.specs.List.{filter_map, list_any}
use Rattle.std.specs.Option.{option_and_then, option_map_or}
use Rattle.std.proofs.Common.{refl, sym, ap, ◌∙◌, arith}
use Rattle.std.proofs.lemmas.Bool.{and_from, eq-eqb, eqb-true}
use Rattle.std.proofs.lemmas.Bool.Decides.{nat_tests}
use Rattle.std.proofs.lemmas.Map.Keys.{any_passes_from_place}
use Rattle.std.proofs.lemmas.Option.{same_Some}
use Rattle.dita_doc.specs.declared.content.LinkKind.TheVariants as links
use Rattle.dita_doc.specs.declared.plan.Plan.{Plan}
use Rattle.dita_doc.specs.declared.plan.PlanNode.{PlanNode}
use Rattle.dita_doc.proofs.Tests.{by_truth, first_holds, second_holds, zeroth}
use Rattle.map_spec.specs.Pages.{local_name, page_for}
use Rattle.map_spec.specs.Scopes.{places}
use Rattle.link_spec.specs.Links.{are_in_cells, are_related_in, cell_of, context_of, has_node_value, is_kind_at, is_page_at, is_row, links_as, may_link, page_of_node, plan_target}
use Rattle.plan_nodes.specs.Preorder.{IsTree}
use Rattle.reader_spec.specs.World.{World}
use Rattle.link_groups.specs.LinkNodes.{is_source_at, is_target_at, with_page}
use Rattle.link_groups.specs.declared.link_nodes.LinkNode.{LinkNode}
use Rattle.link_groups.proofs.OrderLaws.{is_linked, links_from}
use Rattle.reltable_links.specs.CellTable.{cell_for, contains, is_below, node_at, node_below, relates}
use Rattle.reltable_links.specs.Linked.{is_from, is_linked_at, links_into}
use Rattle.reltable_links.specs.declared.cells.RowCell.{RowCell}
use Rattle.reltable_links.proofs.CellLaws.{IsRowCell, all_cells, cell_here, cell_is, cell_over, cell_row, cell_where, is_cell_of, over_cell, row_here, row_where}
use Rattle.reltable_links.proofs.ListLaws.{any_filter_map, any_where, place_there}

apart : (n k : ℕ) → (n ≡ k → ⊥) → not (n == k) ≡ true
apart n k other = grind (arith, nat_tests)

module _ (world : World) (plan : Plan) where
  abbrev pub all_nodes : List LinkNode
  all_nodes = filter_map (node_at world plan) (places plan.nodes)

  -- a node that is kept
  pub record IsKept (node : LinkNode) : Type 0 where
    pub below : is_below plan node.at ≡ true
    pub page : page_of_node plan node.at ≡ Some node.page
    pub is : node ≡ with_page world plan node.at node.page

  -- a node with a page is one
  pub paged : (at page : ℕ) → page_of_node plan at ≡ Some page
      → (node : PlanNode) × (slice_get plan.nodes at ≡ Some node)
  paged at page is = by_name (local_name (plan_target plan at)) is
    where
      by_node : (name : List ℕ) (found : Option PlanNode) → slice_get plan.nodes at ≡ found
          → option_and_then (λ (node : PlanNode). page_for plan.pages name (context_of node name)) found ≡ Some page
          → (node : PlanNode) × (slice_get plan.nodes at ≡ Some node)
      by_node name None e there = cc
      by_node name (Some node) e there = (node, e)

      by_name : (name : Option (List ℕ)) → option_and_then (λ n. option_and_then
          (λ (node : PlanNode). page_for plan.pages n (context_of node n)) (slice_get plan.nodes at)) name ≡ Some page
          → (node : PlanNode) × (slice_get plan.nodes at ≡ Some node)
      by_name None there = cc
      by_name (Some name) there = by_node name (slice_get plan.nodes at) refl there

  pub kept_found : (at : ℕ) (node : LinkNode) → node_at world plan at ≡ Some node → (node.at ≡ at) × IsKept node
  kept_found at node is = by_below (is_below plan at) refl is
    where
      by_page : is_below plan at ≡ true → (page : Option ℕ) → page_of_node plan at ≡ page
          → option_map (with_page world plan at) page ≡ Some node → (node.at ≡ at) × IsKept node
      by_page e None f there = cc
      by_page e (Some page) f there =
          let one : node ≡ with_page world plan at page = sym (same_Some (with_page world plan at page) node there) in
          let place : node.at ≡ at = ap (λ (n : LinkNode). n.at) one in
          let own : node.page ≡ page = ap (λ (n : LinkNode). n.page) one in (
            place,
            record {
              below = ap (is_below plan) place ∙ e;
              page = ap (page_of_node plan) place ∙ f ∙ ap (λ p. Some p) (sym own);
              is = one ∙ (λ i. with_page world plan (sym place i) (sym own i));
            },
          )

      by_below : (b : Bool) → is_below plan at ≡ b → node_below world plan b at ≡ Some node → (node.at ≡ at) × IsKept node
      by_below true e there = by_page e (page_of_node plan at) refl there
      by_below false e there = cc

  pub found_kept : (at page : ℕ) → is_below plan at ≡ true → page_of_node plan at ≡ Some page
      → node_at world plan at ≡ Some (with_page world plan at page)
  found_kept at page below is =
      ap (λ b. node_below world plan b at) below ∙ ap (option_map (with_page world plan at)) is

  pub record HasKept (test : LinkNode → Bool) : Type 0 where
    pub node : LinkNode
    pub kept : IsKept node
    pub holds : test node ≡ true

  kept_where : (test : LinkNode → Bool) → list_any test all_nodes ≡ true → HasKept test
  kept_where test some =
      let here = any_where (λ at. option_map_or test (node_at world plan at) false) (places plan.nodes)
      (sym (any_filter_map (node_at world plan) test (places plan.nodes)) ∙ some) in
      by_case here.item (node_at world plan here.item) refl here.holds
    where
      by_case : (at : ℕ) (found : Option LinkNode) → node_at world plan at ≡ found
          → option_map_or test found false ≡ true → HasKept test
      by_case at None e holds = cc
      by_case at (Some node) e holds = record { node = node; kept = (kept_found at node e).1; holds = holds }

  kept_here : (test : LinkNode → Bool) (at page : ℕ) → is_below plan at ≡ true → page_of_node plan at ≡ Some page
      → test (with_page world plan at page) ≡ true → list_any test all_nodes ≡ true
  kept_here test at page below is holds =
      let there = paged at page is in
      any_filter_map (node_at world plan) test (places plan.nodes)
      ∙ any_passes_from_place (λ k. option_map_or test (node_at world plan k) false) (places plan.nodes) at at
      (place_there 0 at plan.nodes there.0 there.1 ∙ zeroth at)
      (ap (λ found. option_map_or test found false) (found_kept at page below is) ∙ holds)

  below_by : (row at cell : ℕ) → is_kind_at plan is_row row ≡ true → cell_of plan row at ≡ Some cell
      → is_below plan at ≡ true
  below_by row at cell kind is = row_here plan (λ r. is_some (cell_of plan r at)) row kind (ap is_some is)

  module _ (tree : IsTree plan.nodes) (page to other : ℕ) (to_page : page_of_node plan to ≡ Some other)
      (another : (other == page) ≡ false) where
    abbrev cells : List RowCell
    cells = all_cells plan world

    not_itself : (from : ℕ) → page_of_node plan from ≡ Some page → not (from == to) ≡ true
    not_itself from is = apart from to (λ e.
        let one : other ≡ page = same_Some other page (sym to_page ∙ ap (page_of_node plan) (sym e) ∙ is) in
        let two = eq-eqb other page one in cc)

    family_or : (own cell : RowCell) → (not (own.at == cell.at) || cell.is_family) ≡ true → IsRowCell plan world cell
        → (not (own.at == cell.at) || has_node_value world plan (codes "collection-type") (codes "family") own.at) ≡ true
    family_or own cell is row_cell = by_test (own.at == cell.at) refl is
      where
        by_test : (b : Bool) → (own.at == cell.at) ≡ b → (not b || cell.is_family) ≡ true
            → (not (own.at == cell.at) || has_node_value world plan (codes "collection-type") (codes "family") own.at)
            ≡ true
        by_test false e there = rw e refl
        by_test true e there = rw e (
            ap (has_node_value world plan (codes "collection-type") (codes "family")) (eqb-true own.at cell.at e)
            ∙ sym (ap (λ (c : RowCell). c.is_family) row_cell.is) ∙ there)

    -- what the kept cells link is linked
    forth : is_target_at world plan to ≡ true → is_linked_at page cells all_nodes to ≡ true
        → is_linked world plan page links.Related to ≡ true
    forth target linked =
        let into = cell_where plan world (λ cell. links_into page cells all_nodes cell && contains to cell) linked in
        let cell = into.cell in
        let linking = kept_where (λ node. is_from page node
        && list_any (λ own. contains node.at own && relates own cell) cells)
        (first_holds (links_into page cells all_nodes cell) (contains to cell) into.holds) in
        let node = linking.node in
        let is_own = first_holds (is_from page node) _ linking.holds in
        let from_page : page_of_node plan node.at ≡ Some page =
        linking.kept.page ∙ ap (λ p. Some p) (eqb-true node.page page
        (first_holds (node.page == page) node.is_source is_own)) in
        let source : is_source_at world plan node.at ≡ true =
        sym (ap (λ (n : LinkNode). n.is_source) linking.kept.is)
        ∙ second_holds (node.page == page) node.is_source is_own in
        let stands = cell_where plan world (λ own. contains node.at own && relates own cell)
        (second_holds (is_from page node) _ linking.holds) in
        let own = stands.cell in
        let related = second_holds (contains node.at own) (relates own cell) stands.holds in
        let row : own.row ≡ cell.row = eqb-true own.row cell.row (first_holds (own.row == cell.row) _ related) in
        let from_node = paged node.at page from_page in
        let to_node = paged to other to_page in
        let from_cell : cell_of plan own.row node.at ≡ Some own.at =
        is_cell_of plan tree own.row node.at own.at from_node.0 from_node.1
        (cell_over plan world own node.at stands.row_cell (first_holds (contains node.at own) _ stands.holds)) in
        let to_cell : cell_of plan own.row to ≡ Some cell.at =
        ap (λ r. cell_of plan r to) row
        ∙ is_cell_of plan tree cell.row to cell.at to_node.0 to_node.1
        (cell_over plan world cell to into.row_cell
        (second_holds (links_into page cells all_nodes cell) (contains to cell) into.holds)) in
        let between : are_related_in world plan node.at to own.row ≡ true =
        and_from (not (node.at == to)) _ (not_itself node.at from_page)
        ((λ i. are_in_cells world plan (from_cell i) (to_cell i))
        ∙ family_or own cell (second_holds (own.row == cell.row) _ related) into.row_cell) in
        let as_related : links_as world plan links.Related node.at to ≡ true =
        row_here plan (are_related_in world plan node.at to) own.row (cell_row plan world own stands.row_cell) between in
        any_passes_from_place (links_from world plan page links.Related to) (places plan.nodes) node.at node.at
        (place_there 0 node.at plan.nodes from_node.0 from_node.1 ∙ zeroth node.at)
        (and_from (is_page_at plan page node.at && links_as world plan links.Related node.at to)
        (may_link world plan node.at to)
        (and_from (is_page_at plan page node.at) (links_as world plan links.Related node.at to)
        (ap (λ p. option_map_or (λ own_page. own_page == page) p false) from_page ∙ eq-eqb page page refl) as_related)
        (and_from (is_source_at world plan node.at) (is_target_at world plan to) source target))

    is_page : (from : ℕ) → is_page_at plan page from ≡ true → page_of_node plan from ≡ Some page
    is_page from is = by_case (page_of_node plan from) refl is
      where
        by_case : (found : Option ℕ) → page_of_node plan from ≡ found
            → option_map_or (λ own_page. own_page == page) found false ≡ true → page_of_node plan from ≡ Some page
        by_case None e holds = cc
        by_case (Some own_page) e holds = e ∙ ap (λ p. Some p) (eqb-true own_page page holds)

    -- two nodes that are related stand below cells of the row
    record InCells (from row : ℕ) : Type 0 where
      one : ℕ
      two : ℕ
      first : cell_of plan row from ≡ Some one
      second : cell_of plan row to ≡ Some two
      relate : (not (one == two) || has_node_value world plan (codes "collection-type") (codes "family") one) ≡ true

    in_cells : (from row : ℕ) → are_in_cells world plan (cell_of plan row from) (cell_of plan row to) ≡ true
        → InCells from row
    in_cells from row is = by_both (cell_of plan row from) (cell_of plan row to) refl refl is
      where
        by_both : (one two : Option ℕ) → cell_of plan row from ≡ one → cell_of plan row to ≡ two
            → are_in_cells world plan one two ≡ true → InCells from row
        by_both None two e f holds = cc
        by_both (Some one) None e f holds = cc
        by_both (Some one) (Some two) e f holds =
            record { one = one; two = two; first = e; second = f; relate = holds }

    -- what is linked is linked by kept cells
    back : is_linked world plan page links.Related to ≡ true
        → (is_below plan to && (is_target_at world plan to && is_linked_at page cells all_nodes to)) ≡ true
    back linked =
        let here = any_where (links_from world plan page links.Related to) (places plan.nodes) linked in
        let from = here.item in
        let first = first_holds (is_page_at plan page from && links_as world plan links.Related from to)
        (may_link world plan from to) here.holds in
        let from_page = is_page from
        (first_holds (is_page_at plan page from) (links_as world plan links.Related from to) first) in
        let may = second_holds (is_page_at plan page from && links_as world plan links.Related from to)
        (may_link world plan from to) here.holds in
        let source = first_holds (is_source_at world plan from) (is_target_at world plan to) may in
        let target = second_holds (is_source_at world plan from) (is_target_at world plan to) may in
        let found = row_where plan (are_related_in world plan from to)
        (second_holds (is_page_at plan page from) (links_as world plan links.Related from to) first) in
        let row = found.row in
        let in_row = in_cells from row (second_holds (not (from == to)) _ found.holds) in
        let from_node = paged from page from_page in
        let to_node = paged to other to_page in
        let over_from = cell_is plan tree row from in_row.one from_node.0 from_node.1 in_row.first in
        let over_to = cell_is plan tree row to in_row.two to_node.0 to_node.1 in_row.second in
        let own = over_cell plan world row from in_row.one over_from found.kind in
        let cell = over_cell plan world row to in_row.two over_to found.kind in
        let own_cell = cell_for world plan in_row.one over_from.node in
        let other_cell = cell_for world plan in_row.two over_to.node in
        let rows_same : (own_cell.row == other_cell.row) ≡ true =
        eq-eqb own_cell.row other_cell.row (over_from.parent ∙ sym over_to.parent) in
        let related : relates own_cell other_cell ≡ true =
        and_from (own_cell.row == other_cell.row) _ rows_same
        (family_back in_row.one in_row.two in_row.relate) in
        let into : links_into page cells all_nodes other_cell ≡ true =
        kept_here (λ node. is_from page node && list_any (λ c. contains node.at c && relates c other_cell) cells)
        from page (below_by row from in_row.one found.kind in_row.first) from_page
        (and_from (is_from page (with_page world plan from page)) _
        (and_from (page == page) (is_source_at world plan from) (eq-eqb page page refl) source)
        (cell_here plan world (λ c. contains from c && relates c other_cell) own_cell own.0
        (and_from (contains from own_cell) (relates own_cell other_cell) own.1 related))) in
        and_from (is_below plan to) _ (below_by row to in_row.two found.kind in_row.second)
        (and_from (is_target_at world plan to) (is_linked_at page cells all_nodes to) target
        (cell_here plan world (λ c. links_into page cells all_nodes c && contains to c) other_cell cell.0
        (and_from (links_into page cells all_nodes other_cell) (contains to other_cell) into cell.1)))
      where
        family_back : (one two : ℕ)
            → (not (one == two) || has_node_value world plan (codes "collection-type") (codes "family") one) ≡ true
            → (not (one == two) || has_node_value world plan (codes "collection-type") (codes "family") two) ≡ true
        family_back one two is = by_test (one == two) refl is
          where
            by_test : (b : Bool) → (one == two) ≡ b
                → (not b || has_node_value world plan (codes "collection-type") (codes "family") one) ≡ true
                → (not (one == two) || has_node_value world plan (codes "collection-type") (codes "family") two) ≡ true
            by_test false e there = rw e refl
            by_test true e there = rw e (
                ap (has_node_value world plan (codes "collection-type") (codes "family")) (sym (eqb-true one two e))
                ∙ there)

    pub linked_same : (is_below plan to && (is_target_at world plan to && is_linked_at page cells all_nodes to))
        ≡ is_linked world plan page links.Related to
    linked_same = by_truth _ _ (λ all.
        let rest = second_holds (is_below plan to)
        (is_target_at world plan to && is_linked_at page cells all_nodes to) all in
        forth (first_holds (is_target_at world plan to) (is_linked_at page cells all_nodes to) rest)
        (second_holds (is_target_at world plan to) (is_linked_at page cells all_nodes to) rest)) back
