-- One node, row or cell more.
use Rattle.std.specs.Prelude.{◌≡◌, ◌+◌, ◌<◌, ◌≤◌, ◌||◌, ℕ, zero, suc, Bool, true, false, List, [], ◌∷◌, ◌++◌, Option, Some, None, filter, is_some, length, map, nat_lt, slice_get, take, codes, if◌then◌else◌}
use Rattle.std.specs.List.{filter_map, list_any}
use Rattle.std.specs.Option.{option_and_then, option_map_or, option_to_list}
use Rattle.std.proofs.Common.{refl, sym, ap, subst, ◌∙◌, arith, get_or}
use Rattle.std.proofs.lemmas.Bool.{and_from, lt-ltb}
use Rattle.std.proofs.lemmas.Bool.Decides.{nat_tests}
use Rattle.std.proofs.lemmas.List.Elements.{filter_map-append}
use Rattle.std.proofs.lemmas.List.Folds.{list_any-append}
use Rattle.std.proofs.lemmas.Map.Keys.{any_passes_from_place}
use Rattle.std.proofs.lemmas.Option.{same_Some, slice_get_read}
use Rattle.dita_doc.specs.declared.plan.Plan.{Plan}
use Rattle.dita_doc.specs.declared.plan.PlanNode.{PlanNode}
use Rattle.dita_doc.proofs.Tests.{by_truth}
use Rattle.map_spec.specs.Cascade.{attribute_at, whole_at}
use Rattle.map_spec.specs.Elements.{attribute}
use Rattle.map_spec.specs.Scopes.{places, places_from}
use Rattle.map_spec.specs.Written.{Whole}
use Rattle.link_spec.specs.Links.{cell_of, has_node_value, is_kind_at, is_row}
use Rattle.plan_nodes.specs.Home.{value_at}
use Rattle.plan_nodes.specs.Preorder.{IsTree}
use Rattle.reader_spec.specs.World.{World}
use Rattle.map_lemmas.proofs.ListedLaws.{places_more}
use Rattle.link_groups.proofs.OnceLaws.{filter_both}
use Rattle.reltable_links.specs.CellTable.{AreCellsOf, PutsCell, PutsNode, cell_at, cell_by, cell_for, cell_made, contains, end_with, ends_behind, if_row, is_family_by, is_below, is_lost_below, lost_below, node_at, node_below, row_put}
use Rattle.reltable_links.specs.declared.cells.RowCell.{RowCell}
use Rattle.reltable_links.specs.declared.cells.Cells.{Cells}
use Rattle.reltable_links.proofs.CellLaws.{cell_found, found_cell, cell_is, cell_over, cell_row, is_cell_of, over_cell, row_here, row_where}
use Rattle.reltable_links.proofs.ListLaws.{any_filter_map, any_where, place_is, place_there, take_is, take_there}

-- The places before one

long_places : (from : ℕ) (nodes : List PlanNode) → length (places_from from nodes) ≡ length nodes
long_places from [] = refl
long_places from (node ∷ nodes) = let behind = long_places (from + 1) nodes in omega (arith, behind)

pub take_places : (nodes : List PlanNode) (at : ℕ) → length nodes ≤ at → take at (places nodes) ≡ places nodes
take_places nodes at past = every at (places nodes) (let long = long_places 0 nodes in omega (arith, past, long))
  where
    every : (n : ℕ) (xs : List ℕ) → length xs ≤ n → take n xs ≡ xs
    every zero [] long = refl
    every (suc n) [] long = refl
    every zero (x ∷ xs) long = absurd (omega (arith, long))
    every (suc n) (x ∷ xs) long = ap (λ l. x ∷ l) (every n xs (omega (arith, long)))

-- A node stands below a cell exactly if it stands before where one of those before it ends

module _ (world : World) (plan : Plan) (tree : IsTree plan.nodes) where
  abbrev cells_before : ℕ → List RowCell
  cells_before at = filter_map (cell_at world plan) (take at (places plan.nodes))

  below_there : (at : ℕ) (node : PlanNode) → slice_get plan.nodes at ≡ Some node → is_below plan at ≡ true
      → list_any (λ (cell : RowCell). nat_lt at cell.end) (cells_before at) ≡ true
  below_there at node there below =
      let found = row_where plan (λ row. is_some (cell_of plan row at)) below in
      by_cell found.row found.kind (cell_of plan found.row at) refl found.holds
    where
      by_cell : (row : ℕ) → is_kind_at plan is_row row ≡ true → (cell : Option ℕ) → cell_of plan row at ≡ cell
          → is_some cell ≡ true → list_any (λ (c : RowCell). nat_lt at c.end) (cells_before at) ≡ true
      by_cell row kind None e holds = cc
      by_cell row kind (Some cell) e holds =
          let over = cell_is plan tree row at cell node there e in
          let kept = over_cell plan world row at cell over kind in
          let zeroth : 0 + cell ≡ cell = omega arith in
          any_filter_map (cell_at world plan) (λ (c : RowCell). nat_lt at c.end) (take at (places plan.nodes))
          ∙ any_passes_from_place (λ k. option_map_or (λ (c : RowCell). nat_lt at c.end) (cell_at world plan k) false)
          (take at (places plan.nodes)) cell cell
          (take_there at cell (places plan.nodes) cell over.behind
          (place_there 0 cell plan.nodes over.node over.there ∙ ap (λ k. Some k) zeroth))
          (ap (λ f. option_map_or (λ (c : RowCell). nat_lt at c.end) f false)
          (found_cell plan world (cell_for world plan cell over.node) kept.0)
          ∙ lt-ltb at over.node.end over.within)

  below_back : (at : ℕ) (node : PlanNode) → slice_get plan.nodes at ≡ Some node
      → list_any (λ (cell : RowCell). nat_lt at cell.end) (cells_before at) ≡ true → is_below plan at ≡ true
  below_back at node there some =
      let here = any_where (λ k. option_map_or (λ (c : RowCell). nat_lt at c.end) (cell_at world plan k) false)
      (take at (places plan.nodes)) (sym (any_filter_map (cell_at world plan) (λ (c : RowCell). nat_lt at c.end)
      (take at (places plan.nodes))) ∙ some) in
      let taken = take_is at here.at (places plan.nodes) here.item here.is in
      let place = place_is 0 here.at here.item plan.nodes taken.1 in
      let before : here.item < at = let near = taken.0 in let same = place.is in omega (arith, near, same) in
      by_cell here.item before (cell_at world plan here.item) refl here.holds
    where
      by_cell : (k : ℕ) → k < at → (cell : Option RowCell) → cell_at world plan k ≡ cell
          → option_map_or (λ (c : RowCell). nat_lt at c.end) cell false ≡ true → is_below plan at ≡ true
      by_cell k before None e holds = cc
      by_cell k before (Some cell) e holds =
          let row_cell = cell_found plan world k cell e in
          let within : contains at cell ≡ true = and_from (nat_lt cell.at at) (nat_lt at cell.end)
          (lt-ltb cell.at at (let same = row_cell.0 in omega (arith, before, same))) holds in
          row_here plan (λ row. is_some (cell_of plan row at)) cell.row (cell_row plan world cell row_cell.1)
          (ap is_some (is_cell_of plan tree cell.row at cell.at node there
          (cell_over plan world cell at row_cell.1 within)))

  pub below_is : (at : ℕ) (node : PlanNode) → slice_get plan.nodes at ≡ Some node
      → is_below plan at ≡ list_any (λ (cell : RowCell). nat_lt at cell.end) (cells_before at)
  below_is at node there = by_truth (is_below plan at) (list_any (λ (cell : RowCell). nat_lt at cell.end) (cells_before at))
      (below_there at node there) (below_back at node there)

  -- What is known behind one node more

  filter_one : (q : ℕ → Bool) (at : ℕ) → (if q at then at ∷ [] else []) ≡ filter q (at ∷ [])
  filter_one q at = by_test (q at) refl
    where
      by_test : (b : Bool) → q at ≡ b → (if q at then at ∷ [] else []) ≡ filter q (at ∷ [])
      by_test true e = rw e refl
      by_test false e = rw e refl

  found_one : {Y : Type 0} (f : ℕ → Option Y) (at : ℕ) → option_to_list (f at) ≡ filter_map f (at ∷ [])
  found_one {Y} f at = by_found (f at) refl
    where
      by_found : (found : Option Y) → f at ≡ found → option_to_list (f at) ≡ filter_map f (at ∷ [])
      by_found None e = rw e refl
      by_found (Some y) e = rw e refl

  end_one : (at : ℕ) (cell : Option RowCell) → ends_behind at cell
      ≡ list_any (λ (c : RowCell). nat_lt at c.end) (option_to_list cell)
  end_one at None = refl
  end_one at (Some cell) = or_none (nat_lt at cell.end)
    where
      or_none : (b : Bool) → b ≡ (b || false)
      or_none true = refl
      or_none false = refl

  pub cells_more : (at : ℕ) (node : PlanNode) (old mid new : Cells) → slice_get plan.nodes at ≡ Some node
      → at < length plan.nodes → AreCellsOf world plan (take at (places plan.nodes)) old
      → PutsNode world plan at old mid → PutsCell world plan at mid new
      → AreCellsOf world plan (take (at + 1) (places plan.nodes)) new
  cells_more at node old mid new there within are one two =
      let so_far = take at (places plan.nodes) in
      let below : nat_lt at old.end ≡ is_below plan at =
      are.end at ∙ ap (list_any (λ (c : RowCell). nat_lt at c.end)) are.cells ∙ sym (below_is at node there) in
      let cells_are : new.cells.items ≡ old.cells.items ++ option_to_list (cell_at world plan at) =
      two.cells ∙ ap (λ c. c ++ option_to_list (cell_at world plan at)) one.cells in
      subst (λ some. AreCellsOf world plan some new) (sym (places_more plan.nodes at within)) (record {
        rows =
            two.rows ∙ ap (λ r. r ++ row_put plan at) (one.rows ∙ are.rows)
            ∙ ap (λ r. filter (is_kind_at plan is_row) so_far ++ r) (filter_one (is_kind_at plan is_row) at)
            ∙ sym (filter_both (is_kind_at plan is_row) so_far (at ∷ []));
        cells = cells_are ∙ (λ i. are.cells i ++ found_one (cell_at world plan) at i)
            ∙ sym (filter_map-append (cell_at world plan) so_far (at ∷ []));
        nodes =
            two.nodes ∙ one.nodes
            ∙ (λ i. are.nodes i ++ option_to_list (node_below world plan (below i) at))
            ∙ ap (λ n. filter_map (node_at world plan) so_far ++ n) (found_one (node_at world plan) at)
            ∙ sym (filter_map-append (node_at world plan) so_far (at ∷ []));
        lost =
            two.lost ∙ one.lost ∙ (λ i. are.lost i ++ lost_below plan (below i) at)
            ∙ ap (λ l. filter (is_lost_below plan) so_far ++ l) (filter_one (is_lost_below plan) at)
            ∙ sym (filter_both (is_lost_below plan) so_far (at ∷ []));
        end = λ k.
            two.end k ∙ ap (λ e. nat_lt k e || ends_behind k (cell_at world plan at)) one.end
            ∙ (λ i. are.end k i || end_one k (cell_at world plan at) i)
            ∙ sym (list_any-append (λ (c : RowCell). nat_lt k c.end) old.cells.items (option_to_list (cell_at world plan at)))
            ∙ ap (list_any (λ (c : RowCell). nat_lt k c.end)) (sym cells_are);
      })

-- A row or a cell was put

mapped_there : (world : World) (nodes : List PlanNode) (at : ℕ) (node : PlanNode) → slice_get nodes at ≡ Some node
    → slice_get (map (whole_at world) nodes) at ≡ Some (whole_at world node)
mapped_there world [] zero node is = cc
mapped_there world [] (suc at) node is = cc
mapped_there world (first ∷ nodes) zero node is = ap (λ (n : PlanNode). Some (whole_at world n)) (same_Some first node is)
mapped_there world (first ∷ nodes) (suc at) node is = mapped_there world nodes at node is

family_is : (world : World) (plan : Plan) (homes : List (Option Whole)) (at : ℕ) (node : PlanNode)
    → homes ≡ map (whole_at world) plan.nodes → slice_get plan.nodes at ≡ Some node
    → is_family_by (value_at homes at (codes "collection-type"))
    ≡ has_node_value world plan (codes "collection-type") (codes "family") at
family_is world plan homes at node are there =
    ap (λ hs. is_family_by (value_at hs at (codes "collection-type"))) are
    ∙ ap (λ found. is_family_by (option_and_then (λ (whole : Whole). attribute (codes "collection-type") whole.0)
    (option_and_then (λ (whole : Option Whole). whole) found))) (mapped_there world plan.nodes at node there)
    ∙ sym (ap (λ found. is_family_by (option_and_then (attribute_at world (codes "collection-type")) found)) there)

ends_with : (k end : ℕ) (cell : Option RowCell) → nat_lt k (end_with end cell) ≡ (nat_lt k end || ends_behind k cell)
ends_with k end None = or_none (nat_lt k end)
  where
    or_none : (b : Bool) → b ≡ (b || false)
    or_none true = refl
    or_none false = refl
ends_with k end (Some cell) = grind (arith, nat_tests)

pub cell_put : (world : World) (plan : Plan) (homes : List (Option Whole)) (at place : ℕ) (node : PlanNode)
    (cell : Option RowCell) (old mid new : Cells) → slice_get plan.nodes at ≡ Some node → place ≡ at
    → homes ≡ map (whole_at world) plan.nodes
    → mid.rows.items ≡ old.rows.items ++ if_row place node → mid.cells.items ≡ old.cells.items
    → mid.nodes.items ≡ old.nodes.items → mid.lost.items ≡ old.lost.items → mid.end ≡ old.end
    → new.rows.items ≡ mid.rows.items → new.cells.items ≡ mid.cells.items ++ option_to_list cell
    → new.nodes.items ≡ mid.nodes.items → new.lost.items ≡ mid.lost.items → new.end ≡ end_with mid.end cell
    → cell ≡ cell_by plan.nodes (is_family_by (value_at homes at (codes "collection-type"))) at place node
    → PutsCell world plan at old new
cell_put world plan homes at place node cell old mid new there same are r1 c1 n1 l1 e1 r2 c2 n2 l2 e2 is =
    let made : cell ≡ cell_at world plan at =
    is ∙ (λ i. cell_by plan.nodes (family_is world plan homes at node are there i) at (same i) node)
    ∙ sym (ap (option_and_then (cell_made world plan at)) there) in
    record {
      rows = r2 ∙ r1 ∙ ap (λ k. old.rows.items ++ if_row k node) same
          ∙ sym (ap (λ found. old.rows.items ++ (if option_map_or (λ (n : PlanNode). is_row n.kind) found false then at ∷ []
          else [])) there);
      cells = c2 ∙ (λ i. c1 i ++ option_to_list (made i));
      end = λ k. ap (nat_lt k) (e2 ∙ (λ i. end_with (e1 i) (made i))) ∙ ends_with k old.end (cell_at world plan at);
      nodes = n2 ∙ n1;
      lost = l2 ∙ l1;
    }

-- Nodes that were read

pub read_at : (nodes all : List PlanNode) (at : ℕ) (node : PlanNode) → nodes ≡ all → at < length all
    → node ≡ get_or nodes at node → slice_get all at ≡ Some node
read_at nodes all at node same within item =
    let fits : at < length nodes = subst (λ ns. at < length ns) (sym same) within in
    sym (ap (λ ns. slice_get ns at) same) ∙ slice_get_read nodes (length nodes) at node refl fits item
