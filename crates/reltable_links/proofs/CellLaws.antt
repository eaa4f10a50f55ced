-- The cells of rows: a node stands below one of a row at most, and that is the one of the definition.
use Rattle.std.specs.Prelude.{◌≡◌, ◌+◌, ◌<◌, ◌≤◌, ◌==◌, ◌&&◌, ℕ, Bool, true, false, not, List, Option, Some, None, nat_lt, slice_get, if◌then◌else◌}
use Rattle.std.specs.List.{filter_map, list_any}
use Rattle.std.specs.Option.{option_and_then, option_map_or}
use Rattle.std.proofs.Common.{refl, sym, ap, subst, ◌∙◌, arith}
use Rattle.std.proofs.Math.Logic.{⊎_elim}
use Rattle.std.proofs.lemmas.Bool.{and_from, cases_lt, eq-eqb, eqb-true, lt-ltb}
use Rattle.std.proofs.lemmas.Bool.Decides.{nat_tests}
use Rattle.std.proofs.lemmas.Map.Keys.{any_passes_from_place}
use Rattle.std.proofs.lemmas.Option.{same_Some}
use Rattle.dita_doc.specs.declared.plan.Plan.{Plan}
use Rattle.dita_doc.specs.declared.plan.PlanNode.{PlanNode}
use Rattle.dita_doc.proofs.Tests.{first_holds, second_holds}
use Rattle.map_spec.specs.Scopes.{places}
use Rattle.link_spec.specs.Links.{cell_of, is_cell, is_child, is_kind_at, is_row, rows}
use Rattle.plan_nodes.specs.Preorder.{IsTree}
use Rattle.reader_spec.specs.World.{World}
use Rattle.reltable_links.specs.CellTable.{cell_at, cell_for, cell_made, contains, is_row_cell}
use Rattle.reltable_links.specs.declared.cells.RowCell.{RowCell}
use Rattle.reltable_links.proofs.ListLaws.{any_filter, any_filter_map, any_where, place_there}
use Rattle.reltable_links.proofs.SpanLaws.{tree_span}
use Rattle.reltable_links.proofs.UpLaws.{found_up, tree_before, up_found}

not_same : (n k : ℕ) → not (n == k) ≡ true → (n ≡ k → ⊥)
not_same n k is = λ e. grind (arith, nat_tests)

above_zero : (n : ℕ) → not (n == 0) ≡ true → 0 < n
above_zero n is = grind (arith, nat_tests)

differs : (n k : ℕ) → n < k → not (n == k) ≡ true
differs n k less = grind (arith, nat_tests)

zero_not : (n : ℕ) → 0 < n → not (n == 0) ≡ true
zero_not n less = grind (arith, nat_tests)

pub less_is : (n k : ℕ) → nat_lt n k ≡ true → n < k
less_is n k is = grind (arith, nat_tests)

module _ (plan : Plan) where
  -- a cell of this row has a node below it
  pub record IsCellOver (row at cell : ℕ) : Type 0 where
    pub node : PlanNode
    pub there : slice_get plan.nodes cell ≡ Some node
    pub some : 0 < cell
    pub parent : node.parent ≡ row
    pub kind : is_cell node.kind ≡ true
    pub behind : cell < at
    pub within : at < node.end

  abbrev cell_test : ℕ → ℕ → ℕ → Bool
  cell_test row at cell = not (cell == at) && is_child plan row cell && is_kind_at plan is_cell cell

  -- what a test on a node says where it holds
  pub record HasNode (test : PlanNode → Bool) (at : ℕ) : Type 0 where
    pub node : PlanNode
    pub there : slice_get plan.nodes at ≡ Some node
    pub holds : test node ≡ true

  pub has_node : (test : PlanNode → Bool) (at : ℕ) → option_map_or test (slice_get plan.nodes at) false ≡ true
      → HasNode test at
  has_node test at is = by_case (slice_get plan.nodes at) refl is
    where
      by_case : (found : Option PlanNode) → slice_get plan.nodes at ≡ found → option_map_or test found false ≡ true
          → HasNode test at
      by_case None e holds = cc
      by_case (Some node) e holds = record { node = node; there = e; holds = holds }

  pub node_has : (test : PlanNode → Bool) (at : ℕ) (node : PlanNode) → slice_get plan.nodes at ≡ Some node
      → test node ≡ true → option_map_or test (slice_get plan.nodes at) false ≡ true
  node_has test at node there holds = ap (λ found. option_map_or test found false) there ∙ holds

  module _ (tree : IsTree plan.nodes) where
    -- the cell of the definition has the node below it
    pub cell_is : (row at cell : ℕ) (node : PlanNode) → slice_get plan.nodes at ≡ Some node
        → cell_of plan row at ≡ Some cell → IsCellOver row at cell
    cell_is row at cell node is found =
        let up = found_up plan.nodes tree (cell_test row at) (at + 1) at cell node (omega arith) is found in
        let first = first_holds (not (cell == at) && is_child plan row cell) (is_kind_at plan is_cell cell) up.holds in
        let other = not_same cell at (first_holds (not (cell == at)) (is_child plan row cell) first) in
        let child = second_holds (not (cell == at)) (is_child plan row cell) first in
        let parent = has_node (λ (n : PlanNode). n.parent == row) cell (second_holds (not (cell == 0)) _ child) in
        let kind = has_node (λ (n : PlanNode). is_cell n.kind) cell
        (second_holds (not (cell == at) && is_child plan row cell) (is_kind_at plan is_cell cell) up.holds) in
        let less : cell < at = let low = up.over.behind in omega (arith, low, other) in
        let one : kind.node ≡ parent.node = same_Some kind.node parent.node (sym kind.there ∙ parent.there) in
        record {
          node = parent.node;
          there = parent.there;
          some = above_zero cell (first_holds (not (cell == 0)) _ child);
          parent = eqb-true parent.node.parent row parent.holds;
          kind = sym (ap (λ (n : PlanNode). is_cell n.kind) one) ∙ kind.holds;
          behind = less;
          within = up.over.within less parent.node parent.there;
        }

    apart : (row at one two : ℕ) → IsCellOver row at one → IsCellOver row at two → one < two → ⊥
    apart row at one two a b less =
        let span = tree_span plan.nodes tree one two a.node b.node less a.there b.there in
        let near = b.behind in
        let far = a.within in
        let high = span.beside.within (omega (arith, near, far)) in
        let low = tree_before plan.nodes tree one a.node a.some a.there in
        let first = a.parent in
        let second = b.parent in
        omega (arith, high, low, first, second)

    -- a node stands below one cell of a row at most
    pub only_cell : (row at one two : ℕ) → IsCellOver row at one → IsCellOver row at two → one ≡ two
    only_cell row at one two a b = ⊎_elim (λ (less : one < two). absurd (apart row at one two a b less))
        (λ (low : two ≤ one). ⊎_elim (λ (less : two < one). absurd (apart row at two one b a less))
        (λ (high : one ≤ two). omega (arith, low, high)) (cases_lt two one)) (cases_lt one two)

    -- which is the one of the definition
    pub is_cell_of : (row at cell : ℕ) (node : PlanNode) → slice_get plan.nodes at ≡ Some node
        → IsCellOver row at cell → cell_of plan row at ≡ Some cell
    is_cell_of row at cell node is over =
        let child : is_child plan row cell ≡ true = and_from (not (cell == 0)) _ (zero_not cell over.some)
        (node_has (λ (n : PlanNode). n.parent == row) cell over.node over.there
        (eq-eqb over.node.parent row over.parent)) in
        let kind : is_kind_at plan is_cell cell ≡ true =
        node_has (λ (n : PlanNode). is_cell n.kind) cell over.node over.there over.kind in
        let holds : cell_test row at cell ≡ true = and_from (not (cell == at) && is_child plan row cell)
        (is_kind_at plan is_cell cell)
        (and_from (not (cell == at)) (is_child plan row cell) (differs cell at over.behind) child) kind in
        let found = up_found plan.nodes tree (cell_test row at) (at + 1) at cell node over.node (omega arith) is over.there
        over.behind over.within holds in
        found.1 ∙ ap (λ c. Some c)
        (only_cell row at found.0 cell (cell_is row at found.0 node is found.1) over)

  -- The cells of rows, as they are kept

  pub record IsRowCell (world : World) (cell : RowCell) : Type 0 where
    pub node : PlanNode
    pub there : slice_get plan.nodes cell.at ≡ Some node
    pub is : cell ≡ cell_for world plan cell.at node
    pub test : is_row_cell plan.nodes cell.at node ≡ true

  abbrev pub all_cells : World → List RowCell
  all_cells world = filter_map (cell_at world plan) (places plan.nodes)

  pub cell_found : (world : World) (at : ℕ) (cell : RowCell) → cell_at world plan at ≡ Some cell
      → (cell.at ≡ at) × IsRowCell world cell
  cell_found world at cell is = by_case (slice_get plan.nodes at) refl is
    where
      by_test : (node : PlanNode) → slice_get plan.nodes at ≡ Some node → (a : Bool)
          → is_row_cell plan.nodes at node ≡ a → (if a then Some (cell_for world plan at node) else None) ≡ Some cell
          → (cell.at ≡ at) × IsRowCell world cell
      by_test node e true f same_cell =
          let one : cell ≡ cell_for world plan at node = sym (same_Some (cell_for world plan at node) cell same_cell) in
          let place : cell.at ≡ at = ap (λ (c : RowCell). c.at) one in (
            place,
            record {
              node = node;
              there = ap (slice_get plan.nodes) place ∙ e;
              is = one ∙ ap (λ k. cell_for world plan k node) (sym place);
              test = ap (λ k. is_row_cell plan.nodes k node) place ∙ f;
            },
          )
      by_test node e false f same_cell = cc

      by_case : (found : Option PlanNode) → slice_get plan.nodes at ≡ found
          → option_and_then (cell_made world plan at) found ≡ Some cell → (cell.at ≡ at) × IsRowCell world cell
      by_case None e same_cell = cc
      by_case (Some node) e same_cell = by_test node e (is_row_cell plan.nodes at node) refl same_cell

  pub found_cell : (world : World) (cell : RowCell) → IsRowCell world cell → cell_at world plan cell.at ≡ Some cell
  found_cell world cell row_cell =
      ap (option_and_then (cell_made world plan cell.at)) row_cell.there
      ∙ ap (λ b. if b then Some (cell_for world plan cell.at row_cell.node) else None) row_cell.test
      ∙ ap (λ c. Some c) (sym row_cell.is)

  -- one of the cells
  pub record HasCell (world : World) (test : RowCell → Bool) : Type 0 where
    pub cell : RowCell
    pub row_cell : IsRowCell world cell
    pub holds : test cell ≡ true

  pub cell_where : (world : World) (test : RowCell → Bool) → list_any test (all_cells world) ≡ true → HasCell world test
  cell_where world test some =
      let here = any_where (λ at. option_map_or test (cell_at world plan at) false) (places plan.nodes)
      (sym (any_filter_map (cell_at world plan) test (places plan.nodes)) ∙ some) in
      by_case here.item (cell_at world plan here.item) refl here.holds
    where
      by_case : (at : ℕ) (found : Option RowCell) → cell_at world plan at ≡ found
          → option_map_or test found false ≡ true
          → HasCell world test
      by_case at None e holds = cc
      by_case at (Some cell) e holds =
          record { cell = cell; row_cell = (cell_found world at cell e).1; holds = holds }

  pub cell_here : (world : World) (test : RowCell → Bool) (cell : RowCell) → IsRowCell world cell → test cell ≡ true
      → list_any test (all_cells world) ≡ true
  cell_here world test cell row_cell holds =
      any_filter_map (cell_at world plan) test (places plan.nodes)
      ∙ any_passes_from_place (λ at. option_map_or test (cell_at world plan at) false)
      (places plan.nodes) cell.at cell.at
      (place_there 0 cell.at plan.nodes row_cell.node row_cell.there ∙ zeroth cell.at)
      (ap (λ found. option_map_or test found false) (found_cell world cell row_cell) ∙ holds)
    where
      zeroth : (n : ℕ) → Some (0 + n) ≡ Some n
      zeroth n = let e : 0 + n ≡ n = omega arith in ap (λ k. Some k) e

  -- a kept cell has the nodes below it that it contains
  pub cell_over : (world : World) (cell : RowCell) (at : ℕ) → IsRowCell world cell → contains at cell ≡ true
      → IsCellOver cell.row at cell.at
  cell_over world cell at row_cell holds = record {
    node = row_cell.node;
    there = row_cell.there;
    some = above_zero cell.at (first_holds (not (cell.at == 0)) (is_cell row_cell.node.kind)
        (first_holds (not (cell.at == 0) && is_cell row_cell.node.kind) (is_kind_at plan is_row row_cell.node.parent)
        row_cell.test));
    parent = sym (ap (λ (c : RowCell). c.row) row_cell.is);
    kind = second_holds (not (cell.at == 0)) (is_cell row_cell.node.kind)
        (first_holds (not (cell.at == 0) && is_cell row_cell.node.kind) (is_kind_at plan is_row row_cell.node.parent)
        row_cell.test);
    behind = less_is cell.at at (first_holds (nat_lt cell.at at) (nat_lt at cell.end) holds);
    within = subst (λ n. at < n) (ap (λ (c : RowCell). c.end) row_cell.is)
        (less_is at cell.end (second_holds (nat_lt cell.at at) (nat_lt at cell.end) holds));
  }

  pub cell_row : (world : World) (cell : RowCell) → IsRowCell world cell → is_kind_at plan is_row cell.row ≡ true
  cell_row world cell row_cell =
      ap (λ n. is_kind_at plan is_row n) (ap (λ (c : RowCell). c.row) row_cell.is)
      ∙ second_holds (not (cell.at == 0) && is_cell row_cell.node.kind) (is_kind_at plan is_row row_cell.node.parent)
      row_cell.test

  -- and the cell of a row that has a node below it is kept
  pub over_cell : (world : World) (row at place : ℕ) (over : IsCellOver row at place)
      → is_kind_at plan is_row row ≡ true → IsRowCell world (cell_for world plan place over.node)
      × (contains at (cell_for world plan place over.node) ≡ true)
  over_cell world row at place over kind = (
    record {
      node = over.node;
      there = over.there;
      is = refl;
      test = and_from (not (place == 0) && is_cell over.node.kind) (is_kind_at plan is_row over.node.parent)
          (and_from (not (place == 0)) (is_cell over.node.kind) (zero_not place over.some) over.kind)
          (ap (is_kind_at plan is_row) over.parent ∙ kind);
    },
    and_from (nat_lt place at) (nat_lt at over.node.end) (lt-ltb place at over.behind)
        (lt-ltb at over.node.end over.within),
  )

  -- Rows

  pub row_here : (test : ℕ → Bool) (row : ℕ) → is_kind_at plan is_row row ≡ true → test row ≡ true
      → list_any test (rows plan) ≡ true
  row_here test row kind holds =
      let found = has_node (λ (n : PlanNode). is_row n.kind) row kind in
      any_filter (is_kind_at plan is_row) test (places plan.nodes)
      ∙ any_passes_from_place (λ r. is_kind_at plan is_row r && test r) (places plan.nodes) row row
      (place_there 0 row plan.nodes found.node found.there ∙ zeroth row)
      (and_from (is_kind_at plan is_row row) (test row) kind holds)
    where
      zeroth : (n : ℕ) → Some (0 + n) ≡ Some n
      zeroth n = let e : 0 + n ≡ n = omega arith in ap (λ k. Some k) e

  pub record HasRow (test : ℕ → Bool) : Type 0 where
    pub row : ℕ
    pub kind : is_kind_at plan is_row row ≡ true
    pub holds : test row ≡ true

  pub row_where : (test : ℕ → Bool) → list_any test (rows plan) ≡ true → HasRow test
  row_where test some =
      let here = any_where (λ r. is_kind_at plan is_row r && test r) (places plan.nodes)
      (sym (any_filter (is_kind_at plan is_row) test (places plan.nodes)) ∙ some) in record {
        row = here.item;
        kind = first_holds (is_kind_at plan is_row here.item) (test here.item) here.holds;
        holds = second_holds (is_kind_at plan is_row here.item) (test here.item) here.holds;
      }
