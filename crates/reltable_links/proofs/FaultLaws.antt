-- The faults of rows, by the kept cells and the places without pages.
use Rattle.std.specs.Prelude.{◌≡◌, ◌+◌, ◌<◌, ◌==◌, ◌&&◌, ℕ, suc, Bool, true, false, not, List, [], ◌∷◌, ◌++◌, Option, Some, None, filter, is_some, length, nat_lt, option_map, slice_get, take, if◌then◌else◌}
use Rattle.std.specs.List.{flat_map}
use Rattle.std.specs.Option.{option_and_then, option_to_list}
use Rattle.std.specs.List.Sorted.{IsNonDecreasingBy}
use Rattle.std.proofs.Common.{refl, sym, ap, ◌∙◌, append-nil, append_assoc, arith, get_or}
use Rattle.std.proofs.lemmas.Bool.{and_from, eq-eqb, eqb-true}
use Rattle.std.proofs.lemmas.Grind.{flat_map-append}
use Rattle.dita_doc.specs.declared.fault.Fault.{Fault}
use Rattle.dita_doc.specs.declared.fault.FaultCode.TheVariants as faults
use Rattle.dita_doc.specs.declared.plan.Plan.{Plan}
use Rattle.dita_doc.specs.declared.plan.PlanNode.{PlanNode}
use Rattle.dita_doc.proofs.Tests.{by_truth, first_holds, second_holds}
use Rattle.map_spec.specs.Pages.{local_name}
use Rattle.map_spec.specs.Scopes.{node_fault, places}
use Rattle.link_spec.specs.Links.{cell_of, has_page, is_kind_at, is_row, lost_in, row_faults, rows, plan_target}
use Rattle.plan_nodes.specs.Preorder.{IsTree}
use Rattle.reader_spec.specs.World.{World}
use Rattle.reltable_links.specs.Below.{ends_behind_one, is_below_one, new_below}
use Rattle.reltable_links.specs.CellTable.{cell_for, contains, is_below, is_lost_below}
use Rattle.reltable_links.specs.RowTable.{faults_of_row, faults_of_rows, is_in_row, lost_fault, lost_in_row}
use Rattle.reltable_links.specs.Standings.{is_in}
use Rattle.reltable_links.specs.declared.cells.RowCell.{RowCell}
use Rattle.reltable_links.proofs.BelowLaws.{below_more}
use Rattle.reltable_links.proofs.CellLaws.{all_cells, cell_here, cell_is, cell_over, cell_where, is_cell_of, over_cell, row_here}
use Rattle.reltable_links.proofs.ListLaws.{any_filter, place_is}

flat_kept : (q : ℕ → Bool) (g : ℕ → List Fault) (xs : List ℕ)
    → flat_map g (filter q xs) ≡ flat_map (λ x. if q x then g x else []) xs
flat_kept q g [] = refl
flat_kept q g (x ∷ xs) = by_test (flat_kept q g xs) (q x) refl
  where
    by_test : flat_map g (filter q xs) ≡ flat_map (λ x. if q x then g x else []) xs → (b : Bool) → q x ≡ b
        → flat_map g (filter q (x ∷ xs)) ≡ flat_map (λ x. if q x then g x else []) (x ∷ xs)
    by_test behind true e = rw e (ap (λ l. g x ++ l) behind)
    by_test behind false e = rw e behind

flat_here : (g h : ℕ → List Fault) (xs : List ℕ) → ((k x : ℕ) → slice_get xs k ≡ Some x → g x ≡ h x)
    → flat_map g xs ≡ flat_map h xs
flat_here g h [] each = refl
flat_here g h (x ∷ xs) each = λ i. each 0 x refl i ++ flat_here g h xs (λ k y is. each (suc k) y is) i

module _ (world : World) (plan : Plan) (tree : IsTree plan.nodes) where
  in_row : (row at : ℕ) (node : PlanNode) → is_kind_at plan is_row row ≡ true → slice_get plan.nodes at ≡ Some node
      → is_in_row (all_cells plan world) row at ≡ is_some (cell_of plan row at)
  in_row row at node kind there = by_truth (is_in_row (all_cells plan world) row at) (is_some (cell_of plan row at))
      (λ some.
      let found = cell_where plan world (λ (c : RowCell). (row == c.row) && contains at c) some in
      let one = sym (eqb-true row found.cell.row
      (first_holds (row == found.cell.row) (contains at found.cell) found.holds)) in
      ap is_some (ap (λ r. cell_of plan r at) (sym one)
      ∙ is_cell_of plan tree found.cell.row at found.cell.at node there
      (cell_over plan world found.cell at found.row_cell
      (second_holds (row == found.cell.row) (contains at found.cell) found.holds))))
      (λ some. by_cell (cell_of plan row at) refl some)
    where
      by_cell : (cell : Option ℕ) → cell_of plan row at ≡ cell → is_some cell ≡ true
          → is_in_row (all_cells plan world) row at ≡ true
      by_cell None e holds = cc
      by_cell (Some cell) e holds =
          let over = cell_is plan tree row at cell node there e in
          let kept = over_cell plan world row at cell over kind in
          cell_here plan world (λ (c : RowCell). (row == c.row) && contains at c) (cell_for world plan cell over.node) kept.0
          (and_from (row == over.node.parent) _ (eq-eqb row over.node.parent (sym over.parent)) kept.1)

  no_name : (at : ℕ) → is_some (local_name (plan_target plan at)) ≡ false → lost_fault plan at ≡ []
  no_name at none = by_name (local_name (plan_target plan at)) refl none
    where
      by_name : (name : Option (List ℕ)) → local_name (plan_target plan at) ≡ name → is_some name ≡ false
          → lost_fault plan at ≡ []
      by_name None e f = rw e refl
      by_name (Some name) e f = cc

  lost_same : (row at : ℕ) (node : PlanNode) → is_kind_at plan is_row row ≡ true → slice_get plan.nodes at ≡ Some node
      → (if is_lost_below plan at then lost_in_row plan (all_cells plan world) row at else []) ≡ lost_in plan row at
  lost_same row at node kind there =
      ap (λ b. if is_lost_below plan at then (if b then lost_fault plan at else []) else []) (in_row row at node kind there)
      ∙ by_tests (is_some (cell_of plan row at)) (is_below plan at) (is_some (local_name (plan_target plan at)))
      (has_page plan at)
      (row_here plan (λ r. is_some (cell_of plan r at)) row kind) (no_name at)
    where
      by_tests : (a b l h : Bool) → (a ≡ true → b ≡ true) → (l ≡ false → lost_fault plan at ≡ [])
          → (if b && (l && not h) then (if a then lost_fault plan at else []) else [])
          ≡ (if a && not h then lost_fault plan at else [])
      by_tests true true true h below none = refl
      by_tests true true false true below none = refl
      by_tests true true false false below none = sym (none refl)
      by_tests true false l h below none = let no_one : false ≡ true = below refl in cc
      by_tests false true true true below none = refl
      by_tests false true true false below none = refl
      by_tests false true false h below none = refl
      by_tests false false l h below none = refl

  pub row_faults_are : faults_of_rows plan (all_cells plan world) (rows plan) (filter (is_lost_below plan) (places plan.nodes))
      ≡ row_faults plan
  row_faults_are =
      flat_kept (is_kind_at plan is_row) (λ row. flat_map (lost_in_row plan (all_cells plan world) row)
      (filter (is_lost_below plan) (places plan.nodes))) (places plan.nodes)
      ∙ flat_here _ _ (places plan.nodes) (λ k row is. by_kind row (is_kind_at plan is_row row) refl)
      ∙ sym (flat_kept (is_kind_at plan is_row) (λ row. flat_map (lost_in plan row) (places plan.nodes)) (places plan.nodes))
    where
      by_kind : (row : ℕ) (b : Bool) → is_kind_at plan is_row row ≡ b
          → (if is_kind_at plan is_row row then flat_map (lost_in_row plan (all_cells plan world) row)
          (filter (is_lost_below plan) (places plan.nodes)) else [])
          ≡ (if is_kind_at plan is_row row then flat_map (lost_in plan row) (places plan.nodes) else [])
      by_kind row true e = rw e (
          flat_kept (is_lost_below plan) (lost_in_row plan (all_cells plan world) row) (places plan.nodes)
          ∙ flat_here _ _ (places plan.nodes) (λ k at is.
          let place = place_is 0 k at plan.nodes is in
          let zeroth : 0 + k ≡ k = omega arith in
          lost_same row at place.node e (ap (slice_get plan.nodes) (place.is ∙ zeroth) ∙ place.there)))
      by_kind row false e = rw e refl

-- The faults of one row

pub one_row : (plan : Plan) (cells : List RowCell) (row : ℕ) (lost : List ℕ)
    → flat_map (lost_fault plan) (filter (is_below_one (filter (is_in row) cells)) lost)
    ≡ faults_of_row plan cells lost row
one_row plan cells row lost =
    flat_kept (is_below_one (filter (is_in row) cells)) (lost_fault plan) lost
    ∙ (λ i. flat_map (λ at. if any_filter (is_in row) (contains at) cells i then lost_fault plan at else []) lost)

-- of what stands below one cell more
pub faults_more : (plan : Plan) (cells : List RowCell) (lost : List ℕ) (index : ℕ) (d : RowCell) (done : ℕ)
    (old mid new : List Fault) → index < length cells
    → ((at : ℕ) → nat_lt at done ≡ ends_behind_one (take index cells) at)
    → IsNonDecreasingBy (λ (c : RowCell). c.at) cells → IsNonDecreasingBy (λ (at : ℕ). at) lost
    → mid ≡ old ++ flat_map (lost_fault plan) (filter (is_below_one (take index cells)) lost)
    → new ≡ mid ++ flat_map (lost_fault plan) (new_below (λ (at : ℕ). at) (get_or cells index d) done lost)
    → new ≡ old ++ flat_map (lost_fault plan) (filter (is_below_one (take (index + 1) cells)) lost)
faults_more plan cells lost index d done old mid new within ends order rising before put =
    let some = filter (is_below_one (take index cells)) lost in
    let more = new_below (λ (at : ℕ). at) (get_or cells index d) done lost in
    put ∙ ap (λ l. l ++ flat_map (lost_fault plan) more) before
    ∙ append_assoc old (flat_map (lost_fault plan) some) (flat_map (lost_fault plan) more)
    ∙ ap (λ l. old ++ l) (sym (flat_map-append (lost_fault plan) some more)
    ∙ ap (flat_map (lost_fault plan)) (sym (below_more cells index d done within ends order (λ (at : ℕ). at) lost rising)))

-- The fault of one node

pub no_node : (plan : Plan) (at : ℕ) (name : List ℕ) (old : List Fault) → Some name ≡ local_name (plan_target plan at)
    → None ≡ slice_get plan.nodes at → old ≡ old ++ lost_fault plan at
no_node plan at name old named none =
    sym (append-nil old)
    ∙ (λ i. old ++ option_to_list (option_and_then (λ n. option_map
    (λ (node : PlanNode). node_fault node faults.LinkNoPage n) (none i)) (named i)))

pub put_fault : (plan : Plan) (at : ℕ) (name text : List ℕ) (node : PlanNode) (fault : Fault) (old new : List Fault)
    → Some name ≡ local_name (plan_target plan at) → Some node ≡ slice_get plan.nodes at → text ≡ name
    → fault ≡ node_fault node faults.LinkNoPage text → new ≡ old ++ fault ∷ [] → new ≡ old ++ lost_fault plan at
put_fault plan at name text node fault old new named there same is put =
    put ∙ ap (λ f. old ++ f ∷ []) (is ∙ ap (node_fault node faults.LinkNoPage) same)
    ∙ (λ i. old ++ option_to_list (option_and_then (λ n. option_map
    (λ (one : PlanNode). node_fault one faults.LinkNoPage n) (there i)) (named i)))
