-- What is kept of a plan stands in the order of places.
use Rattle.std.specs.Prelude.{◌≡◌, ◌+◌, ◌<◌, ◌≤◌, ℕ, Bool, true, false, List, [], ◌∷◌, ◌++◌, filter, length, take}
use Rattle.std.specs.List.{flat_map}
use Rattle.std.specs.List.Sorted.{IsNonDecreasingBy}
use Rattle.std.proofs.Common.{refl, sym, ap, ◌∙◌, append-nil, append_assoc, arith, get_or}
use Rattle.std.proofs.lemmas.Grind.{flat_map-append}
use Rattle.std.proofs.lemmas.List.{take_more}
use Rattle.dita_doc.specs.declared.content.LinkKind.TheVariants as links
use Rattle.dita_doc.specs.declared.plan.Plan.{Plan}
use Rattle.link_groups.specs.LinkLists.{HoldsLinks, links_to_nodes}
use Rattle.link_groups.specs.declared.link_list.LinkList.{LinkList}
use Rattle.link_groups.specs.declared.link_nodes.LinkNode.{LinkNode}
use Rattle.link_groups.proofs.OnceLaws.{holds_same, once_same}
use Rattle.map_spec.specs.Scopes.{places}
use Rattle.link_spec.specs.Links.{LinkTo, links_of_kind, to_each_once}
use Rattle.plan_nodes.specs.Preorder.{IsTree}
use Rattle.reader_spec.specs.World.{World}
use Rattle.reltable_links.specs.CellTable.{cell_at, is_lost_below, node_at}
use Rattle.reltable_links.specs.Linked.{linked_nodes}
use Rattle.reltable_links.specs.Standings.{is_in}
use Rattle.reltable_links.specs.declared.cells.RowCell.{RowCell}
use Rattle.reltable_links.proofs.BelowLaws.{AreFromBy, found_from, from_start, in_order, kept_from}
use Rattle.reltable_links.proofs.CellLaws.{all_cells, cell_found}
use Rattle.reltable_links.proofs.LinkedLaws.{all_nodes, kept_found}
use Rattle.reltable_links.proofs.OrderedLaws.{row_links_are}

some_from : {X : Type 0} (place : X → ℕ) (q : X → Bool) (xs : List X) (from least : ℕ) → least ≤ from
    → AreFromBy place from xs → AreFromBy place least (filter q xs)
some_from place q [] from least low are = tt
some_from {X} place q (x ∷ xs) from least low are =
    by_test (q x) refl (some_from place q xs (place x) (place x) (omega arith) are.1)
    (some_from place q xs (place x) least (omega (arith, low, are.0)) are.1)
  where
    by_test : (b : Bool) → q x ≡ b → AreFromBy place (place x) (filter q xs) → AreFromBy place least (filter q xs)
        → AreFromBy place least (filter q (x ∷ xs))
    by_test true e one two = rw e (omega (arith, low, are.0), one)
    by_test false e one two = rw e two

module _ (world : World) (plan : Plan) where
  pub cells_rise : IsNonDecreasingBy (λ (cell : RowCell). cell.at) (all_cells plan world)
  cells_rise = in_order (λ (cell : RowCell). cell.at) 0 (all_cells plan world)
      (found_from (cell_at world plan) (λ (cell : RowCell). cell.at)
      (λ at cell is. (cell_found plan world at cell is).0) 0 plan.nodes 0 (omega arith))

  pub nodes_rise : IsNonDecreasingBy (λ (node : LinkNode). node.at) (all_nodes world plan)
  nodes_rise = in_order (λ (node : LinkNode). node.at) 0 (all_nodes world plan)
      (found_from (node_at world plan) (λ (node : LinkNode). node.at)
      (λ at node is. (kept_found world plan at node is).0) 0 plan.nodes 0 (omega arith))

  pub lost_rise : IsNonDecreasingBy (λ (at : ℕ). at) (filter (is_lost_below plan) (places plan.nodes))
  lost_rise = in_order (λ (at : ℕ). at) 0 (filter (is_lost_below plan) (places plan.nodes))
      (kept_from (is_lost_below plan) 0 plan.nodes 0 (omega arith))

pub row_rises : (row : ℕ) (cells : List RowCell) → IsNonDecreasingBy (λ (cell : RowCell). cell.at) cells
    → IsNonDecreasingBy (λ (cell : RowCell). cell.at) (filter (is_in row) cells)
row_rises row cells rise = in_order (λ (cell : RowCell). cell.at) 0 (filter (is_in row) cells)
    (some_from (λ (cell : RowCell). cell.at) (is_in row) cells 0 0 (omega arith)
    (from_start (λ (cell : RowCell). cell.at) cells rise))

-- behind what a list holds, the links to those of the kept nodes are those of the definition
pub appended : (world : World) (plan : Plan) (page : ℕ) (all : List LinkTo) (cells : List RowCell)
    (nodes : List LinkNode)
    (list : LinkList) → IsTree plan.nodes → cells ≡ all_cells plan world → nodes ≡ all_nodes world plan
    → HoldsLinks page (all ++ links_to_nodes page links.Related (linked_nodes page cells nodes)) list
    → HoldsLinks page (all ++ links_of_kind world plan page links.Related) list
appended world plan page all cells nodes list tree cells_are nodes_are =
    holds_same page (all ++ links_to_nodes page links.Related (linked_nodes page cells nodes))
    (all ++ links_of_kind world plan page links.Related) list
    (once_same all all (links_to_nodes page links.Related (linked_nodes page cells nodes))
    (links_of_kind world plan page links.Related) refl
    ((λ i. to_each_once (links_to_nodes page links.Related (linked_nodes page (cells_are i) (nodes_are i))))
    ∙ row_links_are world plan tree page))

-- one element more
pub flat_more : {X A : Type 0} (f : X → List A) (xs : List X) (index : ℕ) (d : X) → index < length xs
    → (old mid new : List A) → new ≡ mid ++ f (get_or xs index d) → mid ≡ old ++ flat_map f (take index xs)
    → new ≡ old ++ flat_map f (take (index + 1) xs)
flat_more f xs index d within old mid new put before =
    put ∙ ap (λ l. l ++ f (get_or xs index d)) before
    ∙ append_assoc old (flat_map f (take index xs)) (f (get_or xs index d))
    ∙ ap (λ l. old ++ l) (
    ap (λ l. flat_map f (take index xs) ++ l) (sym (append-nil (f (get_or xs index d))))
    ∙ sym (ap (flat_map f) (take_more xs index d within)
    ∙ flat_map-append f (take index xs) (get_or xs index d ∷ [])))
