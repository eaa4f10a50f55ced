-- Where pages stand in rows, by the nodes below cells.
use Rattle.std.specs.Prelude.{◌≡◌, ◌&&◌, ◌||◌, ℕ, Bool, true, false, not, List, [], ◌∷◌, nat_lt}
use Rattle.std.specs.List.{list_any}
use Rattle.std.proofs.Common.{refl, sym, ◌∙◌, arith}
use Rattle.std.proofs.lemmas.Bool.Decides.{nat_tests}
use Rattle.dita_doc.proofs.Lists.{any_swap}
use Rattle.link_groups.specs.declared.link_nodes.LinkNode.{LinkNode}
use Rattle.reltable_links.specs.Below.{is_new, new_below}
use Rattle.reltable_links.specs.CellTable.{contains, relates}
use Rattle.reltable_links.specs.Linked.{is_from, links_into}
use Rattle.reltable_links.specs.Standings.{leads_from, stands_in}
use Rattle.reltable_links.specs.declared.cells.RowCell.{RowCell}
use Rattle.reltable_links.proofs.ListLaws.{any_filter}

-- A page that stands in a cell by one of the nodes below it

first_new : (at : ℕ) → not (nat_lt at 0) ≡ true
first_new at = grind (arith, nat_tests)

pub led_below : (page : ℕ) (own cell : RowCell) (nodes : List LinkNode)
    → list_any (leads_from page own cell) (new_below (λ (node : LinkNode). node.at) own 0 nodes)
    ≡ stands_in page nodes cell own
led_below page own cell nodes =
    any_filter (λ (node : LinkNode). is_new own 0 node.at) (leads_from page own cell) nodes
    ∙ (λ i. list_any (λ node. new_contains node.at i && leads_from page own cell node) nodes)
  where
    by_tests : (a b c : Bool) → b ≡ true → ((a && b) && c) ≡ (a && c)
    by_tests true true c is = refl
    by_tests true false c is = cc
    by_tests false b c is = refl

    new_contains : (at : ℕ) → is_new own 0 at ≡ contains at own
    new_contains at = by_tests (nat_lt own.at at) (not (nat_lt at 0)) (nat_lt at own.end) (first_new at)

-- Some of one list, and some of another

none_any : {Y : Type 0} (a : Y → Bool) (ys : List Y) → list_any (λ y. a y && false) ys ≡ false
none_any a [] = refl
none_any a (y ∷ ys) = by_test (a y) (none_any a ys)
  where
    by_test : (b : Bool) → list_any (λ y. a y && false) ys ≡ false
        → ((b && false) || list_any (λ y. a y && false) ys) ≡ false
    by_test true behind = behind
    by_test false behind = behind

any_front : {Y : Type 0} (b : Bool) (a c : Y → Bool) (ys : List Y)
    → list_any (λ y. a y && (b && c y)) ys ≡ (b && list_any (λ y. a y && c y) ys)
any_front true a c ys = refl
any_front false a c ys = none_any a ys

pub any_back : {Y : Type 0} (b : Bool) (a : Y → Bool) (ys : List Y)
    → list_any (λ y. a y && b) ys ≡ (list_any a ys && b)
any_back true a ys = (λ i. list_any (λ y. with_true (a y) i) ys) ∙ sym (with_true (list_any a ys))
  where
    with_true : (b : Bool) → (b && true) ≡ b
    with_true true = refl
    with_true false = refl
any_back false a ys = none_any a ys ∙ sym (with_false (list_any a ys))
  where
    with_false : (b : Bool) → (b && false) ≡ false
    with_false true = refl
    with_false false = refl

-- the cells that have a node of the page below them are those into which it leads
pub stood_in : (page : ℕ) (cells : List RowCell) (nodes : List LinkNode) (cell : RowCell)
    → list_any (stands_in page nodes cell) cells ≡ links_into page cells nodes cell
stood_in page cells nodes cell =
    any_swap (λ (own : RowCell) (node : LinkNode). contains node.at own && leads_from page own cell node) cells nodes
    ∙ (λ i. list_any (λ (node : LinkNode). any_front (is_from page node) (contains node.at)
    (λ (own : RowCell). relates own cell) cells i) nodes)
