-- The cells at a place, on the way from the root down to it: where the cells of nodes stand, and what is found among those
-- nodes that are left.
use Rattle.std.specs.Prelude.{◌≡◌, ◌+◌, ◌-◌, ◌<◌, ◌≤◌, ◌++◌, ℕ, zero, suc, Bool, true, false, List, [], ◌∷◌, Option, Some, None, filter, nat_lt}
use Rattle.std.specs.Option.{option_map_or}
use Rattle.std.proofs.Common.{refl, sym, ap, ◌∙◌, arith}
use Rattle.std.proofs.lemmas.Bool.Decides.{nat_tests}
use Rattle.std.proofs.lemmas.List.{append-nil}
use Rattle.std.proofs.lemmas.List.Elements.{filter-append}
use Rattle.std.proofs.lemmas.Option.{none-some, same_Some}
use Rattle.dita_doc.proofs.Tests.{not_zero, place_next}
use Rattle.html_tables.specs.Walk.{cells_in, cells_of, stands_in}
use Rattle.map_spec.specs.Written.{Element, Whole, Written, End, Chars, Node, element_at, size}
use Rattle.html_spec.specs.Blocks as blocks
use Rattle.html_spec.specs.Blocks.{CellAt, HtmlContext, Form, cell_by, cells_from, context_in, row_for}

-- Cells of nodes pass a test, or fail it, by their places

abbrev kept_if : Bool → List CellAt → List CellAt
kept_if true cells = cells
kept_if false cells = []

none_kept : (is : Bool) → [] ≡ kept_if is []
none_kept true = refl
none_kept false = refl

one_kept : (test : CellAt → Bool) (cell : CellAt) (is : Bool) → test cell ≡ is
    → filter test (cell ∷ []) ≡ kept_if is (cell ∷ [])
one_kept test cell true e = rw e refl
one_kept test cell false e = rw e refl

both_kept : (is : Bool) (xs ys : List CellAt) → kept_if is xs ++ kept_if is ys ≡ kept_if is (xs ++ ys)
both_kept true xs ys = refl
both_kept false xs ys = refl

module _ (test : CellAt → Bool) (is : Bool) where
  joined_kept : (xs ys : List CellAt) → filter test xs ≡ kept_if is xs → filter test ys ≡ kept_if is ys
      → filter test (xs ++ ys) ≡ kept_if is (xs ++ ys)
  joined_kept xs ys one two = filter-append test xs ys ∙ rw (one, two) (both_kept is xs ys)

  cell_kept : (around : HtmlContext) (here : ℕ) (element : Element) (row : Option (List ℕ × Form))
      → ((cell : CellAt) → cell.place ≡ here → test cell ≡ is)
      → filter test (cell_by around here element row) ≡ kept_if is (cell_by around here element row)
  cell_kept around here element None tests = none_kept is
  cell_kept around here element (Some (token, blocks.Cell)) tests = one_kept test _ is (tests _ refl)
  cell_kept around here element (Some (token, blocks.SimpleCell)) tests = one_kept test _ is (tests _ refl)
  cell_kept around here element (Some (token, blocks.Tag name class)) tests = none_kept is
  cell_kept around here element (Some (token, blocks.Topic)) tests = none_kept is
  cell_kept around here element (Some (token, blocks.Title)) tests = none_kept is
  cell_kept around here element (Some (token, blocks.Note)) tests = none_kept is
  cell_kept around here element (Some (token, blocks.Reference)) tests = none_kept is
  cell_kept around here element (Some (token, blocks.Image)) tests = none_kept is
  cell_kept around here element (Some (token, blocks.Left)) tests = none_kept is
  cell_kept around here element (Some (token, blocks.Foreign)) tests = none_kept is

  cells_kept : (around : HtmlContext) (here : ℕ) (nodes : Written)
      → ((cell : CellAt) → here ≤ cell.place → cell.place < here + size nodes → test cell ≡ is)
      → filter test (cells_from around here nodes) ≡ kept_if is (cells_from around here nodes)
  cells_kept around here End tests = none_kept is
  cells_kept around here (Chars text doc rest) tests =
      cells_kept around (here + 1) rest (λ cell from to. tests cell (omega arith) (omega arith))
  cells_kept around here (Node element inside rest) tests =
      let row = row_for element in
      let within = context_in element inside row around in
      joined_kept (cell_by around here element row ++ cells_from within (here + 1) inside)
      (cells_from around (here + 1 + size inside) rest)
      (joined_kept (cell_by around here element row) (cells_from within (here + 1) inside)
      (cell_kept around here element row (λ cell is_here. tests cell (omega arith) (omega arith)))
      (cells_kept within (here + 1) inside (λ cell from to. tests cell (omega arith) (omega arith))))
      (cells_kept around (here + 1 + size inside) rest (λ cell from to. tests cell (omega arith) (omega arith)))

-- The element at a place

at_text : (text doc : List ℕ) (rest : Written) (k : ℕ) → element_at (Chars text doc rest) (suc k) ≡ element_at rest k
at_text text doc rest k =
    let here : suc k - 1 ≡ k = omega arith in
    rw (not_zero k) (ap (element_at rest) here)

module _ (element : Element) (inside rest : Written) (k : ℕ) where
  at_inside : k < size inside → element_at (Node element inside rest) (suc k) ≡ element_at inside k
  at_inside low =
      let here : suc k - 1 ≡ k = omega arith in
      let is : nat_lt (size inside) (suc k) ≡ false = grind (arith, nat_tests) in
      rw (not_zero k, is) (ap (element_at inside) here)

  at_behind : size inside ≤ k → element_at (Node element inside rest) (suc k) ≡ element_at rest (k - size inside)
  at_behind high =
      let here : suc k - (1 + size inside) ≡ k - size inside = omega arith in
      let is : nat_lt (size inside) (suc k) ≡ true = grind (arith, nat_tests) in
      rw (not_zero k, is) (ap (element_at rest) here)

-- an element and what it holds fit into the nodes among which it was found
behind_or_inside : (element : Element) (inside rest : Written) (k : ℕ) (whole : Whole) (beyond : Bool)
    → nat_lt (size inside) (suc k) ≡ beyond → element_at (Node element inside rest) (suc k) ≡ Some whole
    → ((at : ℕ) → element_at inside at ≡ Some whole → at + 1 + size whole.1 ≤ size inside)
    → ((at : ℕ) → element_at rest at ≡ Some whole → at + 1 + size whole.1 ≤ size rest)
    → suc k + 1 + size whole.1 ≤ 1 + (size inside + size rest)
behind_or_inside element inside rest k whole true e found in_inside in_rest =
    let high : size inside ≤ k = grind (arith, nat_tests) in
    let fits = in_rest (k - size inside) (sym (at_behind element inside rest k high) ∙ found) in
    omega (arith, fits, high)
behind_or_inside element inside rest k whole false e found in_inside in_rest =
    let low : k < size inside = grind (arith, nat_tests) in
    let fits = in_inside k (sym (at_inside element inside rest k low) ∙ found) in
    omega (arith, fits)

found_fits : (nodes : Written) (at : ℕ) (whole : Whole) → element_at nodes at ≡ Some whole
    → at + 1 + size whole.1 ≤ size nodes
found_fits End at whole found = absurd (none-some whole found)
found_fits (Chars text doc rest) zero whole found = absurd (none-some whole found)
found_fits (Chars text doc rest) (suc k) whole found =
    let fits = found_fits rest k whole (sym (at_text text doc rest k) ∙ found) in omega (arith, fits)
found_fits (Node element inside rest) zero whole found =
    let same = ap (λ (w : Whole). size w.1) (same_Some _ _ found) in omega (arith, same)
found_fits (Node element inside rest) (suc k) whole found =
    behind_or_inside element inside rest k whole (nat_lt (size inside) (suc k)) refl found
    (λ at. found_fits inside at whole) (λ at. found_fits rest at whole)

-- What is found among the nodes that are left

-- the first of them stands at the place `here`, and the element sought so far behind it
abbrev pub cells_left : HtmlContext → ℕ → ℕ → Written → List CellAt
cells_left around here at nodes =
    option_map_or (cells_in (cells_from around here nodes) (here + at)) (element_at nodes at) []

same_found : (f g : Whole → List CellAt) (found other : Option Whole) → found ≡ other
    → ((whole : Whole) → other ≡ Some whole → f whole ≡ g whole) → option_map_or f found [] ≡ option_map_or g other []
same_found f g found None is same = rw is refl
same_found f g found (Some whole) is same = rw is (same whole refl)

stands : (place : ℕ) (whole : Whole) (cell : CellAt) → place ≤ cell.place → cell.place < place + 1 + size whole.1
    → stands_in place whole cell ≡ true
stands place whole cell from to = grind (arith, nat_tests)

stands_before : (place : ℕ) (whole : Whole) (cell : CellAt) → cell.place < place → stands_in place whole cell ≡ false
stands_before place whole cell before = grind (arith, nat_tests)

stands_behind : (place : ℕ) (whole : Whole) (cell : CellAt) → place + 1 + size whole.1 ≤ cell.place
    → stands_in place whole cell ≡ false
stands_behind place whole cell behind = grind (arith, nat_tests)

pub left_text : (around : HtmlContext) (here k : ℕ) (text doc : List ℕ) (rest : Written)
    → cells_left around here (suc k) (Chars text doc rest) ≡ cells_left around (here + 1) k rest
left_text around here k text doc rest = same_found _ _ _ _ (at_text text doc rest k)
    (λ whole found. ap (λ place. cells_in (cells_from around (here + 1) rest) place whole) (place_next here k))

module _ (around : HtmlContext) (here : ℕ) (element : Element) (inside rest : Written) where
  abbrev own : List CellAt
  own = cell_by around here element (row_for element)

  abbrev within : HtmlContext
  within = context_in element inside (row_for element) around

  -- the element sought stands here
  pub left_here : cells_left around here 0 (Node element inside rest) ≡ cells_of around here (element, inside)
  left_here =
      let below = cells_from within (here + 1) inside in
      let behind = cells_from around (here + 1 + size inside) rest in
      let whole : Whole = (element, inside) in
      let there : here + 0 ≡ here = omega arith in
      let test = stands_in here whole in
      ap (λ place. cells_in ((own ++ below) ++ behind) place whole) there
      ∙ filter-append test (own ++ below) behind
      ∙ rw (
        joined_kept test true own below
            (cell_kept test true around here element (row_for element)
            (λ cell is. stands here whole cell (omega (arith, is)) (omega (arith, is))))
            (cells_kept test true within (here + 1) inside
            (λ cell from to. stands here whole cell (omega (arith, from)) (omega (arith, to)))),
        cells_kept test false around (here + 1 + size inside) rest
            (λ cell from to. stands_behind here whole cell from),
      ) (append-nil (own ++ below))

  -- it stands below
  pub left_inside : (k : ℕ) → k < size inside
      → cells_left around here (suc k) (Node element inside rest) ≡ cells_left within (here + 1) k inside
  left_inside k low = same_found _ _ _ _ (at_inside element inside rest k low) (λ whole found.
      let below = cells_from within (here + 1) inside in
      let behind = cells_from around (here + 1 + size inside) rest in
      let place = here + suc k in
      let fits = found_fits inside k whole found in
      let test = stands_in place whole in
      filter-append test (own ++ below) behind
      ∙ ap (λ cells. cells ++ filter test behind) (filter-append test own below)
      ∙ rw (
        cell_kept test false around here element (row_for element)
            (λ cell is. stands_before place whole cell (omega (arith, is))),
        cells_kept test false around (here + 1 + size inside) rest
            (λ cell from to. stands_behind place whole cell (omega (arith, from, fits))),
      )
      (append-nil (filter test below))
      ∙ ap (λ p. cells_in below p whole) (place_next here k))

  -- it stands behind
  pub left_behind : (k : ℕ) → size inside ≤ k → cells_left around here (suc k) (Node element inside rest)
      ≡ cells_left around (here + 1 + size inside) (k - size inside) rest
  left_behind k high = same_found _ _ _ _ (at_behind element inside rest k high) (λ whole found.
      let below = cells_from within (here + 1) inside in
      let behind = cells_from around (here + 1 + size inside) rest in
      let place = here + suc k in
      let there : here + suc k ≡ here + 1 + size inside + (k - size inside) = omega (arith, high) in
      let test = stands_in place whole in
      filter-append test (own ++ below) behind
      ∙ ap (λ cells. cells ++ filter test behind) (filter-append test own below)
      ∙ rw (
        cell_kept test false around here element (row_for element)
            (λ cell is. stands_before place whole cell (omega (arith, is))),
        cells_kept test false within (here + 1) inside
            (λ cell from to. stands_before place whole cell (omega (arith, to, high))),
      ) refl
      ∙ ap (λ p. cells_in behind p whole) there)
