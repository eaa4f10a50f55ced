-- The cells of a table; and what a walk over tables knows on its way: each node stands under the name at its origin's
-- place, and each group that was met has its columns.
use Rattle.std.specs.Prelude.{◌≡◌, ◌+◌, ◌++◌, ◌&&◌, ℕ, Bool, List, [], ◌∷◌, Option, Some, None, bytes_eq, codes, filter, length, map, nat_le, nat_lt, slice_get, if◌then◌else◌}
use Rattle.std.specs.BTreeMap.{get_by_text}
use Rattle.std.specs.List.{list_any}
use Rattle.std.specs.Option.{option_map_or, option_or}
use Rattle.dita_doc.specs.Siblings.{content}
use Rattle.dita_doc.specs.declared.doc.Node as doc
use Rattle.dita_doc.specs.declared.siblings.Siblings.{Siblings}
use Rattle.doc_elements.specs.Walk as walk
use Rattle.html_tables.specs.declared.columns.Columns.{Columns}
use Rattle.html_tables.specs.declared.context.TableContext.{TableContext}
use Rattle.html_tables.specs.declared.groups.Groups.{Groups}
use Rattle.html_tables.specs.declared.table.Cell.{Cell}
use Rattle.html_tables.specs.declared.table.Walk.{Walk}
use Rattle.map_spec.specs.Written.{Element, Whole, Written, element_at, size}
use Rattle.html_spec.specs.Blocks.{CellAt, HtmlContext, cell_by, cells_from, context_in, outside, row_for}
use Rattle.html_spec.specs.Tables.{column_at, column_names}
use Rattle.readers.specs.Named.{name_at, under_names}

-- Cells

abbrev pub shown_cell : Cell → CellAt
shown_cell cell = record { place = cell.place; head = cell.head; rows = cell.rows; columns = cell.columns }

-- whether a cell stands at an element's place, or below the element
abbrev pub stands_in : ℕ → Whole → CellAt → Bool
stands_in place whole cell = nat_le place cell.place && nat_lt cell.place (place + 1 + size whole.1)

-- those of some cells that do
abbrev pub cells_in : List CellAt → ℕ → Whole → List CellAt
cells_in cells place whole = filter (stands_in place whole) cells

-- the cells of the element at a place: those of the whole document that stand there or below. So each heads and spans
-- what it does on the page, where a table stands in another too
abbrev pub cells_at : Written → ℕ → List CellAt
cells_at nodes table = option_map_or (cells_in (cells_from outside 0 nodes) table) (element_at nodes table) []

-- the cells of an element that stands at a place, within this: itself, if it is one, and those in it
abbrev pub cells_of : HtmlContext → ℕ → Whole → List CellAt
cells_of around place whole = cell_by around place whole.0 (row_for whole.0)
    ++ cells_from (context_in whole.0 whole.1 (row_for whole.0) around) (place + 1) whole.1

-- What siblings are

abbrev pub content_named : List (List ℕ) → Siblings → Written
content_named names siblings = under_names names (content siblings)

abbrev pub element_named : List (List ℕ) → doc.Node → Element
element_named names node = walk.element_of (name_at names node.origin) node

-- Columns

abbrev pub Names : Type 0
Names = List (Option (List ℕ))

-- a place for a name, unless it has one
abbrev pub or_at : Option ℕ → Bool → ℕ → Option ℕ
or_at found is place = option_or found (if is then Some place else None)

-- the columns have these names, and each name its place
pub record AreColumns (columns : Columns) (names : Names) : Type 0 where
  pub count : columns.count ≡ length names
  pub places : (name : List ℕ) → get_by_text columns.places name ≡ column_at names (Some name)

-- this name has the place of the next column, unless it had one
pub record HasNameMore (old new : Columns) (name : List ℕ) : Type 0 where
  pub count : new.count ≡ old.count
  pub places : (other : List ℕ) → get_by_text new.places other
      ≡ or_at (get_by_text old.places other) (bytes_eq name other) old.count

-- one more column is counted
pub record HasCountMore (old new : Columns) : Type 0 where
  pub count : new.count ≡ old.count + 1
  pub places : new.places ≡ old.places

-- Groups

-- the group of this number has columns of these names
pub record IsGroupAt (groups : Groups) (number : ℕ) (names : Names) : Type 0 where
  pub columns : Columns
  pub here : slice_get groups.groups number ≡ Some columns
  pub are : AreColumns columns names

-- the nearest group has columns of these names; there are none where no group is around
abbrev pub HasColumns : Groups → Option ℕ → Names → Type 0
HasColumns groups None names = names ≡ []
HasColumns groups (Some number) names = IsGroupAt groups number names

-- groups that were known before are known now
abbrev pub KeepsGroups : Groups → Groups → Type 0
KeepsGroups old new = (group : Option ℕ) (names : Names) → HasColumns old group names → HasColumns new group names

-- the columns around what an element of these tokens holds
abbrev pub columns_within : List (List ℕ) → Written → Names → Names
columns_within tokens inside names =
    if list_any (bytes_eq (codes "topic/tgroup")) tokens then column_names inside else names

-- where an element stands, as the definition has it
pub record IsContext (groups : Groups) (tables : TableContext) (context : HtmlContext) : Type 0 where
  pub head : tables.head ≡ context.head
  pub simple_head : tables.simple_head ≡ context.simple_head
  pub columns : HasColumns groups tables.group context.columns

-- Walks

-- a walk met these cells more, and keeps its groups
pub record HasCellsMore (old new : Walk) (some : List CellAt) : Type 0 where
  pub kept : KeepsGroups old.groups new.groups
  pub cells : map shown_cell new.cells ≡ map shown_cell old.cells ++ some

-- what an element holds stands within this, by the groups that were met
abbrev pub HasWithin : Groups → TableContext → Element → Written → HtmlContext → Type 0
HasWithin groups within element inside around = IsContext groups within (context_in element inside (row_for element) around)

-- a walk met an element, and knows where what it holds stands
pub record HasEntered (old new : Walk) (within : TableContext) (place : ℕ) (element : Element) (inside : Written)
    (around : HtmlContext) : Type 0 where
  pub more : HasCellsMore old new (cell_by around place element (row_for element))
  pub context : HasWithin new.groups within element inside around

-- a cell, if there is one, as it is shown
abbrev pub cells_shown : Option Cell → List CellAt
cells_shown None = []
cells_shown (Some cell) = shown_cell cell ∷ []
