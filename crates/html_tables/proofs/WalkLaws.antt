-- Walks over tables: the cells that were met, and where what an element holds stands.
use Rattle.std.specs.Prelude.{◌≡◌, ◌+◌, ℕ, Bool, true, false, List, [], ◌∷◌, ◌++◌, Some, None, Result, Ok, Err, OnOk, codes, is_ok, map, if◌then◌else◌}
use Rattle.std.proofs.Common.{refl, sym, ap, ◌∙◌, append_assoc, subst}
use Rattle.std.proofs.lemmas.List.{append-nil, map-append}
use Rattle.html_forms.specs.Shown.{row_among}
use Rattle.html_tables.specs.declared.context.TableContext.{TableContext}
use Rattle.html_tables.specs.declared.groups.Groups.{Groups}
use Rattle.html_tables.specs.declared.table.Cell.{Cell}
use Rattle.html_tables.specs.declared.table.Walk.{Walk}
use Rattle.html_tables.specs.Walk.{HasCellsMore, HasColumns, HasWithin, IsContext, KeepsGroups, columns_within, shown_cell}
use Rattle.map_spec.specs.Elements.{tokens_of}
use Rattle.map_spec.specs.Written.{Element, Written, Chars, Node, size}
use Rattle.html_spec.specs.Blocks as blocks
use Rattle.html_spec.specs.Blocks.{CellAt, HtmlContext, Form, cell_by, cells_from, columns_in, context_in, head_in, is_type, row_for, simple_head_in, topic_in, within_type}
use Rattle.html_spec.specs.Tables.{columns_of, is_column_group, rows_of}

-- Contexts

pub kept_context : (old new : Groups) (tables : TableContext) (around : HtmlContext) → KeepsGroups old new
    → IsContext old tables around → IsContext new tables around
kept_context old new tables around kept is = record {
  head = is.head;
  simple_head = is.simple_head;
  columns = kept tables.group around.columns is.columns;
}

module _ (element : Element) (inside : Written) (around : HtmlContext) where
  columns_by : (group : Bool) → is_column_group element ≡ group
      → (columns_in element inside around).columns ≡ columns_within (tokens_of element) inside around.columns
  columns_by true e = rw e refl
  columns_by false e = rw e refl

  head_by : (group : Bool) → is_column_group element ≡ group → (columns_in element inside around).head ≡ around.head
  head_by true e = rw e refl
  head_by false e = rw e refl

  simple_by : (group : Bool) → is_column_group element ≡ group
      → (columns_in element inside around).simple_head ≡ around.simple_head
  simple_by true e = rw e refl
  simple_by false e = rw e refl

  topic_by : (token : List ℕ) (topic : Bool) → is_type (codes "topic") token ≡ topic
      → (within_type token element around).columns ≡ around.columns
  topic_by token true e = rw e refl
  topic_by token false e = rw e refl

module _ (old new : Groups) (tables within : TableContext) (element : Element) (inside : Written) (around : HtmlContext)
    (is : IsContext old tables around)
    (nearest : HasColumns new within.group (columns_within (tokens_of element) inside around.columns)) where
  -- what an element of no form holds
  pub context_beside : within.head ≡ tables.head → within.simple_head ≡ tables.simple_head
      → IsContext new within (context_in element inside None around)
  context_beside head simple = record {
    head = head ∙ is.head ∙ sym (head_by element inside around (is_column_group element) refl);
    simple_head = simple ∙ is.simple_head ∙ sym (simple_by element inside around (is_column_group element) refl);
    columns = subst (HasColumns new within.group) (sym (columns_by element inside around (is_column_group element) refl)) nearest;
  }

  -- what an element of a form holds
  pub context_within : (row : List ℕ × Form) → within.head ≡ head_in row.0 tables.head
      → within.simple_head ≡ simple_head_in row.0 tables.simple_head
      → IsContext new within (context_in element inside (Some row) around)
  context_within row head simple =
      let typed = within_type row.0 element around in
      let same = ap (columns_within (tokens_of element) inside)
      (topic_by element inside around row.0 (is_type (codes "topic") row.0) refl) in
      record {
        head = head ∙ ap (head_in row.0) is.head ∙ sym (head_by element inside typed (is_column_group element) refl);
        simple_head = simple ∙ ap (simple_head_in row.0) is.simple_head
            ∙ sym (simple_by element inside typed (is_column_group element) refl);
        columns = subst (HasColumns new within.group)
            (sym (columns_by element inside typed (is_column_group element) refl ∙ same)) nearest;
      }

-- Cells

-- a cell of a table
pub cell_of_table : (place : ℕ) (element : Element) (token : List ℕ) (around : HtmlContext) (head : Bool)
    (rows columns : ℕ)
    → head ≡ around.head → rows ≡ rows_of element → columns ≡ columns_of around.columns element
    → ◌≡◌ {A = List CellAt} (record { place = place; head = head; rows = rows; columns = columns } ∷ [])
    (cell_by around place element (Some (token, blocks.Cell)))
cell_of_table place element token around head rows columns heads spans across = rw (heads, spans, across) refl

-- one more cell
pub cell_more : (old : List Cell) (new : List Cell) (cell : Cell) (some : List CellAt) → new ≡ old ++ cell ∷ []
    → shown_cell cell ∷ [] ≡ some → map shown_cell new ≡ map shown_cell old ++ some
cell_more old new cell some is shown =
    ap (map shown_cell) is ∙ map-append shown_cell old (cell ∷ []) ∙ ap (λ more. map shown_cell old ++ more) shown

-- none
pub cell_none : (old : List Cell) (some : List CellAt) → [] ≡ some → map shown_cell old ≡ map shown_cell old ++ some
cell_none old some none = sym (append-nil (map shown_cell old)) ∙ ap (λ more. map shown_cell old ++ more) none

pub none_more : (old new : List Cell) (some : List CellAt) → new ≡ old → [] ≡ some
    → map shown_cell new ≡ map shown_cell old ++ some
none_more old new some same none = ap (map shown_cell) same ∙ cell_none old some none

-- a cell that is pushed, if there is memory
pub pushed_cell : {T E : Type 0} (result : Result T E) (old new : List Cell) (cell : Cell) (some : List CellAt)
    → new ≡ (if is_ok result then old ++ cell ∷ [] else old) → shown_cell cell ∷ [] ≡ some
    → OnOk result (map shown_cell new ≡ map shown_cell old ++ some)
pushed_cell (Ok done) old new cell some is shown = cell_more old new cell some is shown
pushed_cell (Err error) old new cell some is shown = tt

-- An element is met

module _ (old new : Groups) (tables within : TableContext) (element : Element) (inside : Written) (around : HtmlContext)
    (tokens : List (List ℕ)) (is : IsContext old tables around) (words : tokens ≡ tokens_of element)
    (nearest : HasColumns new within.group (columns_within tokens inside around.columns)) where
  near : HasColumns new within.group (columns_within (tokens_of element) inside around.columns)
  near = subst (λ all. HasColumns new within.group (columns_within all inside around.columns)) words nearest

  -- one of no form
  pub within_none : None ≡ row_among tokens → within.head ≡ tables.head → within.simple_head ≡ tables.simple_head
      → HasWithin new within element inside around
  within_none none head simple =
      let row : row_for element ≡ None = sym (none ∙ ap row_among words) in
      subst (λ found. IsContext new within (context_in element inside found around)) (sym row)
      (context_beside old new tables within element inside around is near head simple)

  -- one of a form
  pub within_some : (token : List ℕ) (form : Form) → Some (token, form) ≡ row_among tokens
      → within.head ≡ head_in token tables.head → within.simple_head ≡ simple_head_in token tables.simple_head
      → HasWithin new within element inside around
  within_some token form some head simple =
      let row : row_for element ≡ Some (token, form) = sym (some ∙ ap row_among words) in
      subst (λ found. IsContext new within (context_in element inside found around)) (sym row)
      (context_within old new tables within element inside around is near (token, form) head simple)

-- what cells are met, and what are left
pub record AreOnTheWay (old new : Walk) (all left : List CellAt) : Type 0 where
  pub kept : KeepsGroups old.groups new.groups
  pub cells : map shown_cell old.cells ++ all ≡ map shown_cell new.cells ++ left

pub way_ends : (old new : Walk) (all left : List CellAt) → left ≡ [] → AreOnTheWay old new all left
    → HasCellsMore old new all
way_ends old new all left none way = record {
  kept = way.kept;
  cells = sym (way.cells ∙ ap (λ more. map shown_cell new.cells ++ more) none ∙ append-nil (map shown_cell new.cells));
}

pub way_same : (old new : Walk) (all left more : List CellAt) → left ≡ more → AreOnTheWay old new all left
    → AreOnTheWay old new all more
way_same old new all left more same way = subst (AreOnTheWay old new all) same way

pub way_more : (old new next : Walk) (all left some more : List CellAt) → left ≡ some ++ more
    → HasCellsMore new next some → AreOnTheWay old new all left → AreOnTheWay old next all more
way_more old new next all left some more same has way = record {
  kept = λ group names known. has.kept group names (way.kept group names known);
  cells = way.cells
      ∙ ap (λ cells. map shown_cell new.cells ++ cells) same
      ∙ sym (append_assoc (map shown_cell new.cells) some more)
      ∙ ap (λ cells. cells ++ more) (sym has.cells);
}

-- some cells more, and again
pub more_again : (old new next : Walk) (first second : List CellAt) → HasCellsMore old new first
    → HasCellsMore new next second → HasCellsMore old next (first ++ second)
more_again old new next first second one two = record {
  kept = λ group names known. two.kept group names (one.kept group names known);
  cells = two.cells ∙ ap (λ cells. cells ++ second) one.cells ∙ append_assoc (map shown_cell old.cells) first second;
}

-- Sizes

module _ (around : HtmlContext) (here : ℕ) (nodes : Written) where
  -- an element, what it holds, and what comes behind it
  pub cells_first : (element : Element) (inside rest : Written) (past : ℕ) → nodes ≡ Node element inside rest
      → past ≡ here + 1 + size inside
      → cells_from around here nodes ≡ (cell_by around here element (row_for element)
      ++ cells_from (context_in element inside (row_for element) around) (here + 1) inside)
      ++ cells_from around past rest
  cells_first element inside rest past first behind = rw (first, behind) refl

  pub cells_text : (text doc : List ℕ) (rest : Written) → nodes ≡ Chars text doc rest
      → cells_from around here nodes ≡ cells_from around (here + 1) rest
  cells_text text doc rest first = ap (cells_from around here) first
