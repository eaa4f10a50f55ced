-- Cells of tables in small documents, computed. Expected values are put together by hand from the rule.
use Prim.Native.String.{String}
use Rattle.std.specs.Prelude.{◌≡◌, ℕ, Bool, true, false, List, [], ◌∷◌, ◌++◌, codes, refl}
use Rattle.dita_doc.specs.declared.doc.Attribute.{Attribute}
use Rattle.html_tables.specs.Walk.{cells_at, cells_of}
use Rattle.map_spec.specs.Written.{Element, Written, End, Node, side_by_side}
use Rattle.html_spec.specs.Blocks.{CellAt, outside}

-- Documents in a short form

abbrev given : String → String → Attribute
given name value = record { name = codes name; value = codes value }

abbrev typed : String → List Attribute → Element
typed name attributes = record {
  name = codes name;
  attributes = record { name = codes "class"; value = codes "- topic/" ++ codes name ++ codes " " } ∷ attributes;
  doc = [];
  line = 0;
  href_doc = [];
}

abbrev all : List Written → Written
all [] = End
all (nodes ∷ others) = side_by_side nodes (all others)

abbrev bare : String → List Written → Written
bare name inside = Node (typed name []) (all inside) End

abbrev column : String → Written
column name = Node (typed "colspec" (given "colname" name ∷ [])) End End

-- from the column `a` to `b`
abbrev across : String → Written
across name = Node (typed name (given "namest" "a" ∷ given "nameend" "b" ∷ [])) End End

abbrev cell : ℕ → Bool → ℕ → CellAt
cell place head columns = record { place = place; head = head; rows = 1; columns = columns }

-- Tables in tables

-- a simple table in an entry, behind the columns of a group; and an entry stands in the simple table, too
abbrev in_entry : Written
in_entry = bare "table" (bare "tgroup" (column "a" ∷ column "b" ∷ bare "tbody" (bare "row" (bare "entry"
    (bare "simpletable" (bare "strow" (bare "stentry" [] ∷ across "entry" ∷ []) ∷ []) ∷ []) ∷ across "entry" ∷ []) ∷ [])
    ∷ []) ∷ [])

-- it has the columns around it
spans_in_entry : cells_at in_entry 7 ≡ cell 9 false 1 ∷ cell 10 false 2 ∷ []
spans_in_entry = refl

-- the table around it has its own cells and those
spans_around : cells_at in_entry 0 ≡ cell 6 false 1 ∷ cell 9 false 1 ∷ cell 10 false 2 ∷ cell 11 false 2 ∷ []
spans_around = refl

-- a group of its own, which has no column `a`
abbrev own_group : Written
own_group = bare "table" (bare "tgroup" (column "a" ∷ column "b" ∷ bare "tbody" (bare "row" (bare "entry"
    (bare "table" (bare "tgroup" (column "b" ∷ bare "tbody" (bare "row" (across "entry" ∷ []) ∷ []) ∷ []) ∷ []) ∷ [])
    ∷ []) ∷ []) ∷ []) ∷ [])

spans_by_own_group : cells_at own_group 7 ≡ cell 12 false 1 ∷ []
spans_by_own_group = refl

-- Heads

abbrev group : Written
group = bare "tgroup" (bare "thead" (bare "row" (bare "entry" (bare "simpletable" (bare "strow" (bare "stentry" []
    ∷ bare "entry" [] ∷ []) ∷ []) ∷ bare "table" (bare "row" (bare "entry" [] ∷ []) ∷ []) ∷ []) ∷ []) ∷ [])
    ∷ bare "tbody" (bare "row" (bare "entry" [] ∷ []) ∷ []) ∷ [])

abbrev in_head : Written
in_head = bare "table" (group ∷ [])

-- a row in the head of a table: its cells head their columns, up to a table within
heads_of_row : cells_at in_head 3 ≡ cell 4 true 1 ∷ cell 7 false 1 ∷ cell 8 true 1 ∷ cell 11 false 1 ∷ []
heads_of_row = refl

-- the simple table in it, and the table in it
heads_of_simple : cells_at in_head 5 ≡ cell 7 false 1 ∷ cell 8 true 1 ∷ []
heads_of_simple = refl

heads_of_table : cells_at in_head 9 ≡ cell 11 false 1 ∷ []
heads_of_table = refl

-- Tables in no other

-- a table that stands in no other has the cells that it has by itself
alone : cells_at in_head 0 ≡ cells_of outside 0 (typed "table" [], group)
alone = refl

-- where no element stands there is none
none_behind : cells_at in_head 16 ≡ []
none_behind = refl
