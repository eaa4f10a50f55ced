-- Cells of tables (DITA 1.3, "Table elements", "The @morerows attribute", "The @namest and @nameend attributes"): how many
-- rows and columns they span, and which head a column. The limit on rows is our own.
use Rattle.std.specs.Prelude.{◌+◌, ◌-◌, ◌==◌, ◌&&◌, ℕ, Bool, not, List, Option, Some, None, filter, length, map, nat_le, nat_lt, codes, if◌then◌else◌}
use Rattle.std.specs.List.{list_all}
use Rattle.std.specs.Option.{option_map_or}
use Rattle.std.specs.Str.Parse.{digits_value}
use Rattle.dita_doc.specs.Bytes.{is_digit}
use Rattle.map_spec.specs.Elements.{attribute, children, is_a, is_value, is_whole}
use Rattle.map_spec.specs.Pages.{place_of}
use Rattle.map_spec.specs.Written.{Element, Whole, Written}

-- Rows

abbrev pub row_limit : ℕ
row_limit = 9999

abbrev pub is_decimal : List ℕ → Bool
is_decimal text = not (length text == 0) && list_all is_digit text

-- a cell spans its own row and as many more as it says, if that is a number within the limit
abbrev pub rows_said : List ℕ → ℕ
rows_said value =
    if is_decimal value && nat_le 1 (digits_value 10 value) && nat_le (digits_value 10 value) row_limit
    then digits_value 10 value + 1 else 1

abbrev pub rows_of : Element → ℕ
rows_of element = option_map_or rows_said (attribute (codes "morerows") element) 1

-- Columns

-- the names of a group's columns, in order; a column may have none
abbrev pub column_names : Written → List (Option (List ℕ))
column_names inside = map (λ (column : Whole). attribute (codes "colname") column.0)
    (filter (is_whole (codes "topic/colspec")) (children inside))

-- of equal names the first counts
abbrev pub column_at : List (Option (List ℕ)) → Option (List ℕ) → Option ℕ
column_at names None = None
column_at names (Some name) = place_of (is_value name) 0 names

abbrev pub columns_from : Option ℕ → Option ℕ → ℕ
columns_from None end = 1
columns_from (Some first) None = 1
columns_from (Some first) (Some last) = if nat_lt first last then last - first + 1 else 1

-- a cell spans the columns from one to another, if these rise
abbrev pub columns_of : List (Option (List ℕ)) → Element → ℕ
columns_of names element = columns_from
    (column_at names (attribute (codes "namest") element)) (column_at names (attribute (codes "nameend") element))

abbrev pub is_column_group : Element → Bool
is_column_group element = is_a (codes "topic/tgroup") element
