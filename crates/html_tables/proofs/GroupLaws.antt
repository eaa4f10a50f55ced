-- The groups that were met, with one more.
use Rattle.std.specs.Prelude.{◌≡◌, ◌==◌, ℕ, Bool, true, false, List, [], ◌∷◌, ◌++◌, Some, None, bytes_eq, codes, length, not, slice_get}
use Rattle.std.specs.List.{list_any}
use Rattle.std.proofs.Common.{refl, ap, ◌∙◌}
use Rattle.dita_doc.proofs.Lists.{get_front, get_pushed}
use Rattle.html_tables.specs.declared.columns.Columns.{Columns}
use Rattle.html_tables.specs.declared.groups.Groups.{Groups}
use Rattle.html_tables.specs.Walk.{AreColumns, IsGroupAt, KeepsGroups, Names, columns_within}
use Rattle.map_spec.specs.Elements.{is_dita, is_transparent, tokens_of}
use Rattle.map_spec.specs.Written.{Element, Written}
use Rattle.html_spec.specs.Tables.{column_names}

-- the others are kept
pub kept_groups : (old new : Groups) (columns : Columns) → new.groups ≡ old.groups ++ columns ∷ []
    → KeepsGroups old new
kept_groups old new columns is None names has = has
kept_groups old new columns is (Some number) names has = record {
  columns = has.columns;
  here = ap (λ items. slice_get items number) is
      ∙ get_front old.groups (columns ∷ []) number has.columns has.here;
  are = has.are;
}

-- the new one has its columns
pub new_group : (old new : Groups) (columns : Columns) (number : ℕ) (names : Names)
    → new.groups ≡ old.groups ++ columns ∷ [] → number ≡ length old.groups
    → AreColumns columns names → IsGroupAt new number names
new_group old new columns number names is at are = record {
  columns = columns;
  here = rw (is, at) (get_pushed old.groups columns);
  are = are;
}

-- an element that is a group, and another
pub within_group : (tokens : List (List ℕ)) (inside : Written) (names : Names)
    → true ≡ list_any (bytes_eq (codes "topic/tgroup")) tokens → column_names inside ≡ columns_within tokens inside names
within_group tokens inside names is = rw (← is) refl

pub within_other : (tokens : List (List ℕ)) (inside : Written) (names : Names)
    → false ≡ list_any (bytes_eq (codes "topic/tgroup")) tokens → names ≡ columns_within tokens inside names
within_other tokens inside names is = rw (← is) refl

-- an element without a token is transparent, unless it is `dita`
pub transparent_none : (element : Element) (tokens : List (List ℕ)) (dita : Bool)
    → true ≡ (length tokens == 0) → dita ≡ is_dita element
    → tokens ≡ tokens_of element → not dita ≡ is_transparent element
transparent_none element tokens dita none is same = rw (is, ← same, ← none) refl

pub transparent_some : (element : Element) (tokens : List (List ℕ))
    → false ≡ (length tokens == 0) → tokens ≡ tokens_of element → false ≡ is_transparent element
transparent_some element tokens some same = rw (← same, ← some) refl
