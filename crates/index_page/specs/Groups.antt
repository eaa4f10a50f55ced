-- The rows of a level by their first texts (own).
use Rattle.std.specs.Prelude.{◌≡◌, ℕ, List, [], ◌∷◌, if◌then◌else◌}
use Rattle.std.specs.BTreeMap.{is_at}
use Rattle.std.specs.Map.{keys_of, lookup}
use Rattle.std.specs.Option.{option_map_or}
use Rattle.std.specs.Ordering.{is_eq}
use Rattle.std.specs.declared.alloc.Global.{Global}
use Rattle.std.specs.declared.vec.Vec.{Vec}
use Rattle.dita_doc.specs.TextOrder.{text_cmp}
use Rattle.dita_doc.specs.declared.content.TermEntry.{TermEntry}
use Rattle.html_spec.specs.Terms.{below, texts_of}
use Rattle.index_page.specs.Rows.{entries_of}
use Rattle.index_page.specs.declared.rows.TermRow.{TermRow}

-- rows by a text
abbrev pub Groups : Type 0
Groups = List (List ℕ × Vec TermRow Global)

-- the rows that were put at a text
abbrev pub listed : List ℕ → Groups → List TermRow
listed text groups =
    option_map_or (λ (rows : Vec TermRow Global). rows.items) (lookup (is_at (text_cmp text)) groups) []

abbrev pub if_there : List ℕ → List ℕ → TermRow → List TermRow
if_there text there row = if is_eq (text_cmp there text) then row ∷ [] else []

-- the first texts of entries, each with what stands below it
pub record AreGroups (groups : Groups) (entries : List TermEntry) : Type 0 where
  pub texts : keys_of groups ≡ texts_of entries
  pub rows : (text : List ℕ) → entries_of (listed text groups) ≡ below text entries
