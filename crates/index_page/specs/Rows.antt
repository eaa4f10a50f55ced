-- The rows that are written: entries without the texts of the levels above (own).
use Rattle.std.specs.Prelude.{Bool, List, map}
use Rattle.std.specs.List.{list_all}
use Rattle.dita_doc.specs.declared.content.TermEntry.{TermEntry}
use Rattle.html_spec.specs.Terms.{ends}
use Rattle.index_page.specs.declared.rows.TermRow.{TermRow}

abbrev pub entry_of : TermRow → TermEntry
entry_of row = record { path = row.path.now; page = row.page }

abbrev pub entries_of : List TermRow → List TermEntry
entries_of rows = map entry_of rows

abbrev pub all_end : List TermRow → Bool
all_end rows = list_all (λ row. ends (entry_of row)) rows
