use Rattle.std.proofs.Common.{◌≡◌, ℕ, List, drop}
use Rattle.std.specs.Map.{keys_of}
use Rattle.html_spec.specs.Terms.{below, texts_of}
use Rattle.index_page.specs.Rows.{entries_of}
use Rattle.index_page.proofs.GroupLaws.{with_rows, with_texts}
use Rattle.index_page.proofs.groups.grouped.Given as goal

abbrev pub invariant-loop-row : goal.invariant-loop-row
invariant-loop-row l = record {
  texts : with_texts (keys_of l.groups.entries) (drop l.row-index l.rows) ≡ texts_of (entries_of l.rows);
  rows : (text : List ℕ) → with_rows l.groups.entries (drop l.row-index l.rows) text ≡ below text (entries_of l.rows);
}
