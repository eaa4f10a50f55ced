-- The transcript of what was served tells what was made: each build shows the serials of the rows that it cites, and each
-- row line is of one of them.
use Rattle.std.proofs.Common.{◌≡◌, ℕ, List, [], ◌∷◌, ◌++◌, Option, Some, Contains, ap, ◌∙◌, append-nil, length, map, nat_cmp, refl, subst, sym}
use Rattle.std.specs.List.Sorted.{IsStrictlySortedBy}
use Rattle.std.specs.Map.{keys_of, values_of}
use Rattle.dita_doc.specs.Bytes.{Bytes}
use Rattle.facts.specs.Rows.{RowData, row_data}
use Rattle.facts.specs.Table.{made}
use Rattle.run_spec.specs.HistoryTold.{cited_by}
use Rattle.transcript_text.specs.Transcript.{EntryShown, Fits64, RowShown, Totals, end_head, head_text}
use Rattle.transcript_text.specs.declared.built.BuiltText.{BuiltText}
use Rattle.desk_core.specs.Book.{BookData}
use Rattle.desk_work.specs.declared.built.Outcome.{Outcome}
use Rattle.desk_work.specs.declared.built.Outcome.TheVariants.{Done, Stopped, TooLarge}
use Rattle.desk_work.specs.declared.built.PageRow.{PageRow}
use Rattle.desk_top.specs.Again.{serials_in}
use Rattle.desk_top.specs.Cited.{AreShown, rows_in_all, rows_of_build, with_rows}
use Rattle.desk_top.specs.Given.{rows_of}
use Rattle.desk_top.specs.Served.{IsServed}
use Rattle.desk_top.specs.TextMade.{TellsBatch, TellsMade}
use Rattle.desk_top.specs.Told.{AreToldOf, TellsEntries, TellsRows, row_seen}
use Rattle.desk_top.specs.declared.callers.BuiltAt.{BuiltAt}
use Rattle.desk_top.proofs.CiteLaws.{pages_serials, shown_of}
use Rattle.desk_top.proofs.ElementLaws.{contained_stands, from_lists, mapped, stands_contained}
use Rattle.desk_top.proofs.KeptLaws.{kept_among}
use Rattle.desk_top.proofs.RowToldLaws.{serial_shown, shown_of_row}
use Rattle.desk_top.proofs.ShownLaws.{data_of}
use Rattle.desk_top.proofs.WholeLaws.{shows_outcome, whole_history}

serials_of_pages : (pages : List PageRow) → map (λ (page : PageRow). page.row.serial) pages
    ≡ serials_in (map (λ (page : PageRow). row_data page.row) pages)
serials_of_pages [] = refl
serials_of_pages (page ∷ pages) = ap (λ (rest : List ℕ). page.row.serial ∷ rest) (serials_of_pages pages)

-- what is shown of a build cites the rows that it names
outcome_cites : (outcome : Outcome) → cited_by (shown_of outcome) ≡ serials_in (rows_of outcome)
outcome_cites (Done pages faults) = pages_serials pages ∙ serials_of_pages pages
outcome_cites (Stopped stop) = refl
outcome_cites (TooLarge total) = refl

pub tells_made : (book : BookData) (built : List BuiltAt) (shown : List (Option BuiltText))
    (served : IsServed book.store.history built) (are : AreShown shown built) (told : List EntryShown)
    (rows : List RowShown) (totals : Totals) → AreToldOf book.store.history shown told
    → map Some rows ≡ map row_seen (values_of (with_rows [] (rows_in_all built)))
    → totals.made ≡ made book.table → totals.dropped ≡ book.table.dropped
    → TellsMade book built (record { entries = told; rows = rows; totals = totals })
tells_made book built shown served are told rows totals tells lines made_is dropped_is = record {
  made = made_is;
  dropped = dropped_is;
  cites = λ given entry stands there.
      ap cited_by (shows_outcome book.store.history built shown served are rows lines told tells given entry
      (stands_contained built given stands) there)
      ∙ outcome_cites given.outcome;
  rows = λ at row there. (
      let of = shown_of_row (values_of (with_rows [] (rows_in_all built))) rows row lines
      (stands_contained rows row (at, there)) in
      let by = from_lists rows_of_build built of.row (kept_among (rows_in_all built) of.row of.among) in
      record {
        given = by.one;
        stands = contained_stands built by.one by.among;
        cited = contained_stands (serials_in (rows_of by.one.outcome)) row.serial
            (subst (Contains (serials_in (rows_of by.one.outcome))) (sym (serial_shown of.row row of.is))
            (mapped (λ (one : RowData). one.serial) (rows_of by.one.outcome) (row_data of.row)
            (data_of by.one.outcome of.row by.has)));
      });
}

-- The whole: the head, all entries, rows and the end tell the history, and what was made
pub whole_batch : (book : BookData) (built : List BuiltAt) (shown : List (Option BuiltText))
    (served : IsServed book.store.history built) (are : AreShown shown built) (totals : Totals)
    (first entries rows text : Bytes)
    (told : TellsEntries book.store.history shown (length book.store.history) first entries)
    (lines : TellsRows (values_of (with_rows [] (rows_in_all built))) [] entries rows)
    → IsStrictlySortedBy nat_cmp (keys_of (with_rows [] (rows_in_all built)))
    → Fits64 totals.entries → Fits64 totals.made → Fits64 totals.dropped → first ≡ head_text
    → totals.entries ≡ length book.store.history → totals.made ≡ made book.table
    → totals.dropped ≡ book.table.dropped → text ≡ rows ++ (end_head totals ++ 10 ∷ []) → TellsBatch book built text
whole_batch book built shown served are totals first entries rows text told lines sorted fits_entries fits_made
    fits_dropped head entries_are made_are dropped_are end =
    let whole = whole_history book.store.history built shown served are totals first entries rows text told lines sorted
    fits_entries fits_made fits_dropped head entries_are end in
    record {
      tells = whole.0;
      made = subst (TellsMade book built) (sym whole.1) (tells_made book built shown served are told.told lines.shown
          totals told.are (sym (append-nil (map Some lines.shown)) ∙ lines.are) made_are dropped_are);
    }
