-- The whole transcript of a history that was served: each build shows what the clean build gives, by rows of the text,
-- and each of these is cited.
use Rattle.std.proofs.Common.{◌≡◌, ◌<◌, ◌++◌, ℕ, zero, suc, List, [], ◌∷◌, Option, Some, IfSome, All, Contains, ap, ◌∙◌, append-nil, flat_map, get_or, length, map, nat_cmp, refl, subst, sym, arith}
use Rattle.std.specs.List.{slice_get}
use Rattle.std.specs.List.Sorted.{IsStrictlySortedBy}
use Rattle.std.specs.Map.{keys_of, values_of}
use Rattle.std.proofs.lemmas.List.Elements.{All-contains, Contains-get_or}
use Rattle.std.proofs.lemmas.Option.{same_Some, slice_get-get_or}
use Rattle.dita_doc.specs.Bytes.{Bytes}
use Rattle.dita_doc.specs.History.{Entry, sources}
use Rattle.dita_doc.specs.Request.{Build}
use Rattle.facts.specs.Rows.{RowData, row_data}
use Rattle.facts.specs.declared.row.Row.{Row}
use Rattle.row_text.specs.RowWritten.{row_shown}
use Rattle.run_spec.specs.Cites.{ShowsBuilt}
use Rattle.run_spec.specs.Faithful.{CitesEachRow, serials_cited}
use Rattle.run_spec.specs.HistoryTold.{cited_by}
use Rattle.run_spec.specs.Language.{dita}
use Rattle.transcript_text.specs.Transcript.{EntryShown, Fits64, IsEntryShown, RowShown, Shown, Totals, Transcript, end_head, entry_shown, entry_text, head_text, row_text}
use Rattle.transcript_text.specs.Written.{built_shown, text_shown}
use Rattle.transcript_text.specs.declared.built.BuiltText.{BuiltText}
use Rattle.desk_top.specs.Cited.{AreShown, rows_in, rows_in_all, rows_of_build, text_of, with_rows}
use Rattle.desk_top.specs.Given.{IsGiven}
use Rattle.desk_top.specs.Served.{HasItsPages, IsServed, is_build, places_of}
use Rattle.desk_top.specs.Told.{AreToldOf, HasUtf8Page, ShowBuilds, TellsEntries, TellsHistory, TellsRows, row_seen}
use Rattle.desk_top.specs.declared.callers.BuiltAt.{BuiltAt}
use Rattle.desk_top.proofs.CiteLaws.{HasLines, build_told, outcome_shown, serial_cited, shown_of}
use Rattle.desk_top.proofs.ElementLaws.{from_lists, in_lists, mapped_from, stands_contained}
use Rattle.desk_top.proofs.GivenUtf8Laws.{map_utf8, rows_utf8}
use Rattle.desk_top.proofs.KeptLaws.{all_kept, each_kept, kept_among}
use Rattle.desk_top.proofs.RowToldLaws.{ShowsSerials, have_lines, serial_shown, serials_shown, shown_of_row}
use Rattle.desk_top.proofs.ShownLaws.{build_within, cited_by_builds, stands_built, text_shown_at, within_log}

get_there : {X : Type 0} (xs : List X) (k : ℕ) → k < length xs → (x : X) × (slice_get xs k ≡ Some x)
get_there [] k within = absurd (omega arith)
get_there (x ∷ xs) zero within = (x, refl)
get_there (x ∷ xs) (suc k) within = get_there xs k (omega arith)

module _ (log : List Entry) (built : List BuiltAt) (shown : List (Option BuiltText)) (served : IsServed log built)
    (are : AreShown shown built) where
  -- Rows

  abbrev cited : List Row
  cited = rows_in_all built

  abbrev kept : List (ℕ × Row)
  kept = with_rows [] cited

  given_by : (one : BuiltAt) → Contains built one → IsGiven log one
  given_by one among = All-contains (IsGiven log) built one served.given among

  row_utf8 : (row : Row) → Contains cited row → HasUtf8Page row
  row_utf8 row is =
      let of = from_lists rows_of_build built row is in
      let given = given_by of.one of.among in
      let answered = served.answered of.one.place (within_log log of.one.place given.entry given.stands) in
      let same : answered.entry ≡ given.entry =
      same_Some answered.entry given.entry (sym answered.stands ∙ given.stands) in
      rows_utf8 log of.one.place given.root given.val of.one.outcome row
      (map_utf8 answered.entry.request given.root given.val
      (ap (λ (entry : Entry). entry.request) same ∙ given.is) answered.utf8)
      given.outcome (All-contains HasItsPages built of.one served.pages of.among) of.has

  pub rows_have_utf8 : All HasUtf8Page (values_of kept)
  rows_have_utf8 = λ k row within.
      let one = get_or (values_of kept) k row in
      row_utf8 one (kept_among cited one (Contains-get_or (values_of kept) k row within))

  -- Row lines

  module _ (rows : List RowShown) (lines : map Some rows ≡ map row_seen (values_of kept)) where
    row_lines : (one : BuiltAt) (row : Row) → Contains built one → Contains (rows_in one.outcome) row
        → HasLines rows row
    row_lines one row among is =
        let has = in_lists rows_of_build built one row among is in
        let found = each_kept cited row has in
        let same = served.one_row (row_data found.row) (row_data row) (cited_by_builds built found.row found.among)
        (cited_by_builds built row has) found.same in
        subst (λ (seen : RowData). IfSome (row_shown seen) (Contains rows)) same
        (have_lines (values_of kept) rows found.row lines found.stands)

    module _ (told : List EntryShown) (tells : AreToldOf log shown told) where
      -- what is shown of a build is what it gave
      pub shows_outcome : (one : BuiltAt) (entry : EntryShown) → Contains built one → slice_get told one.place ≡ Some entry
          → entry.shown ≡ shown_of one.outcome
      shows_outcome one entry among there =
          let here = tells one.place entry there in
          let same : here.is.built ≡ Some (text_shown (text_of one.outcome)) =
          here.shows ∙ ap built_shown (text_shown_at built shown one served.once are among) in
          build_told one.place here.is.entry (text_shown (text_of one.outcome)) entry
          (sym (ap (entry_shown one.place here.is.entry) same) ∙ here.is.shown)

      shows_given : (one : BuiltAt) (entry : Entry) (line : EntryShown) (root : List ℕ) (val : Option (List ℕ))
          → Contains built one → slice_get log one.place ≡ Some entry → slice_get told one.place ≡ Some line
          → entry.request ≡ Build root val
          → ShowsBuilt rows root val (dita.clean (sources log one.place) root val) line.shown
      shows_given one entry line root val among stands there asks =
          let given = given_by one among in
          let same : given.entry ≡ entry = same_Some given.entry entry (sym given.stands ∙ stands) in
          let asked : Build given.root given.val ≡ Build root val =
          sym given.is ∙ ap (λ (e : Entry). e.request) same ∙ asks in
          let same_root : given.root ≡ root = cc in
          let same_val : given.val ≡ val = cc in
          let here = outcome_shown rows given.root given.val one.outcome given.rows
          (All-contains HasItsPages built one served.pages among) (λ row is. row_lines one row among is) in
          let clean = subst (λ gives. ShowsBuilt rows given.root given.val gives (shown_of one.outcome)) given.outcome
          here in
          let of_val = subst (λ (v : Option (List ℕ)). ShowsBuilt rows given.root v
          (dita.clean (sources log one.place) given.root v) (shown_of one.outcome)) same_val clean in
          let of_root = subst (λ (r : List ℕ). ShowsBuilt rows r val
          (dita.clean (sources log one.place) r val) (shown_of one.outcome)) same_root of_val in
          subst (λ (s : Shown). ShowsBuilt rows root val (dita.clean (sources log one.place) root val) s)
          (sym (shows_outcome one line among there)) of_root

      show_builds : ShowBuilds log told rows
      show_builds place entry line root val stands there asks =
          let answered = served.answered place (within_log log place entry stands) in
          let same : answered.entry ≡ entry = same_Some answered.entry entry (sym answered.stands ∙ stands) in
          let found = mapped_from (λ (one : BuiltAt). one.place) built place (stands_contained (places_of built) place
          (answered.outcome (ap (λ (e : Entry). is_build e.request) same ∙ ap is_build asks))) in
          subst (λ at. slice_get log at ≡ Some entry → slice_get told at ≡ Some line
          → ShowsBuilt rows root val (dita.clean (sources log at) root val) line.shown) found.is
          (λ here line_here. shows_given found.one entry line root val found.among here line_here asks) stands there

      -- each row line is cited by an entry
      cited_by_entry : length told ≡ length log → (row : RowShown) → Contains rows row
          → Contains (serials_cited told) row.serial
      cited_by_entry count row is =
          let of = shown_of_row (values_of kept) rows row lines is in
          let by = from_lists rows_of_build built of.row (kept_among cited of.row of.among) in
          let within = build_within log by.one.place (stands_built log built by.one served by.among) in
          let there = get_there told by.one.place (omega (arith, within, count)) in
          let cites = subst (λ (s : Shown). Contains (cited_by s) of.row.serial) {y = there.0.shown}
          (sym (shows_outcome by.one there.0 by.among there.1)) (serial_cited by.one.outcome of.row by.has) in
          subst (Contains (serials_cited told)) {y = row.serial} (sym (serial_shown of.row row of.is))
          (in_lists (λ (entry : EntryShown). cited_by entry.shown) told there.0 of.row.serial
          (stands_contained told there.0 (by.one.place, there.1)) cites)

-- The whole

module _ (log : List Entry) (built : List BuiltAt) (shown : List (Option BuiltText)) (served : IsServed log built)
    (are : AreShown shown built) (totals : Totals) (first entries rows text : Bytes)
    (told : TellsEntries log shown (length log) first entries)
    (lines : TellsRows (values_of (with_rows [] (rows_in_all built))) [] entries rows)
    (sorted : IsStrictlySortedBy nat_cmp (keys_of (with_rows [] (rows_in_all built)))) where
  abbrev transcript : Transcript
  transcript = record { entries = told.told; rows = lines.shown; totals = totals }

  are_lines : map Some lines.shown ≡ map row_seen (values_of (with_rows [] (rows_in_all built)))
  are_lines = sym (append-nil (map Some lines.shown)) ∙ lines.are

  serials : ShowsSerials lines.shown
  serials = serials_shown (rows_in_all built) (with_rows [] (rows_in_all built)) lines.shown
      (all_kept (rows_in_all built)) are_lines sorted

  entries_shown : All IsEntryShown told.told
  entries_shown = λ place entry within. (told.are place (get_or told.told place entry)
      (slice_get-get_or told.told place entry within)).is.form

  cites_rows : CitesEachRow transcript
  cites_rows = record {
    different = serials.different;
    cited = λ k row within. cited_by_entry log built shown served are lines.shown are_lines told.told told.are
        told.count (get_or lines.shown k row) (Contains-get_or lines.shown k row within);
  }

  -- the head, all entries, rows and the end tell the history, by this transcript
  pub whole_history : Fits64 totals.entries → Fits64 totals.made → Fits64 totals.dropped → first ≡ head_text
      → totals.entries ≡ length log → text ≡ rows ++ (end_head totals ++ 10 ∷ [])
      → (tells : TellsHistory log text) × (tells.transcript ≡ transcript)
  whole_history counted made dropped head count end = (
    record {
      transcript = transcript;
      form = record {
        entries = entries_shown;
        rows = lines.form;
        rising = serials.rising;
        counted = counted;
        made = made;
        dropped = dropped;
      };
      are = λ place entry there. (told.are place entry there).is;
      count = told.count;
      builds = show_builds log built shown served are lines.shown are_lines told.told told.are;
      rows = cites_rows;
      entries = count;
      is = end ∙ ap (λ front. front ++ (end_head totals ++ 10 ∷ []))
          (lines.text ∙ ap (λ front. front ++ flat_map row_text lines.shown)
          (told.text ∙ ap (λ front. front ++ flat_map entry_text told.told) head));
    },
    refl,
  )
