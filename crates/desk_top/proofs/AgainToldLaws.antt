-- The transcript of a batch tells that a build which repeats another cites the rows that the other cites, and its counts
-- are right.
use Rattle.std.proofs.Common.{◌≡◌, ℕ, List, Option, Some, Contains, length, sym, ap, ◌∙◌, subst, arith}
use Rattle.std.specs.List.{slice_get}
use Rattle.std.proofs.lemmas.Option.{slice_get_within}
use Rattle.dita_doc.specs.History.{Entry}
use Rattle.dita_doc.specs.Request.{Build}
use Rattle.facts.specs.Rows.{Stands}
use Rattle.facts.specs.Table.{made}
use Rattle.desk_core.specs.Book.{BookData}
use Rattle.desk_language.specs.Language.{Language}
use Rattle.desk_lock.specs.Meaning.{Meaning}
use Rattle.run_spec.specs.Faithful.{CitesAgain, CitesEachRow, CountsRight, table_limit}
use Rattle.run_spec.specs.HistoryTold.{BuildTold, builds_told, step_of}
use Rattle.script_text.specs.Script.{Step}
use Rattle.transcript_text.specs.Transcript.{EntryShown, RowShown, Transcript}
use Rattle.desk_top.specs.Again.{AreToldAs, KeepsRight, serials_in}
use Rattle.desk_top.specs.BatchMade.{BatchMade}
use Rattle.desk_top.specs.Given.{rows_of}
use Rattle.desk_top.specs.Made.{BuildMade, IsMadeAs}
use Rattle.desk_top.specs.OneHistory.{step_in}
use Rattle.desk_top.specs.TextMade.{TellsMade}
use Rattle.desk_top.specs.declared.callers.BuiltAt.{BuiltAt}
use Rattle.desk_top.proofs.ElementLaws.{stands_contained}
use Rattle.desk_top.proofs.RepeatLaws.{cites_again, counts_right, here_within}
use Rattle.desk_top.proofs.SameBuildLaws.{PartsTellAll}
use Rattle.desk_top.proofs.ToldBuildsLaws.{AreRest, IsToldBy, told_builds}

-- an entry of the text is that of the history at its place, with the request of its number
pub record IsEntryOf (steps : List Step) (log : List Entry) (place : ℕ) (shown : EntryShown) : Type 0 where
  pub entry : Entry
  pub stands : slice_get log place ≡ Some entry
  pub named : step_of steps shown.number ≡ Some (step_in entry)
  pub session : shown.session ≡ entry.session

-- what a build gave at a place
pub record IsGivenAt (built : List BuiltAt) (place : ℕ) : Type 0 where
  pub given : BuiltAt
  pub stands : Stands built given
  pub at : given.place ≡ place

module _ (means : Meaning) (language : Language) (tell : PartsTellAll means language) (steps : List Step)
    (book : BookData) (built : List BuiltAt) (transcript : Transcript) (batch : BatchMade means language book built)
    (tells : TellsMade book built transcript) (keeps : KeepsRight means language book.store.history)
    (count : length transcript.entries ≡ length book.store.history)
    (entries : (n : ℕ) (shown : EntryShown) → slice_get transcript.entries n ≡ Some shown
    → IsEntryOf steps book.store.history n shown)
    (covered : (place : ℕ) (entry : Entry) (root : List ℕ) (val : Option (List ℕ))
    → slice_get book.store.history place ≡ Some entry → entry.request ≡ Build root val → IsGivenAt built place) where
  abbrev log : List Entry
  log = book.store.history

  abbrev told : List BuildTold
  told = builds_told steps transcript.entries

  is_made : (one : BuildMade) → Stands batch.builds one → IsMadeAs means language log one
  is_made one stands = batch.are.each stands.0 one stands.1

  -- a build's entry shows the serials of the rows that it cites
  shows : (n : ℕ) (shown : EntryShown) → slice_get transcript.entries n ≡ Some shown
      → IsToldBy means language steps log batch.builds is_made n shown
  shows n shown at =
      let is = entries n shown at in
      record {
        entry = is.entry;
        stands = is.stands;
        named = is.named;
        session = is.session;
        cites = λ one stands here. (let by = batch.back one stands in
            tells.cites by.given shown by.stands (ap (slice_get transcript.entries) (by.of.place ∙ here) ∙ at)
            ∙ by.of.shows);
      }

  rest : AreRest means language steps log batch.builds is_made batch.builds 0 (length log)
  rest = record {
    among = λ one stands. stands;
    low = λ one stands. omega arith;
    high = λ one stands. (let is = is_made one stands in slice_get_within log one.place is.entry is.stands);
    rise = batch.rise;
    cover = λ place entry root val least most at is. (let by = covered place entry root val at is in
        let found = batch.forth by.given by.stands in
        record { one = found.one; stands = found.stands; at = sym found.of.place ∙ by.at });
  }

  like : AreToldAs language batch.builds told
  like = told_builds means language steps log batch.builds is_made transcript.entries count shows rest

  -- a build that repeats another cites the rows that the other cites
  pub text_cites_again : CitesAgain language transcript.totals told
  text_cites_again = cites_again means language log book.table.limit batch.prints book.table.rows (made book.table)
      book.table.dropped batch.builds told batch.left batch.are batch.never tell keeps like transcript.totals
      tells.dropped

  -- a row line has a serial that a build of the text cites
  cited : (k : ℕ) (row : RowShown) → slice_get transcript.rows k ≡ Some row
      → (at : ℕ) × (shown : BuildTold) × (slice_get told at ≡ Some shown) × Contains shown.cited row.serial
  cited k row at =
      let by = tells.rows k row at in
      let found = batch.forth by.given by.stands in
      let inside = slice_get_within batch.builds found.stands.0 found.one found.stands.1 in
      let there = here_within told found.stands.0 (omega (arith, inside, like.count)) in
      let is = like.each found.stands.0 found.one there.0 found.stands.1 there.1 in (
        found.stands.0,
        there.0,
        there.1,
        subst (λ (list : List ℕ). Contains list row.serial) (found.of.shows ∙ sym is.cited)
            (stands_contained (serials_in (rows_of by.given.outcome)) row.serial by.cited),
      )

  -- the counts of its end are right
  pub text_counts_right : book.table.limit ≡ table_limit → transcript.totals.entries ≡ length steps
      → CitesEachRow transcript → CountsRight language steps transcript told
  text_counts_right limit_is entries_are rows =
      counts_right means language log book.table.limit batch.prints book.table.rows (made book.table) book.table.dropped
      batch.builds told batch.left batch.are batch.never tell keeps like steps transcript limit_is tells.made tells.dropped
      entries_are rows.different cited
