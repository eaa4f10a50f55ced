-- What a faithful transcript says beside its one history: that a build which repeats another cites the same rows, and
-- that its counts are right.
use Rattle.std.proofs.Common.{◌≡◌, ℕ, List, Option, Some, ap, ◌∙◌, sym, subst}
use Rattle.std.specs.List.{slice_get}
use Rattle.std.proofs.lemmas.Option.{same_Some, slice_get_within}
use Rattle.dita_doc.specs.Bytes.{Bytes}
use Rattle.dita_doc.specs.History.{Entry}
use Rattle.dita_doc.specs.Request.{Build}
use Rattle.desk_core.specs.Book.{BookData}
use Rattle.map_makers.specs.PartsTell.{parts_tell}
use Rattle.map_makers.specs.PlanTells.{meaning, plan_tells}
use Rattle.run_spec.specs.Faithful.{CitesAgain, CountsRight, IsFaithful, table_limit}
use Rattle.run_spec.specs.HistoryTold.{builds_told}
use Rattle.run_spec.specs.Language.{dita}
use Rattle.script_text.specs.Script.{Step}
use Rattle.transcript_text.specs.Transcript.{EntryShown, Transcript}
use Rattle.desk_top.specs.Again.{KeepsRight}
use Rattle.desk_top.specs.BatchMade.{BatchMade}
use Rattle.desk_top.specs.OneHistory.{IsOneHistory}
use Rattle.desk_top.specs.Served.{IsServed, is_build}
use Rattle.desk_top.specs.TextMade.{TellsMade}
use Rattle.desk_top.specs.Told.{TellsHistory}
use Rattle.desk_top.specs.declared.callers.BuiltAt.{BuiltAt}
use Rattle.desk_top.proofs.AgainToldLaws.{IsEntryOf, IsGivenAt, text_cites_again, text_counts_right}
use Rattle.desk_top.proofs.PlaceLaws.{map_back}
use Rattle.desk_top.proofs.SameBuildLaws.{PartsTellAll}
use Rattle.desk_top.proofs.ScriptToldLaws.{all_stand, told_same, told_script}

-- right plans and right parts of maps tell their builds
pub maps_tell : PartsTellAll meaning dita
maps_tell = record { plan = plan_tells; parts = parts_tell }

module _ (steps : List Step) (book : BookData) (built : List BuiltAt) (text : Bytes)
    (served : IsServed book.store.history built) (one : IsOneHistory steps book.store.history)
    (batch : BatchMade meaning dita book built) (tells : TellsHistory book.store.history text)
    (made : TellsMade book built tells.transcript) (keeps : KeepsRight meaning dita book.store.history) where
  entry_of : (n : ℕ) (shown : EntryShown) → slice_get tells.transcript.entries n ≡ Some shown
      → IsEntryOf steps book.store.history n shown
  entry_of n shown at =
      let is = all_stand steps book.store.history tells.transcript.entries one tells.are n shown at in
      record { entry = is.entry; stands = is.stands; named = is.named; session = is.shows.session }

  covered : (place : ℕ) (entry : Entry) (root : List ℕ) (val : Option (List ℕ))
      → slice_get book.store.history place ≡ Some entry → entry.request ≡ Build root val → IsGivenAt built place
  covered place entry root val at is =
      let answered = served.answered place (slice_get_within book.store.history place entry at) in
      let same : answered.entry ≡ entry = same_Some answered.entry entry (sym answered.stands ∙ at) in
      let stands = answered.outcome (ap (λ (e : Entry). is_build e.request) same ∙ ap is_build is) in
      let found = map_back (λ (b : BuiltAt). b.place) built stands.0 place stands.1 in
      record { given = found.0; stands = (stands.0, found.1); at = found.2 }

  -- a build that repeats another cites the rows that the other cites
  pub told_again : CitesAgain dita tells.transcript.totals (builds_told steps tells.transcript.entries)
  told_again = text_cites_again meaning dita maps_tell steps book built tells.transcript batch made keeps tells.count
      entry_of covered

  -- the counts of its end are right
  pub told_counts : book.table.limit ≡ table_limit
      → CountsRight dita steps tells.transcript (builds_told steps tells.transcript.entries)
  told_counts limit_is = text_counts_right meaning dita maps_tell steps book built tells.transcript batch made keeps
      tells.count entry_of covered limit_is (tells.entries ∙ one.count) tells.rows

  -- the text is a faithful transcript
  pub told_faithful : book.table.limit ≡ table_limit → IsFaithful dita steps text
  told_faithful limit_is =
      let told = told_script steps book.store.history text one tells in
      let same = told_same steps book.store.history text one tells in
      record {
        transcript = told.transcript;
        entries = told.entries;
        requests = told.requests;
        replies = told.replies;
        builds = told.builds;
        rows = told.rows;
        again = subst (λ (t : Transcript). CitesAgain dita t.totals (builds_told steps t.entries)) (sym same) told_again;
        counts = subst (λ (t : Transcript). CountsRight dita steps t (builds_told steps t.entries)) (sym same)
            (told_counts limit_is);
      }
