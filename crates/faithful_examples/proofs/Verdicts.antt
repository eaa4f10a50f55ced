-- Whether a text is faithful to a script, once it is known whose text it is: a text is the text of one transcript
-- alone, so it is faithful exactly if this transcript keeps each clause.
use Rattle.std.specs.Prelude.{◌≡◌, ℕ, List, [], Option, None, Some, Result, Ok, Contains, length}
use Rattle.std.specs.List.{AllByRecursion}
use Rattle.std.proofs.Common.{refl, sym, subst, ◌∙◌, arith}
use Rattle.std.proofs.lemmas.Option.{none-some, same_Some}
use Rattle.script_text.specs.Script.{Step, script_of}
use Rattle.script_text.specs.declared.fault.ScriptFault.{ScriptFault}
use Rattle.transcript_laws.proofs.OnceLaws.{one_transcript}
use Rattle.transcript_text.specs.Transcript.{BuildShown, EntryShown, Fits64, IsEntryShown, IsRowShown, IsTranscript, RowShown, Shown, Totals, Transcript, transcript_text, unless_built}
use Rattle.run_spec.specs.Faithful.{CitesAgain, CitesEachRow, CountsRight, HavePlaces, IsFaithfulTo, ShowsBuilds, ShowsReplies, TakesEachOnce, serials_cited}
use Rattle.run_spec.specs.HistoryTold.{builds_told}
use Rattle.run_spec.specs.Language.{dita}
use Rattle.faithful_examples.proofs.Shown.{all_of}

-- the transcript keeps each clause over these requests
pub record Keeps (steps : List Step) (transcript : Transcript) : Type 0 where
  pub places : HavePlaces 0 transcript.entries
  pub count : length transcript.entries ≡ length steps
  pub requests : TakesEachOnce steps transcript.entries
  pub replies : ShowsReplies steps transcript.entries
  pub builds : ShowsBuilds dita steps transcript
  pub rows : CitesEachRow transcript
  pub again : CitesAgain dita transcript.totals (builds_told steps transcript.entries)
  pub counts : CountsRight dita steps transcript (builds_told steps transcript.entries)

-- a script has one list of requests
one_list : (steps other : List Step) → ◌≡◌ {A = Result (List Step) ScriptFault} (Ok steps) (Ok other) → steps ≡ other
one_list steps other e = cc

module _ (script text : List ℕ) (steps : List Step) (transcript : Transcript) where
  pub is_faithful : script_of script ≡ Ok steps → IsTranscript transcript → text ≡ transcript_text transcript
      → Keeps steps transcript → IsFaithfulTo script text
  is_faithful are form is kept = record {
    steps = steps;
    are = are;
    faithful = record {
      transcript = transcript;
      entries = record { form = form; is = is; places = kept.places; count = kept.count };
      requests = kept.requests;
      replies = kept.replies;
      builds = kept.builds;
      rows = kept.rows;
      again = kept.again;
      counts = kept.counts;
    };
  }

  kept_by : (given : List Step) (other : Transcript) → given ≡ steps → other ≡ transcript → Keeps given other
      → Keeps steps transcript
  kept_by given other same one kept = subst (λ t. Keeps steps t) one (subst (λ s. Keeps s other) same kept)

  pub keeps : script_of script ≡ Ok steps → IsTranscript transcript → text ≡ transcript_text transcript
      → IsFaithfulTo script text → Keeps steps transcript
  keeps are form is given = kept_by given.steps given.faithful.transcript
      (one_list given.steps steps (sym given.are ∙ are))
      (one_transcript given.faithful.transcript transcript given.faithful.entries.form form
      (sym given.faithful.entries.is ∙ is))
      (record {
        places = given.faithful.entries.places;
        count = given.faithful.entries.count;
        requests = given.faithful.requests;
        replies = given.faithful.replies;
        builds = given.faithful.builds;
        rows = given.faithful.rows;
        again = given.faithful.again;
        counts = given.faithful.counts;
      })

-- a reply that is that of no build shows one thing
pub shows_one : (built : Option BuildShown) (shown told : Shown) → unless_built built shown ≡ Some told → shown ≡ told
shows_one None shown told e = same_Some shown told e
shows_one (Some one) shown told e = absurd (none-some told e)

-- Transcripts without rows

abbrev pub rowless : List EntryShown → Totals → Transcript
rowless entries totals = record { entries = entries; rows = []; totals = totals }

pub rowless_form : (entries : List EntryShown) (totals : Totals) → AllByRecursion IsEntryShown entries
    → Fits64 totals.entries → Fits64 totals.made → Fits64 totals.dropped → IsTranscript (rowless entries totals)
rowless_form entries totals each counted made dropped = record {
  entries = all_of IsEntryShown entries each;
  rows = all_of IsRowShown [] tt;
  rising = tt;
  counted = counted;
  made = made;
  dropped = dropped;
}

pub rowless_rows : (entries : List EntryShown) (totals : Totals) → CitesEachRow (rowless entries totals)
rowless_rows entries totals = record {
  different = λ i j d before within. absurd (omega arith);
  cited = all_of (λ (row : RowShown). Contains (serials_cited entries) row.serial) [] tt;
}

-- and without builds

abbrev pub only : ℕ → Totals
only entries = record { entries = entries; made = 0; dropped = 0 }

pub none_again : (totals : Totals) → CitesAgain dita totals []
none_again totals none at later repeats = absurd (none-some repeats.second repeats.is_second)

pub none_made : (steps : List Step) (entries : List EntryShown)
    → CountsRight dita steps (rowless entries (only (length steps))) []
none_made steps entries = record {
  entries = refl;
  fewer = omega arith;
  fits = λ small. refl;
  rows = omega arith;
  most = λ chosen chooses. omega arith;
}
