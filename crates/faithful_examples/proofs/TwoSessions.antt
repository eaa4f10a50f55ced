-- Two sessions that each store one name where nothing stands: the first of them stores it, whichever it is, and the
-- other meets its version. Both texts are faithful, and no text in which both store it.
use Rattle.std.specs.Fmt.{digits}
use Rattle.std.specs.Prelude.{◌≡◌, ◌==◌, ℕ, List, [], ◌∷◌, Option, None, Some, Ok, Contains, codes, count_by}
use Rattle.std.specs.Str.{is_utf8, chars}
use Rattle.std.proofs.Common.{refl, subst, arith}
use Rattle.std.proofs.lemmas.List.Elements.{recursion_from_All}
use Rattle.std.proofs.lemmas.Option.{none-some}
use lib.Utf8.{encode}
use Rattle.dita_doc.specs.Desk.{Conflict}
use Rattle.dita_doc.specs.Pyx.{document_of}
use Rattle.dita_doc.specs.Request.{PutIf, Request, Single}
use Rattle.script_text.specs.Script.{Step, script_of}
use Rattle.transcript_text.specs.Transcript.{BuildShown, EntryShown, IsEntryShown, IsTranscript, IsRowShown, RowShown, Shown, StoredAt, Refuses, ConflictAt, Transcript, reply_shown, transcript_text}
use Rattle.run_spec.specs.Faithful.{CitesEachRow, CountsRight, IsFaithful, IsFaithfulTo, IsInOrder, IsOfSession, ShowsBuild, ShowsReply, ShowsReplies, TakesEachOnce, serials_cited}
use Rattle.run_spec.specs.HistoryTold.{Moment, moments_of}
use Rattle.run_spec.specs.Language.{dita}
use Rattle.desk_language.specs.Language.{Language}
use Rattle.faithful_examples.proofs.Shown.{lines, all_of, pairs_of, each_number}
use Rattle.faithful_examples.proofs.Verdicts.{keeps, only, rowless_form}

abbrev body : List ℕ
body = lines ("(p" ∷ ")p" ∷ [])

abbrev put : Request
put = Single (PutIf 0 (codes "t.dita") body)

abbrev steps : List Step
steps = record { session = 1; request = put } ∷ record { session = 2; request = put } ∷ []

abbrev script : List ℕ
script = lines ("1 putif 0 t.dita" ∷ "(p" ∷ ")p" ∷ "." ∷ "2 putif 0 t.dita" ∷ "(p" ∷ ")p" ∷ "." ∷ [])

its_steps : script_of script ≡ Ok steps
unfolding script_of is_utf8 chars encode
its_steps = refl

-- a transcript of two entries, each of a request whose number is that of its session
abbrev entry : ℕ → ℕ → Shown → EntryShown
entry place session shown = record { place = place; session = session; number = session; shown = shown }

abbrev transcript : List EntryShown → Transcript
transcript entries = record { entries = entries; rows = []; totals = record { entries = 2; made = 0; dropped = 0 } }

abbrev first_stores : List EntryShown
first_stores = entry 0 1 (StoredAt 1) ∷ entry 1 2 (Refuses (ConflictAt 1)) ∷ []

abbrev second_stores : List EntryShown
second_stores = entry 0 2 (StoredAt 1) ∷ entry 1 1 (Refuses (ConflictAt 1)) ∷ []

abbrev both_store : List EntryShown
both_store = entry 0 1 (StoredAt 1) ∷ entry 1 2 (StoredAt 2) ∷ []

-- their texts
first_text : transcript_text (transcript first_stores)
    ≡ lines ("dita transcript 1" ∷ "entry 0 1 1 stored 1" ∷ "entry 1 2 2 conflict 1" ∷ "end 2 0 0" ∷ [])
unfolding digits
first_text = refl

second_text : transcript_text (transcript second_stores)
    ≡ lines ("dita transcript 1" ∷ "entry 0 2 2 stored 1" ∷ "entry 1 1 1 conflict 1" ∷ "end 2 0 0" ∷ [])
unfolding digits
second_text = refl

-- The parts of the definition

first_form : IsTranscript (transcript first_stores)
first_form = record {
  entries = all_of IsEntryShown first_stores (
    record {
      place = omega arith;
      session = omega arith;
      number = omega arith;
      shown = omega arith;
    },
    (record { place = omega arith; session = omega arith; number = omega arith; shown = omega arith }, tt),
  );
  rows = all_of IsRowShown [] tt;
  rising = tt;
  counted = omega arith;
  made = omega arith;
  dropped = omega arith;
}

second_form : IsTranscript (transcript second_stores)
second_form = record {
  entries = all_of IsEntryShown second_stores (
    record {
      place = omega arith;
      session = omega arith;
      number = omega arith;
      shown = omega arith;
    },
    (record { place = omega arith; session = omega arith; number = omega arith; shown = omega arith }, tt),
  );
  rows = all_of IsRowShown [] tt;
  rising = tt;
  counted = omega arith;
  made = omega arith;
  dropped = omega arith;
}

first_requests : TakesEachOnce steps first_stores
first_requests = record {
  sessions = all_of (IsOfSession steps) first_stores (refl, (refl, tt));
  once = each_number (λ number. count_by (λ (entry : EntryShown). entry.number == number) first_stores ≡ 1) steps
      (refl, (refl, tt));
  order = pairs_of IsInOrder first_stores ((λ same. absurd (omega (arith, same)), tt), (tt, tt));
}

second_requests : TakesEachOnce steps second_stores
second_requests = record {
  sessions = all_of (IsOfSession steps) second_stores (refl, (refl, tt));
  once = each_number (λ number. count_by (λ (entry : EntryShown). entry.number == number) second_stores ≡ 1) steps
      (refl, (refl, tt));
  order = pairs_of IsInOrder second_stores ((λ same. absurd (omega (arith, same)), tt), (tt, tt));
}

first_replies : ShowsReplies steps first_stores
unfolding document_of is_utf8 chars encode
first_replies = all_of ShowsReply (moments_of steps first_stores) ((None, refl), ((None, refl), tt))

second_replies : ShowsReplies steps second_stores
unfolding document_of is_utf8 chars encode
second_replies = all_of ShowsReply (moments_of steps second_stores) ((None, refl), ((None, refl), tt))

-- without rows and builds there is nothing to count
no_rows : (entries : List EntryShown) → CitesEachRow (transcript entries)
no_rows entries = record {
  different = λ i j d before within. absurd (omega arith);
  cited = all_of (λ (row : RowShown). Contains (serials_cited entries) row.serial) [] tt;
}

no_counts : (language : Language) (entries : List EntryShown) → CountsRight language steps (transcript entries) []
no_counts language entries = record {
  entries = refl;
  fewer = omega arith;
  fits = λ small. refl;
  rows = omega arith;
  most = λ chosen chooses. omega arith;
}

-- Both orders are faithful

first_is_faithful : (language : Language)
    → IsFaithful language steps (transcript_text (transcript first_stores))
first_is_faithful language = record {
  transcript = transcript first_stores;
  entries = record { form = first_form; is = refl; places = (refl, (refl, tt)); count = refl };
  requests = first_requests;
  replies = first_replies;
  builds = all_of (λ (moment : Moment). ShowsBuild language [] moment moment.step.request)
      (moments_of steps first_stores)
      (tt, (tt, tt));
  rows = no_rows first_stores;
  again = λ none at later repeats. absurd (none-some repeats.second repeats.is_second);
  counts = no_counts language first_stores;
}

second_is_faithful : (language : Language)
    → IsFaithful language steps (transcript_text (transcript second_stores))
second_is_faithful language = record {
  transcript = transcript second_stores;
  entries = record { form = second_form; is = refl; places = (refl, (refl, tt)); count = refl };
  requests = second_requests;
  replies = second_replies;
  builds = all_of (λ (moment : Moment). ShowsBuild language [] moment moment.step.request)
      (moments_of steps second_stores)
      (tt, (tt, tt));
  rows = no_rows second_stores;
  again = λ none at later repeats. absurd (none-some repeats.second repeats.is_second);
  counts = no_counts language second_stores;
}

-- A text in which both store it falls with the reply of its second entry

shows_none : (built : Option BuildShown) → reply_shown (Conflict 1) built ≡ Some (StoredAt 2) → ⊥
shows_none None e = cc e
shows_none (Some built) e = cc e

not_both : ShowsReplies steps both_store → ⊥
unfolding document_of is_utf8 chars encode
not_both replies =
    let second = recursion_from_All ShowsReply (moments_of steps both_store) replies in
    shows_none second.1.0.0 second.1.0.1

-- From the bytes of the script to those of each text

first_is_faithful_to : IsFaithfulTo script
    (lines ("dita transcript 1" ∷ "entry 0 1 1 stored 1" ∷ "entry 1 2 2 conflict 1" ∷ "end 2 0 0" ∷ []))
first_is_faithful_to = record {
  steps = steps;
  are = its_steps;
  faithful = subst (IsFaithful dita steps) first_text (first_is_faithful dita);
}

second_is_faithful_to : IsFaithfulTo script
    (lines ("dita transcript 1" ∷ "entry 0 2 2 stored 1" ∷ "entry 1 1 1 conflict 1" ∷ "end 2 0 0" ∷ []))
second_is_faithful_to = record {
  steps = steps;
  are = its_steps;
  faithful = subst (IsFaithful dita steps) second_text (second_is_faithful dita);
}

-- both store it: it falls with the reply at place 1
abbrev both_text : List ℕ
both_text = lines ("dita transcript 1" ∷ "entry 0 1 1 stored 1" ∷ "entry 1 2 2 stored 2" ∷ "end 2 0 0" ∷ [])

both_is : both_text ≡ transcript_text (transcript both_store)
unfolding digits
both_is = refl

both_form : IsTranscript (transcript both_store)
both_form = rowless_form both_store (only 2) (
  record { place = omega arith; session = omega arith; number = omega arith; shown = omega arith },
  (record { place = omega arith; session = omega arith; number = omega arith; shown = omega arith }, tt),
) (omega arith) (omega arith) (omega arith)

both_falls : IsFaithfulTo script both_text → ⊥
both_falls given =
    not_both (keeps script both_text steps (transcript both_store) its_steps both_form both_is given).replies
