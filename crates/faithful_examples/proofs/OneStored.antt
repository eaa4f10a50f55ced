-- A script with a faulty body, and one that stores a document and removes it, each with the transcript of its run and
-- two other texts. Each text is faithful, or it falls: the clause and the place stand above it.
use Rattle.std.specs.Fmt.{digits}
use Rattle.std.specs.Prelude.{◌≡◌, ◌<◌, ◌==◌, ◌+◌, ℕ, List, [], ◌∷◌, None, Ok, codes, count_by}
use Rattle.std.specs.Str.{is_utf8, chars}
use Rattle.std.proofs.Common.{refl, ap, arith}
use Rattle.std.proofs.lemmas.List.Elements.{recursion_from_All}
use lib.Utf8.{encode}
use Rattle.dita_doc.specs.Pyx.{document_of}
use Rattle.dita_doc.specs.Request.{Put, Remove, Request, Single}
use Rattle.dita_doc.specs.declared.fault.PyxCode.TheVariants as fault
use Rattle.script_text.specs.Script.{Step, script_of}
use Rattle.transcript_text.specs.Transcript.{EntryShown, IsShown, IsTranscript, RefusalShown, RefusedFor, Refuses, RemovedAt, Shown, StoredAt, Totals, transcript_text}
use Rattle.run_spec.specs.Faithful.{IsFaithfulTo, IsInOrder, IsOfSession, ShowsBuild, ShowsReply, ShowsReplies}
use Rattle.run_spec.specs.HistoryTold.{Moment, moments_of}
use Rattle.run_spec.specs.Language.{dita}
use Rattle.faithful_examples.proofs.Shown.{lines, all_of, pairs_of, each_number}
use Rattle.faithful_examples.proofs.Verdicts.{Keeps, is_faithful, keeps, none_again, none_made, only, rowless, rowless_form, rowless_rows, shows_one}

abbrev in_t : List ℕ
in_t = codes "t.dita"

abbrev entry : ℕ → Shown → EntryShown
entry place shown = record { place = place; session = 1; number = place + 1; shown = shown }

-- A faulty body

abbrev faulty_steps : List Step
faulty_steps = record { session = 1; request = Single (Put in_t (lines ("(p" ∷ ")q" ∷ []))) } ∷ []

abbrev faulty_script : List ℕ
faulty_script = lines ("1 put t.dita" ∷ "(p" ∷ ")q" ∷ "." ∷ [])

faulty_asked : script_of faulty_script ≡ Ok faulty_steps
unfolding script_of is_utf8 chars encode
faulty_asked = refl

abbrev refused_at : ℕ → Shown
refused_at line = Refuses (RefusedFor fault.CloseMismatch line)

abbrev faulty_entries : Shown → List EntryShown
faulty_entries shown = entry 0 shown ∷ []

faulty_form : (shown : Shown) → IsShown shown → IsTranscript (rowless (faulty_entries shown) (only 1))
faulty_form shown is = rowless_form (faulty_entries shown) (only 1)
    (record { place = omega arith; session = omega arith; number = omega arith; shown = is }, tt)
    (omega arith) (omega arith) (omega arith)

faulty_replies : ShowsReplies faulty_steps (faulty_entries (refused_at 2))
unfolding document_of is_utf8 chars encode
faulty_replies = all_of ShowsReply (moments_of faulty_steps (faulty_entries (refused_at 2))) ((None, refl), tt)

faulty_keeps : Keeps faulty_steps (rowless (faulty_entries (refused_at 2)) (only 1))
faulty_keeps = record {
  places = (refl, tt);
  count = refl;
  requests = record {
    sessions = all_of (IsOfSession faulty_steps) (faulty_entries (refused_at 2)) (refl, tt);
    once = each_number
        (λ number. count_by (λ (one : EntryShown). one.number == number) (faulty_entries (refused_at 2)) ≡ 1)
        faulty_steps (refl, tt);
    order = pairs_of IsInOrder (faulty_entries (refused_at 2)) (tt, tt);
  };
  replies = faulty_replies;
  builds = all_of (λ (moment : Moment). ShowsBuild dita [] moment moment.step.request)
      (moments_of faulty_steps (faulty_entries (refused_at 2))) (tt, tt);
  rows = rowless_rows (faulty_entries (refused_at 2)) (only 1);
  again = none_again (only 1);
  counts = none_made faulty_steps (faulty_entries (refused_at 2));
}

abbrev faulty_text : List ℕ
faulty_text = lines ("dita transcript 1" ∷ "entry 0 1 1 refused CloseMismatch 2" ∷ "end 1 0 0" ∷ [])

faulty_is : faulty_text ≡ transcript_text (rowless (faulty_entries (refused_at 2)) (only 1))
unfolding digits
faulty_is = refl

faulty_is_faithful : IsFaithfulTo faulty_script faulty_text
faulty_is_faithful = is_faithful faulty_script faulty_text faulty_steps
    (rowless (faulty_entries (refused_at 2)) (only 1)) faulty_asked (faulty_form (refused_at 2) (omega arith)) faulty_is
    faulty_keeps

-- what is shown is that the body is refused at line 2
faulty_shown : (shown : Shown) → ShowsReplies faulty_steps (faulty_entries shown) → refused_at 2 ≡ shown
unfolding document_of is_utf8 chars encode
faulty_shown shown replies =
    let each = recursion_from_All ShowsReply (moments_of faulty_steps (faulty_entries shown)) replies in
    shows_one each.0.0 (refused_at 2) shown each.0.1

abbrev refusal_line : RefusalShown → ℕ
refusal_line (RefusedFor code line) = line
refusal_line other = 0

abbrev line_told : Shown → ℕ
line_told (Refuses refusal) = refusal_line refusal
line_told other = 0

-- another line is told: it falls with the reply at place 0
abbrev other_line : List ℕ
other_line = lines ("dita transcript 1" ∷ "entry 0 1 1 refused CloseMismatch 1" ∷ "end 1 0 0" ∷ [])

other_line_is : other_line ≡ transcript_text (rowless (faulty_entries (refused_at 1)) (only 1))
unfolding digits
other_line_is = refl

other_line_falls : IsFaithfulTo faulty_script other_line → ⊥
other_line_falls given =
    let kept = keeps faulty_script other_line faulty_steps
    (rowless (faulty_entries (refused_at 1)) (only 1)) faulty_asked
    (faulty_form (refused_at 1) (omega arith)) other_line_is given in
    omega (arith, ap line_told (faulty_shown (refused_at 1) kept.replies))

-- the body is stored: it falls with the reply at place 0
abbrev faulty_stored : List ℕ
faulty_stored = lines ("dita transcript 1" ∷ "entry 0 1 1 stored 1" ∷ "end 1 0 0" ∷ [])

faulty_stored_is : faulty_stored ≡ transcript_text (rowless (faulty_entries (StoredAt 1)) (only 1))
unfolding digits
faulty_stored_is = refl

faulty_stored_falls : IsFaithfulTo faulty_script faulty_stored → ⊥
faulty_stored_falls given =
    let kept = keeps faulty_script faulty_stored faulty_steps
    (rowless (faulty_entries (StoredAt 1)) (only 1)) faulty_asked
    (faulty_form (StoredAt 1) (omega arith)) faulty_stored_is given in
    cc (faulty_shown (StoredAt 1) kept.replies)

-- A document that is stored and removed

abbrev put_t : Request
put_t = Single (Put in_t (lines ("(p" ∷ ")p" ∷ [])))

abbrev steps : List Step
steps = record { session = 1; request = put_t } ∷ record { session = 1; request = Single (Remove in_t) } ∷ []

abbrev script : List ℕ
script = lines ("1 put t.dita" ∷ "(p" ∷ ")p" ∷ "." ∷ "1 remove t.dita" ∷ [])

asked : script_of script ≡ Ok steps
unfolding script_of is_utf8 chars encode
asked = refl

-- the version that is removed
abbrev entries : ℕ → List EntryShown
entries version = entry 0 (StoredAt 1) ∷ entry 1 (RemovedAt version) ∷ []

form : (version : ℕ) (totals : Totals) → version < 3 → totals.entries < 3 → totals.made < 3 → totals.dropped < 3
    → IsTranscript (rowless (entries version) totals)
form version totals small counted made dropped = rowless_form (entries version) totals (
  record { place = omega arith; session = omega arith; number = omega arith; shown = omega arith },
  (
    record { place = omega arith; session = omega arith; number = omega arith; shown = omega (arith, small) },
    tt,
  ),
) (omega (arith, counted)) (omega (arith, made)) (omega (arith, dropped))

replies : ShowsReplies steps (entries 1)
unfolding document_of is_utf8 chars encode
replies = all_of ShowsReply (moments_of steps (entries 1)) ((None, refl), ((None, refl), tt))

its_clauses : Keeps steps (rowless (entries 1) (only 2))
its_clauses = record {
  places = (refl, (refl, tt));
  count = refl;
  requests = record {
    sessions = all_of (IsOfSession steps) (entries 1) (refl, (refl, tt));
    once = each_number (λ number. count_by (λ (one : EntryShown). one.number == number) (entries 1) ≡ 1) steps
        (refl, (refl, tt));
    order = pairs_of IsInOrder (entries 1) ((λ same. omega arith, tt), (tt, tt));
  };
  replies = replies;
  builds = all_of (λ (moment : Moment). ShowsBuild dita [] moment moment.step.request) (moments_of steps (entries 1))
      (tt, (tt, tt));
  rows = rowless_rows (entries 1) (only 2);
  again = none_again (only 2);
  counts = none_made steps (entries 1);
}

abbrev text : List ℕ
text = lines ("dita transcript 1" ∷ "entry 0 1 1 stored 1" ∷ "entry 1 1 2 removed 1" ∷ "end 2 0 0" ∷ [])

text_is : text ≡ transcript_text (rowless (entries 1) (only 2))
unfolding digits
text_is = refl

text_is_faithful : IsFaithfulTo script text
text_is_faithful = is_faithful script text steps (rowless (entries 1) (only 2)) asked
    (form 1 (only 2) (omega arith) (omega arith) (omega arith) (omega arith)) text_is its_clauses

abbrev version_told : Shown → ℕ
version_told (RemovedAt version) = version
version_told other = 0

removed_one : (version : ℕ) → ShowsReplies steps (entries version) → RemovedAt 1 ≡ RemovedAt version
unfolding document_of is_utf8 chars encode
removed_one version told =
    let each = recursion_from_All ShowsReply (moments_of steps (entries version)) told in
    shows_one each.1.0.0 (RemovedAt 1) (RemovedAt version) each.1.0.1

-- another version is told: it falls with the reply at place 1
abbrev other_version : List ℕ
other_version = lines ("dita transcript 1" ∷ "entry 0 1 1 stored 1" ∷ "entry 1 1 2 removed 2" ∷ "end 2 0 0" ∷ [])

other_version_is : other_version ≡ transcript_text (rowless (entries 2) (only 2))
unfolding digits
other_version_is = refl

other_version_falls : IsFaithfulTo script other_version → ⊥
other_version_falls given =
    let kept = keeps script other_version steps (rowless (entries 2) (only 2)) asked
    (form 2 (only 2) (omega arith) (omega arith) (omega arith) (omega arith)) other_version_is given in
    omega (arith, ap version_told (removed_one 2 kept.replies))

-- a row was dropped, and none made: it falls with its counts
abbrev row_dropped : List ℕ
row_dropped = lines ("dita transcript 1" ∷ "entry 0 1 1 stored 1" ∷ "entry 1 1 2 removed 1" ∷ "end 2 0 1" ∷ [])

abbrev one_dropped : Totals
one_dropped = record { entries = 2; made = 0; dropped = 1 }

row_dropped_is : row_dropped ≡ transcript_text (rowless (entries 1) one_dropped)
unfolding digits
row_dropped_is = refl

row_dropped_falls : IsFaithfulTo script row_dropped → ⊥
row_dropped_falls given =
    let kept = keeps script row_dropped steps (rowless (entries 1) one_dropped) asked
    (form 1 one_dropped (omega arith) (omega arith) (omega arith) (omega arith)) row_dropped_is given in
    omega (arith, kept.counts.fewer)
