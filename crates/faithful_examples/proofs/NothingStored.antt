-- Four scripts that store nothing, each with the transcript of its run and two other texts. Each text is faithful, or
-- it falls: the clause and the place stand above it.
use Rattle.std.specs.Fmt.{digits}
use Rattle.std.specs.Prelude.{◌≡◌, ◌<◌, ◌==◌, ℕ, false, List, [], ◌∷◌, None, Ok, codes, count_by}
use Rattle.std.specs.Str.{is_utf8, chars}
use Rattle.std.proofs.Common.{refl, arith}
use Rattle.std.proofs.lemmas.List.Elements.{recursion_from_All}
use Rattle.std.proofs.lemmas.Option.{same_Some}
use lib.Utf8.{encode}
use Rattle.dita_doc.specs.Request.{Get, Names, Remove, Single}
use Rattle.script_text.specs.Script.{Step, script_of}
use Rattle.transcript_text.specs.Transcript.{EntryShown, IsAbsent, IsNameLine, IsShown, IsTranscript, Names as NamesShown, Refuses, Shown, Totals, transcript_text}
use Rattle.run_spec.specs.Faithful.{IsFaithfulTo, IsInOrder, IsOfSession, ShowsBuild, ShowsReply}
use Rattle.run_spec.specs.HistoryTold.{Moment, moments_of}
use Rattle.run_spec.specs.Language.{dita}
use Rattle.faithful_examples.proofs.Shown.{lines, all_of, pairs_of, each_number}
use Rattle.faithful_examples.proofs.Verdicts.{Keeps, is_faithful, keeps, none_again, none_made, only, rowless, rowless_form, rowless_rows, shows_one}

abbrev in_t : List ℕ
in_t = codes "t.dita"

abbrev entry : ℕ → ℕ → ℕ → Shown → EntryShown
entry place session number shown = record { place = place; session = session; number = number; shown = shown }

abbrev no_names : Shown
no_names = NamesShown []

abbrev absent : Shown
absent = Refuses IsAbsent

-- No request

nothing_asked : script_of [] ≡ Ok []
unfolding script_of is_utf8 chars encode
nothing_asked = refl

empty_form : (totals : Totals) → totals.entries < 2 → totals.made < 2 → totals.dropped < 2
    → IsTranscript (rowless [] totals)
empty_form totals entries made dropped = rowless_form [] totals tt (omega (arith, entries)) (omega (arith, made))
    (omega (arith, dropped))

empty_keeps : Keeps [] (rowless [] (only 0))
empty_keeps = record {
  places = tt;
  count = refl;
  requests = record {
    sessions = all_of (IsOfSession []) [] tt;
    once = each_number (λ number. count_by (λ (one : EntryShown). one.number == number) [] ≡ 1) [] tt;
    order = pairs_of IsInOrder [] tt;
  };
  replies = all_of ShowsReply [] tt;
  builds = all_of (λ (moment : Moment). ShowsBuild dita [] moment moment.step.request) [] tt;
  rows = rowless_rows [] (only 0);
  again = none_again (only 0);
  counts = none_made [] [];
}

abbrev empty_text : List ℕ
empty_text = lines ("dita transcript 1" ∷ "end 0 0 0" ∷ [])

empty_is : empty_text ≡ transcript_text (rowless [] (only 0))
unfolding digits
empty_is = refl

empty_is_faithful : IsFaithfulTo [] empty_text
empty_is_faithful = is_faithful [] empty_text [] (rowless [] (only 0)) nothing_asked
    (empty_form (only 0) (omega arith) (omega arith) (omega arith)) empty_is empty_keeps

-- a request that was not asked is counted: it falls with its counts
abbrev one_counted : List ℕ
one_counted = lines ("dita transcript 1" ∷ "end 1 0 0" ∷ [])

abbrev one_entry : Totals
one_entry = record { entries = 1; made = 0; dropped = 0 }

one_counted_is : one_counted ≡ transcript_text (rowless [] one_entry)
unfolding digits
one_counted_is = refl

one_counted_falls : IsFaithfulTo [] one_counted → ⊥
one_counted_falls given =
    let kept = keeps [] one_counted [] (rowless [] one_entry) nothing_asked
    (empty_form one_entry (omega arith) (omega arith) (omega arith)) one_counted_is given in
    omega (arith, kept.counts.entries)

-- a row was made, and nothing is built: it falls with its counts
abbrev row_made : List ℕ
row_made = lines ("dita transcript 1" ∷ "end 0 1 0" ∷ [])

abbrev one_row : Totals
one_row = record { entries = 0; made = 1; dropped = 0 }

row_made_is : row_made ≡ transcript_text (rowless [] one_row)
unfolding digits
row_made_is = refl

row_made_falls : IsFaithfulTo [] row_made → ⊥
row_made_falls given =
    let kept = keeps [] row_made [] (rowless [] one_row) nothing_asked
    (empty_form one_row (omega arith) (omega arith) (omega arith)) row_made_is given in
    omega (arith, kept.counts.most (λ place. false) (λ later e. absurd (cc e)))

-- One request for the names

abbrev names_steps : List Step
names_steps = record { session = 1; request = Names } ∷ []

abbrev names_script : List ℕ
names_script = lines ("1 names" ∷ [])

names_asked : script_of names_script ≡ Ok names_steps
unfolding script_of is_utf8 chars encode
names_asked = refl

-- an entry of this session that shows this
abbrev names_entries : ℕ → Shown → List EntryShown
names_entries session shown = entry 0 session 1 shown ∷ []

names_form : (session : ℕ) (shown : Shown) → session < 3 → IsShown shown
    → IsTranscript (rowless (names_entries session shown) (only 1))
names_form session shown small is = rowless_form (names_entries session shown) (only 1)
    (record { place = omega arith; session = omega (arith, small); number = omega arith; shown = is }, tt)
    (omega arith) (omega arith) (omega arith)

none_shown : IsShown no_names
none_shown = (omega arith, all_of IsNameLine [] tt)

names_keeps : Keeps names_steps (rowless (names_entries 1 no_names) (only 1))
names_keeps = record {
  places = (refl, tt);
  count = refl;
  requests = record {
    sessions = all_of (IsOfSession names_steps) (names_entries 1 no_names) (refl, tt);
    once = each_number (λ number. count_by (λ (one : EntryShown). one.number == number) (names_entries 1 no_names) ≡ 1)
        names_steps (refl, tt);
    order = pairs_of IsInOrder (names_entries 1 no_names) (tt, tt);
  };
  replies = all_of ShowsReply (moments_of names_steps (names_entries 1 no_names)) ((None, refl), tt);
  builds = all_of (λ (moment : Moment). ShowsBuild dita [] moment moment.step.request)
      (moments_of names_steps (names_entries 1 no_names)) (tt, tt);
  rows = rowless_rows (names_entries 1 no_names) (only 1);
  again = none_again (only 1);
  counts = none_made names_steps (names_entries 1 no_names);
}

abbrev names_text : List ℕ
names_text = lines ("dita transcript 1" ∷ "entry 0 1 1 names 0" ∷ "end 1 0 0" ∷ [])

names_are : names_text ≡ transcript_text (rowless (names_entries 1 no_names) (only 1))
unfolding digits
names_are = refl

names_are_faithful : IsFaithfulTo names_script names_text
names_are_faithful = is_faithful names_script names_text names_steps (rowless (names_entries 1 no_names) (only 1))
    names_asked (names_form 1 no_names (omega arith) none_shown) names_are names_keeps

-- another reply is told: it falls with the reply at place 0
abbrev names_absent : List ℕ
names_absent = lines ("dita transcript 1" ∷ "entry 0 1 1 absent" ∷ "end 1 0 0" ∷ [])

names_absent_is : names_absent ≡ transcript_text (rowless (names_entries 1 absent) (only 1))
unfolding digits
names_absent_is = refl

names_absent_falls : IsFaithfulTo names_script names_absent → ⊥
names_absent_falls given =
    let kept = keeps names_script names_absent names_steps (rowless (names_entries 1 absent) (only 1)) names_asked
    (names_form 1 absent (omega arith) tt) names_absent_is given in
    let each = recursion_from_All ShowsReply (moments_of names_steps (names_entries 1 absent)) kept.replies in
    cc (shows_one each.0.0 no_names absent each.0.1)

-- another session is told: it falls with the request at place 0
abbrev names_of_two : List ℕ
names_of_two = lines ("dita transcript 1" ∷ "entry 0 2 1 names 0" ∷ "end 1 0 0" ∷ [])

names_of_two_is : names_of_two ≡ transcript_text (rowless (names_entries 2 no_names) (only 1))
unfolding digits
names_of_two_is = refl

names_of_two_falls : IsFaithfulTo names_script names_of_two → ⊥
names_of_two_falls given =
    let kept = keeps names_script names_of_two names_steps (rowless (names_entries 2 no_names) (only 1)) names_asked
    (names_form 2 no_names (omega arith) none_shown) names_of_two_is given in
    let each = recursion_from_All (IsOfSession names_steps) (names_entries 2 no_names) kept.requests.sessions in
    let same : ◌≡◌ {A = ℕ} 1 2 = same_Some 1 2 each.0 in omega (arith, same)

-- One request of each of two sessions: there is no such document

abbrev two_steps : List Step
two_steps = record { session = 1; request = Get in_t } ∷ record { session = 2; request = Single (Remove in_t) } ∷ []

abbrev two_script : List ℕ
two_script = lines ("1 get t.dita" ∷ "2 remove t.dita" ∷ [])

two_asked : script_of two_script ≡ Ok two_steps
unfolding script_of is_utf8 chars encode
two_asked = refl

-- the first entry is of this session, and the second of this: each of the request whose number is that of its session
abbrev two_entries : ℕ → ℕ → List EntryShown
two_entries first second = entry 0 first first absent ∷ entry 1 second second absent ∷ []

two_form : (first second : ℕ) → first < 3 → second < 3 → IsTranscript (rowless (two_entries first second) (only 2))
two_form first second small too = rowless_form (two_entries first second) (only 2) (
  record { place = omega arith; session = omega (arith, small); number = omega (arith, small); shown = tt },
  (
    record { place = omega arith; session = omega (arith, too); number = omega (arith, too); shown = tt },
    tt,
  ),
) (omega arith) (omega arith) (omega arith)

two_keeps : Keeps two_steps (rowless (two_entries 1 2) (only 2))
two_keeps = record {
  places = (refl, (refl, tt));
  count = refl;
  requests = record {
    sessions = all_of (IsOfSession two_steps) (two_entries 1 2) (refl, (refl, tt));
    once = each_number (λ number. count_by (λ (one : EntryShown). one.number == number) (two_entries 1 2) ≡ 1) two_steps
        (refl, (refl, tt));
    order = pairs_of IsInOrder (two_entries 1 2) ((λ same. absurd (omega (arith, same)), tt), (tt, tt));
  };
  replies = all_of ShowsReply (moments_of two_steps (two_entries 1 2)) ((None, refl), ((None, refl), tt));
  builds = all_of (λ (moment : Moment). ShowsBuild dita [] moment moment.step.request)
      (moments_of two_steps (two_entries 1 2)) (tt, (tt, tt));
  rows = rowless_rows (two_entries 1 2) (only 2);
  again = none_again (only 2);
  counts = none_made two_steps (two_entries 1 2);
}

other_keeps : Keeps two_steps (rowless (two_entries 2 1) (only 2))
other_keeps = record {
  places = (refl, (refl, tt));
  count = refl;
  requests = record {
    sessions = all_of (IsOfSession two_steps) (two_entries 2 1) (refl, (refl, tt));
    once = each_number (λ number. count_by (λ (one : EntryShown). one.number == number) (two_entries 2 1) ≡ 1) two_steps
        (refl, (refl, tt));
    order = pairs_of IsInOrder (two_entries 2 1) ((λ same. absurd (omega (arith, same)), tt), (tt, tt));
  };
  replies = all_of ShowsReply (moments_of two_steps (two_entries 2 1)) ((None, refl), ((None, refl), tt));
  builds = all_of (λ (moment : Moment). ShowsBuild dita [] moment moment.step.request)
      (moments_of two_steps (two_entries 2 1)) (tt, (tt, tt));
  rows = rowless_rows (two_entries 2 1) (only 2);
  again = none_again (only 2);
  counts = none_made two_steps (two_entries 2 1);
}

abbrev two_text : List ℕ
two_text = lines ("dita transcript 1" ∷ "entry 0 1 1 absent" ∷ "entry 1 2 2 absent" ∷ "end 2 0 0" ∷ [])

two_are : two_text ≡ transcript_text (rowless (two_entries 1 2) (only 2))
unfolding digits
two_are = refl

two_are_faithful : IsFaithfulTo two_script two_text
two_are_faithful = is_faithful two_script two_text two_steps (rowless (two_entries 1 2) (only 2)) two_asked
    (two_form 1 2 (omega arith) (omega arith)) two_are two_keeps

-- the second session comes first: it is faithful too
abbrev other_text : List ℕ
other_text = lines ("dita transcript 1" ∷ "entry 0 2 2 absent" ∷ "entry 1 1 1 absent" ∷ "end 2 0 0" ∷ [])

other_are : other_text ≡ transcript_text (rowless (two_entries 2 1) (only 2))
unfolding digits
other_are = refl

other_are_faithful : IsFaithfulTo two_script other_text
other_are_faithful = is_faithful two_script other_text two_steps (rowless (two_entries 2 1) (only 2)) two_asked
    (two_form 2 1 (omega arith) (omega arith)) other_are other_keeps

-- one request is told twice: it falls with the request at place 1
abbrev twice_told : List ℕ
twice_told = lines ("dita transcript 1" ∷ "entry 0 1 1 absent" ∷ "entry 1 1 1 absent" ∷ "end 2 0 0" ∷ [])

twice_is : twice_told ≡ transcript_text (rowless (two_entries 1 1) (only 2))
unfolding digits
twice_is = refl

twice_falls : IsFaithfulTo two_script twice_told → ⊥
twice_falls given =
    let kept = keeps two_script twice_told two_steps (rowless (two_entries 1 1) (only 2)) two_asked
    (two_form 1 1 (omega arith) (omega arith)) twice_is given in
    omega (arith, kept.requests.order 0 1 (entry 1 1 1 absent) (omega arith) (omega arith) refl)

-- Two requests of one session

abbrev pair_steps : List Step
pair_steps = record { session = 1; request = Get in_t } ∷ record { session = 1; request = Names } ∷ []

abbrev pair_script : List ℕ
pair_script = lines ("1 get t.dita" ∷ "1 names" ∷ [])

pair_asked : script_of pair_script ≡ Ok pair_steps
unfolding script_of is_utf8 chars encode
pair_asked = refl

abbrev pair_entries : List EntryShown
pair_entries = entry 0 1 1 absent ∷ entry 1 1 2 no_names ∷ []

pair_form : IsTranscript (rowless pair_entries (only 2))
pair_form = rowless_form pair_entries (only 2) (
  record { place = omega arith; session = omega arith; number = omega arith; shown = tt },
  (record { place = omega arith; session = omega arith; number = omega arith; shown = none_shown }, tt),
) (omega arith) (omega arith) (omega arith)

pair_keeps : Keeps pair_steps (rowless pair_entries (only 2))
pair_keeps = record {
  places = (refl, (refl, tt));
  count = refl;
  requests = record {
    sessions = all_of (IsOfSession pair_steps) pair_entries (refl, (refl, tt));
    once = each_number (λ number. count_by (λ (one : EntryShown). one.number == number) pair_entries ≡ 1) pair_steps
        (refl, (refl, tt));
    order = pairs_of IsInOrder pair_entries ((λ same. omega arith, tt), (tt, tt));
  };
  replies = all_of ShowsReply (moments_of pair_steps pair_entries) ((None, refl), ((None, refl), tt));
  builds = all_of (λ (moment : Moment). ShowsBuild dita [] moment moment.step.request)
      (moments_of pair_steps pair_entries) (tt, (tt, tt));
  rows = rowless_rows pair_entries (only 2);
  again = none_again (only 2);
  counts = none_made pair_steps pair_entries;
}

abbrev pair_text : List ℕ
pair_text = lines ("dita transcript 1" ∷ "entry 0 1 1 absent" ∷ "entry 1 1 2 names 0" ∷ "end 2 0 0" ∷ [])

pair_is : pair_text ≡ transcript_text (rowless pair_entries (only 2))
unfolding digits
pair_is = refl

pair_is_faithful : IsFaithfulTo pair_script pair_text
pair_is_faithful = is_faithful pair_script pair_text pair_steps (rowless pair_entries (only 2)) pair_asked pair_form
    pair_is pair_keeps

-- they are swapped: it falls with the request at place 1
abbrev swapped_entries : List EntryShown
swapped_entries = entry 0 1 2 no_names ∷ entry 1 1 1 absent ∷ []

swapped_form : IsTranscript (rowless swapped_entries (only 2))
swapped_form = rowless_form swapped_entries (only 2) (
  record { place = omega arith; session = omega arith; number = omega arith; shown = none_shown },
  (record { place = omega arith; session = omega arith; number = omega arith; shown = tt }, tt),
) (omega arith) (omega arith) (omega arith)

abbrev swapped : List ℕ
swapped = lines ("dita transcript 1" ∷ "entry 0 1 2 names 0" ∷ "entry 1 1 1 absent" ∷ "end 2 0 0" ∷ [])

swapped_is : swapped ≡ transcript_text (rowless swapped_entries (only 2))
unfolding digits
swapped_is = refl

swapped_falls : IsFaithfulTo pair_script swapped → ⊥
swapped_falls given =
    let kept = keeps pair_script swapped pair_steps (rowless swapped_entries (only 2)) pair_asked swapped_form
    swapped_is given in
    omega (arith, kept.requests.order 0 1 (entry 1 1 1 absent) (omega arith) (omega arith) refl)

-- the second is missing: it falls with its entries
abbrev first_alone : List EntryShown
first_alone = entry 0 1 1 absent ∷ []

first_form : IsTranscript (rowless first_alone (only 2))
first_form = rowless_form first_alone (only 2)
    (record { place = omega arith; session = omega arith; number = omega arith; shown = tt }, tt)
    (omega arith) (omega arith) (omega arith)

abbrev missing : List ℕ
missing = lines ("dita transcript 1" ∷ "entry 0 1 1 absent" ∷ "end 2 0 0" ∷ [])

missing_is : missing ≡ transcript_text (rowless first_alone (only 2))
unfolding digits
missing_is = refl

missing_falls : IsFaithfulTo pair_script missing → ⊥
missing_falls given =
    let kept = keeps pair_script missing pair_steps (rowless first_alone (only 2)) pair_asked first_form missing_is
    given in
    omega (arith, kept.count)
