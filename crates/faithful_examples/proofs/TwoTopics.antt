-- A map with two topics that is built, again once one topic has one paragraph more, and again once the other has another
-- title, with the language that is published. The second build makes the page of the first topic anew and nothing else,
-- so five rows are made. The third makes the page of the second topic and the contents page, so that seven are made, and
-- cites for the first topic the row that the second build made.
use Rattle.std.specs.Prelude.{◌≡◌, ◌≢◌, ◌+◌, ℕ, zero, suc, Bool, true, false, List, [], ◌∷◌, None, Some, Contains, codes, if◌then◌else◌, length, slice_get}
use Rattle.std.proofs.Common.{refl, ap, sym, subst, ◌∙◌, arith}
use Rattle.std.proofs.lemmas.Option.{none-some, same_Some}
use Rattle.desk_language.specs.Language.{bytes_of_parts}
use Rattle.dita_doc.specs.Desk.{State, version_at}
use Rattle.reader_spec.specs.World.{world_of}
use Rattle.transcript_text.specs.Transcript.{BuiltPages, EntryShown, InRow, IsContents, IsPage, OfBuild, PageShown, PartShown, RowShown, StoredAt, Totals, Transcript, reply_shown}
use Rattle.run_spec.specs.Cites.{ShowsBuilt}
use Rattle.run_spec.specs.Faithful.{CitesAgain, CitesEachRow, CountsRight, Repeats, ShowsBuild, ShowsBuilds, ShowsReply, ShowsReplies, serials_cited}
use Rattle.run_spec.specs.HistoryTold.{BuildTold, Moment, builds_told, moments_of}
use Rattle.run_spec.specs.Language.{dita}
use Rattle.run_spec.specs.Reached.{Given, IsReached, Started, names_given}
use Rattle.faithful_examples.proofs.OneTopic.{in_m}
use Rattle.faithful_examples.proofs.Shown.{all_of, pairs_of}
use Rattle.faithful_examples.proofs.TwoRead.{in_a, in_b}
use Rattle.faithful_examples.proofs.TwoStored.{a_page, a_reply, at_first, at_second, at_third, b_page, b_reply, build_of, contents_page, first_clean, first_is, first_parts, first_state, longer_page, longer_reply, map_reply, other_contents, other_page, other_reply, second_clean, second_is, second_parts, second_state, short_steps, steps, third_clean, third_is, third_parts}

-- The transcripts

abbrev pub row : ℕ → PartShown → List (List ℕ) → RowShown
row serial part text = record { serial = serial; part = part; map = in_m; val = None; lines = text }

abbrev pub short_rows : List RowShown
short_rows = row 2 (IsPage 0) a_page ∷ row 3 (IsPage 1) b_page ∷ row 4 IsContents contents_page ∷ row 5 (IsPage 0) longer_page
    ∷ []

abbrev pub rows : List RowShown
rows = row 2 (IsPage 0) a_page ∷ row 3 (IsPage 1) b_page ∷ row 4 IsContents contents_page ∷ row 5 (IsPage 0) longer_page
    ∷ row 6 (IsPage 1) other_page ∷ row 7 IsContents other_contents ∷ []

abbrev pub pages : ℕ → ℕ → ℕ → List PageShown
pages first second last = record { name = codes "a.html"; mark = InRow first }
    ∷ record { name = codes "b.html"; mark = InRow second } ∷ record { name = codes "index.html"; mark = InRow last } ∷ []

abbrev pub stores : ℕ → ℕ → EntryShown
stores place version = record { place = place; session = 1; number = place + 1; shown = StoredAt version }

abbrev pub builds : ℕ → ℕ → ℕ → ℕ → EntryShown
builds place first second last = record {
  place = place;
  session = 1;
  number = place + 1;
  shown = OfBuild (BuiltPages (pages first second last) []);
}

abbrev pub short_entries : List EntryShown
short_entries = stores 0 1 ∷ stores 1 2 ∷ stores 2 3 ∷ builds 3 2 3 4 ∷ stores 4 5 ∷ builds 5 5 3 4 ∷ []

abbrev pub entries : List EntryShown
entries = stores 0 1 ∷ stores 1 2 ∷ stores 2 3 ∷ builds 3 2 3 4 ∷ stores 4 5 ∷ builds 5 5 3 4 ∷ stores 6 7
    ∷ builds 7 5 6 7 ∷ []

abbrev pub end : ℕ → ℕ → Totals
end count made = record { entries = count; made = made; dropped = 0 }

abbrev pub short_transcript : Transcript
short_transcript = record { entries = short_entries; rows = short_rows; totals = end 6 5 }

abbrev pub transcript : Transcript
transcript = record { entries = entries; rows = rows; totals = end 8 7 }

-- Replies

pub short_replies : ShowsReplies short_steps short_entries
short_replies = all_of ShowsReply (moments_of short_steps short_entries) (
  (None, ap (λ answer. reply_shown answer None) map_reply),
  (
    (None, ap (λ answer. reply_shown answer None) a_reply),
    (
      (None, ap (λ answer. reply_shown answer None) b_reply),
      (
        (Some (BuiltPages (pages 2 3 4) []), refl),
        (
          (None, ap (λ answer. reply_shown answer None) longer_reply),
          ((Some (BuiltPages (pages 5 3 4) []), refl), tt),
        ),
      ),
    ),
  ),
)

pub its_replies : ShowsReplies steps entries
its_replies = all_of ShowsReply (moments_of steps entries) (
  (None, ap (λ answer. reply_shown answer None) map_reply),
  (
    (None, ap (λ answer. reply_shown answer None) a_reply),
    (
      (None, ap (λ answer. reply_shown answer None) b_reply),
      (
        (Some (BuiltPages (pages 2 3 4) []), refl),
        (
          (None, ap (λ answer. reply_shown answer None) longer_reply),
          (
            (Some (BuiltPages (pages 5 3 4) []), refl),
            (
              (None, ap (λ answer. reply_shown answer None) other_reply),
              ((Some (BuiltPages (pages 5 6 7) []), refl), tt),
            ),
          ),
        ),
      ),
    ),
  ),
)

-- Builds

short_first : ShowsBuilt short_rows in_m None (build_of a_page b_page contents_page) (OfBuild (BuiltPages (pages 2 3 4) []))
short_first = (
  pages 2 3 4,
  refl,
  (
    record { named = refl; serial = 2; cited = refl; lines = a_page; bytes = refl; stands = (0, omega arith, refl) },
    (
      record { named = refl; serial = 3; cited = refl; lines = b_page; bytes = refl; stands = (1, omega arith, refl) },
      (
        record {
          named = refl;
          serial = 4;
          cited = refl;
          lines = contents_page;
          bytes = refl;
          stands = (2, omega arith, refl);
        },
        refl,
      ),
    ),
  ),
)

short_second : ShowsBuilt short_rows in_m None (build_of longer_page b_page contents_page) (OfBuild (BuiltPages (pages 5 3 4) []))
short_second = (
  pages 5 3 4,
  refl,
  (
    record {
      named = refl;
      serial = 5;
      cited = refl;
      lines = longer_page;
      bytes = refl;
      stands = (3, omega arith, refl);
    },
    (
      record { named = refl; serial = 3; cited = refl; lines = b_page; bytes = refl; stands = (1, omega arith, refl) },
      (
        record {
          named = refl;
          serial = 4;
          cited = refl;
          lines = contents_page;
          bytes = refl;
          stands = (2, omega arith, refl);
        },
        refl,
      ),
    ),
  ),
)

shows_first : ShowsBuilt rows in_m None (build_of a_page b_page contents_page) (OfBuild (BuiltPages (pages 2 3 4) []))
shows_first = (
  pages 2 3 4,
  refl,
  (
    record { named = refl; serial = 2; cited = refl; lines = a_page; bytes = refl; stands = (0, omega arith, refl) },
    (
      record { named = refl; serial = 3; cited = refl; lines = b_page; bytes = refl; stands = (1, omega arith, refl) },
      (
        record {
          named = refl;
          serial = 4;
          cited = refl;
          lines = contents_page;
          bytes = refl;
          stands = (2, omega arith, refl);
        },
        refl,
      ),
    ),
  ),
)

shows_second : ShowsBuilt rows in_m None (build_of longer_page b_page contents_page) (OfBuild (BuiltPages (pages 5 3 4) []))
shows_second = (
  pages 5 3 4,
  refl,
  (
    record {
      named = refl;
      serial = 5;
      cited = refl;
      lines = longer_page;
      bytes = refl;
      stands = (3, omega arith, refl);
    },
    (
      record { named = refl; serial = 3; cited = refl; lines = b_page; bytes = refl; stands = (1, omega arith, refl) },
      (
        record {
          named = refl;
          serial = 4;
          cited = refl;
          lines = contents_page;
          bytes = refl;
          stands = (2, omega arith, refl);
        },
        refl,
      ),
    ),
  ),
)

shows_third : ShowsBuilt rows in_m None (build_of longer_page other_page other_contents) (OfBuild (BuiltPages (pages 5 6 7) []))
shows_third = (
  pages 5 6 7,
  refl,
  (
    record {
      named = refl;
      serial = 5;
      cited = refl;
      lines = longer_page;
      bytes = refl;
      stands = (3, omega arith, refl);
    },
    (
      record {
        named = refl;
        serial = 6;
        cited = refl;
        lines = other_page;
        bytes = refl;
        stands = (4, omega arith, refl);
      },
      (
        record {
          named = refl;
          serial = 7;
          cited = refl;
          lines = other_contents;
          bytes = refl;
          stands = (5, omega arith, refl);
        },
        refl,
      ),
    ),
  ),
)

pub short_builds : ShowsBuilds dita short_steps short_transcript
short_builds = all_of (λ (moment : Moment). ShowsBuild dita short_rows moment moment.step.request)
    (moments_of short_steps short_entries) (
      tt,
      (
        tt,
        (
          tt,
          (
            subst (λ built. ShowsBuilt short_rows in_m None built (OfBuild (BuiltPages (pages 2 3 4) []))) (sym first_clean) short_first,
            (
              tt,
              (
                subst (λ built. ShowsBuilt short_rows in_m None built (OfBuild (BuiltPages (pages 5 3 4) []))) (sym second_clean) short_second,
                tt,
              ),
            ),
          ),
        ),
      ),
    )

pub its_builds : ShowsBuilds dita steps transcript
its_builds = all_of (λ (moment : Moment). ShowsBuild dita rows moment moment.step.request) (moments_of steps entries) (
  tt,
  (
    tt,
    (
      tt,
      (
        subst (λ built. ShowsBuilt rows in_m None built (OfBuild (BuiltPages (pages 2 3 4) []))) (sym first_clean) shows_first,
        (
          tt,
          (
            subst (λ built. ShowsBuilt rows in_m None built (OfBuild (BuiltPages (pages 5 3 4) []))) (sym second_clean) shows_second,
            (
              tt,
              (
                subst (λ built. ShowsBuilt rows in_m None built (OfBuild (BuiltPages (pages 5 6 7) []))) (sym third_clean) shows_third,
                tt,
              ),
            ),
          ),
        ),
      ),
    ),
  ),
)

-- Rows

pub short_cites : CitesEachRow short_transcript
short_cites = record {
  different = pairs_of (λ (first other : RowShown). first.serial ≢ other.serial) short_rows (
    (λ same. omega (arith, same), (λ same. omega (arith, same), (λ same. omega (arith, same), tt))),
    ((λ same. omega (arith, same), (λ same. omega (arith, same), tt)), ((λ same. omega (arith, same), tt), (tt, tt))),
  );
  cited = all_of (λ (one : RowShown). Contains (serials_cited short_entries) one.serial) short_rows
      ((0, omega arith, refl), ((1, omega arith, refl), ((2, omega arith, refl), ((3, omega arith, refl), tt))));
}

pub its_cites : CitesEachRow transcript
its_cites = record {
  different = pairs_of (λ (first other : RowShown). first.serial ≢ other.serial) rows (
    (
      λ same. omega (arith, same),
      (
        λ same. omega (arith, same),
        (λ same. omega (arith, same), (λ same. omega (arith, same), (λ same. omega (arith, same), tt))),
      ),
    ),
    (
      (
        λ same. omega (arith, same),
        (λ same. omega (arith, same), (λ same. omega (arith, same), (λ same. omega (arith, same), tt))),
      ),
      (
        (λ same. omega (arith, same), (λ same. omega (arith, same), (λ same. omega (arith, same), tt))),
        (
          (λ same. omega (arith, same), (λ same. omega (arith, same), tt)),
          ((λ same. omega (arith, same), tt), (tt, tt)),
        ),
      ),
    ),
  );
  cited = all_of (λ (one : RowShown). Contains (serials_cited entries) one.serial) rows (
    (0, omega arith, refl),
    (
      (1, omega arith, refl),
      (
        (2, omega arith, refl),
        (
          (3, omega arith, refl),
          ((7, omega arith, refl), ((8, omega arith, refl), tt)),
        ),
      ),
    ),
  );
}

-- No build repeats another: between two builds of the map each reaches what was stored anew

abbrev build_told : State → ℕ → ℕ → ℕ → BuildTold
build_told state first second last =
    record { session = 1; root = in_m; val = None; state = state; cited = first ∷ second ∷ last ∷ [] }

abbrev pub short_told : List BuildTold
short_told = builds_told short_steps short_entries

abbrev told : List BuildTold
told = builds_told steps entries

first_names : names_given (world_of first_state) in_m ≡ in_a ∷ in_b ∷ []
first_names = refl

second_names : names_given (world_of second_state) in_m ≡ in_a ∷ in_b ∷ []
second_names = refl

a_reached : IsReached (world_of at_first) in_m None in_a
a_reached = subst (λ state. IsReached (world_of state) in_m None in_a) (sym first_is)
    (Given in_m in_a (Started in_m (0, omega arith, refl))
    (subst (λ names. Contains names in_a) (sym first_names) (0, omega arith, refl)))

b_reached : IsReached (world_of at_second) in_m None in_b
b_reached = subst (λ state. IsReached (world_of state) in_m None in_b) (sym second_is)
    (Given in_m in_b (Started in_m (0, omega arith, refl))
    (subst (λ names. Contains names in_b) (sym second_names) (1, omega arith, refl)))

first_version : version_at at_first in_a ≡ 2
first_version = ap (λ state. version_at state in_a) first_is

second_version : version_at at_second in_a ≡ 5
second_version = ap (λ state. version_at state in_a) second_is

other_before : version_at at_second in_b ≡ 3
other_before = ap (λ state. version_at state in_b) second_is

other_after : version_at at_third in_b ≡ 7
other_after = ap (λ state. version_at state in_b) third_is

-- builds that know another version of a name which the first of them reaches
changed : (all : List BuildTold) (at later : ℕ) (one two : BuildTold) (name : List ℕ) (before after : ℕ)
    → slice_get all at ≡ Some one → slice_get all later ≡ Some two → dita.Reaches one.state one.root one.val name
    → version_at one.state name ≡ before → version_at two.state name ≡ after → (before ≡ after → ⊥)
    → Repeats dita all at later → ⊥
changed all at later one two name before after there behind reached old new differ repeats =
    let first = same_Some one repeats.first (sym there ∙ repeats.is_first) in
    let second = same_Some two repeats.second (sym behind ∙ repeats.is_second) in
    let same = repeats.unchanged name (subst (λ (b : BuildTold). dita.Reaches b.state b.root b.val name) first reached) in
    differ (sym old ∙ ap (λ (b : BuildTold). version_at b.state name) first ∙ sym same
    ∙ sym (ap (λ (b : BuildTold). version_at b.state name) second) ∙ new)

short_repeats : (at later : ℕ) → Repeats dita short_told at later → ⊥
short_repeats at zero repeats = omega (arith, repeats.before)
short_repeats zero (suc zero) repeats = changed short_told 0 1 (build_told at_first 2 3 4) (build_told at_second 5 3 4) in_a
    2 5 refl refl a_reached first_version second_version (λ same. omega (arith, same)) repeats
short_repeats (suc at) (suc zero) repeats = omega (arith, repeats.before)
short_repeats at (suc (suc later)) repeats = none-some repeats.second repeats.is_second

none_repeats : (at later : ℕ) → Repeats dita told at later → ⊥
none_repeats at zero repeats = omega (arith, repeats.before)
none_repeats zero (suc zero) repeats = changed told 0 1 (build_told at_first 2 3 4) (build_told at_second 5 3 4) in_a 2 5
    refl refl a_reached first_version second_version (λ same. omega (arith, same)) repeats
none_repeats (suc at) (suc zero) repeats = omega (arith, repeats.before)
none_repeats zero (suc (suc zero)) repeats =
    let one = same_Some (build_told at_first 2 3 4) repeats.first repeats.is_first in
    repeats.next 1 (build_told at_second 5 3 4) (omega arith) (omega arith) refl
    (record { root = ap (λ (b : BuildTold). b.root) one; val = ap (λ (b : BuildTold). b.val) one })
none_repeats (suc zero) (suc (suc zero)) repeats = changed told 1 2 (build_told at_second 5 3 4) (build_told at_third 5 6 7)
    in_b 3 7 refl refl b_reached other_before other_after (λ same. omega (arith, same)) repeats
none_repeats (suc (suc at)) (suc (suc zero)) repeats = omega (arith, repeats.before)
none_repeats at (suc (suc (suc later))) repeats = none-some repeats.second repeats.is_second

pub short_again : CitesAgain dita (end 6 5) short_told
short_again none at later repeats = absurd (short_repeats at later repeats)

pub its_again : CitesAgain dita (end 8 7) told
its_again none at later repeats = absurd (none_repeats at later repeats)

-- Counts: each build has four parts

abbrev pub parts_if : Bool → State → ℕ
parts_if chosen state = if chosen then 0 else length (bytes_of_parts dita state in_m None)

pub four_if : (chosen : Bool) (state : State) (bytes : List ℕ) → bytes_of_parts dita state in_m None ≡ bytes
    → length bytes ≡ 4 → (chosen ≡ true → ⊥) → parts_if chosen state ≡ 4
four_if true state bytes are four none = absurd (none refl)
four_if false state bytes are four none = ap (λ (xs : List ℕ). length xs) are ∙ four

pub short_counts : CountsRight dita short_steps short_transcript short_told
short_counts = record {
  entries = refl;
  fewer = omega arith;
  fits = λ small. refl;
  rows = omega arith;
  most = λ chosen chooses.
      let first : parts_if (chosen 0) at_first ≡ 4 = four_if (chosen 0) at_first _ first_parts refl (λ e.
      let repeats = (chooses 0 e).1 in short_repeats repeats.0 0 repeats.1) in
      let second : parts_if (chosen 1) at_second ≡ 4 = four_if (chosen 1) at_second _ second_parts refl (λ e.
      let repeats = (chooses 1 e).1 in short_repeats repeats.0 1 repeats.1) in
      omega (arith, first, second);
}

pub its_counts : CountsRight dita steps transcript told
its_counts = record {
  entries = refl;
  fewer = omega arith;
  fits = λ small. refl;
  rows = omega arith;
  most = λ chosen chooses.
      let first : parts_if (chosen 0) at_first ≡ 4 = four_if (chosen 0) at_first _ first_parts refl (λ e.
      let repeats = (chooses 0 e).1 in none_repeats repeats.0 0 repeats.1) in
      let second : parts_if (chosen 1) at_second ≡ 4 = four_if (chosen 1) at_second _ second_parts refl (λ e.
      let repeats = (chooses 1 e).1 in none_repeats repeats.0 1 repeats.1) in
      let third : parts_if (chosen 2) at_third ≡ 4 = four_if (chosen 2) at_third _ third_parts refl (λ e.
      let repeats = (chooses 2 e).1 in none_repeats repeats.0 2 repeats.1) in
      omega (arith, first, second, third);
}
