-- A script that stores a map without references and builds it twice, with the language that is published: the second
-- build cites the row of the first, and makes nothing. Then two other texts: the clause and the place at which each
-- falls stand above it.
use Prim.Native.String.{String}
use Rattle.std.specs.Fmt.{digits}
use Rattle.std.specs.Prelude.{◌≡◌, ◌≢◌, ◌==◌, ◌+◌, ◌<◌, ◌++◌, ℕ, zero, suc, Bool, true, false, List, [], ◌∷◌, None, Some, Ok, Contains, codes, count_by, if◌then◌else◌, length, slice_get, sum}
use Rattle.std.specs.List.{AllByRecursion}
use Rattle.std.specs.Str.{is_utf8, chars}
use Rattle.std.proofs.Common.{refl, ap, sym, subst, ◌∙◌, arith}
use Rattle.std.proofs.lemmas.Option.{none-some, same_Some}
use lib.Utf8.{encode}
use Rattle.desk_language.specs.Language.{bytes_of_parts}
use Rattle.dita_doc.specs.Desk.{State, next}
use Rattle.dita_doc.specs.Request.{Build, Request}
use Rattle.script_text.specs.Script.{Step, script_of}
use Rattle.transcript_text.specs.Transcript.{BuiltPages, EntryShown, InRow, IsEntryShown, IsFaultShown, IsPageShown, IsRowShown, IsTranscript, NeverFall, OfBuild, PageShown, RowShown, Transcript, reply_shown, transcript_text}
use Rattle.run_spec.specs.Cites.{ShowsBuilt}
use Rattle.run_spec.specs.Faithful.{CitesAgain, CitesEachRow, CountsRight, IsFaithfulTo, IsInOrder, IsOfSession, Repeats, ShowsBuild, ShowsBuilds, ShowsReply, ShowsReplies, TakesEachOnce, serials_cited}
use Rattle.run_spec.specs.HistoryTold.{BuildTold, Moment, builds_told, moments_of}
use Rattle.run_spec.specs.Language.{dita}
use Rattle.faithful_examples.proofs.BuildAgain.{not_three}
use Rattle.faithful_examples.proofs.OneMap.{build, in_m, its_build, its_parts, page_lines, put, put_reply, row, row_form, stores}
use Rattle.faithful_examples.proofs.Shown.{lines, all_of, pairs_of, each_number}
use Rattle.faithful_examples.proofs.Verdicts.{is_faithful, keeps}

abbrev asks : Request → Step
asks request = record { session = 1; request = request }

abbrev steps : List Step
steps = asks put ∷ asks (Build in_m None) ∷ asks (Build in_m None) ∷ []

abbrev script : List ℕ
script = lines ("1 put m.ditamap" ∷ "(map" ∷ "Aclass - map/map " ∷ ")map" ∷ "." ∷ "1 build m.ditamap"
    ∷ "1 build m.ditamap" ∷ [])

asked : script_of script ≡ Ok steps
unfolding script_of is_utf8 chars encode
asked = refl

-- The transcript: the second build cites the row of this serial

abbrev pages : ℕ → List PageShown
pages serial = record { name = codes "index.html"; mark = InRow serial } ∷ []

abbrev built : ℕ → ℕ → EntryShown
built place serial =
    record { place = place; session = 1; number = place + 1; shown = OfBuild (BuiltPages (pages serial) []) }

abbrev entries : ℕ → List EntryShown
entries serial = stores 1 ∷ built 1 2 ∷ built 2 serial ∷ []

abbrev one_row : List RowShown
one_row = row 2 page_lines ∷ []

abbrev two_rows : List RowShown
two_rows = row 2 page_lines ∷ row 3 page_lines ∷ []

abbrev transcript : ℕ → List RowShown → ℕ → Transcript
transcript serial rows made =
    record { entries = entries serial; rows = rows; totals = record { entries = 3; made = made; dropped = 0 } }

abbrev row_text : String → List String
row_text head = head ∷ "|<!DOCTYPE html>" ∷ "|<html><head><meta charset=\"utf-8\"><title>Contents</title></head>"
    ∷ "|<body>" ∷ "|<nav class=\"toc\"><h1>Contents</h1></nav>" ∷ "|</body></html>" ∷ []

abbrev text : String → List String → String → List ℕ
text cited rows end = lines ("dita transcript 1" ∷ "entry 0 1 1 stored 1" ∷ "entry 1 1 2 built 1 0"
    ∷ "|page index.html row 2" ∷ "entry 2 1 3 built 1 0" ∷ cited ∷ rows ++ (end ∷ []))

-- Its form

built_form : (place serial : ℕ) → place < 3 → serial < 9 → IsEntryShown (built place serial)
unfolding is_utf8 chars encode
built_form place serial low small = record {
  place = omega (arith, low);
  session = omega arith;
  number = omega (arith, low);
  shown = (
    omega arith,
    omega arith,
    all_of IsPageShown (pages serial)
        (record { name = record { named = refl; utf8 = refl }; mark = omega (arith, small) }, tt),
    all_of IsFaultShown [] tt,
  );
}

second_row_form : IsRowShown (row 3 page_lines)
second_row_form = record {
  serial = omega arith;
  index = row_form.index;
  map = row_form.map;
  val = tt;
  count = row_form.count;
  lines = row_form.lines;
}

form : (serial : ℕ) (rows : List RowShown) (made : ℕ) → serial < 9 → made < 9 → AllByRecursion IsRowShown rows
    → NeverFall 0 rows → IsTranscript (transcript serial rows made)
form serial rows made small few each rising = record {
  entries = all_of IsEntryShown (entries serial) (
    record { place = omega arith; session = omega arith; number = omega arith; shown = omega arith },
    (built_form 1 2 (omega arith) (omega arith), (built_form 2 serial (omega arith) small, tt)),
  );
  rows = all_of IsRowShown rows each;
  rising = rising;
  counted = omega arith;
  made = omega (arith, few);
  dropped = omega arith;
}

-- Its clauses

its_requests : TakesEachOnce steps (entries 2)
its_requests = record {
  sessions = all_of (IsOfSession steps) (entries 2) (refl, (refl, (refl, tt)));
  once = each_number (λ number. count_by (λ (entry : EntryShown). entry.number == number) (entries 2) ≡ 1) steps
      (refl, (refl, (refl, tt)));
  order = pairs_of IsInOrder (entries 2)
      ((λ same. omega arith, (λ same. omega arith, tt)), ((λ same. omega arith, tt), (tt, tt)));
}

its_replies : ShowsReplies steps (entries 2)
its_replies = all_of ShowsReply (moments_of steps (entries 2)) (
  (None, ap (λ answer. reply_shown answer None) put_reply),
  ((Some (BuiltPages (pages 2) []), refl), ((Some (BuiltPages (pages 2) []), refl), tt)),
)

shows_page : ShowsBuilt one_row in_m None build (OfBuild (BuiltPages (pages 2) []))
shows_page = (
  pages 2,
  refl,
  (
    record {
      named = refl;
      serial = 2;
      cited = refl;
      lines = page_lines;
      bytes = refl;
      stands = (0, omega arith, refl);
    },
    refl,
  ),
)

shows_there : ShowsBuilt one_row in_m None (dita.clean (next [] 0 put) in_m None) (OfBuild (BuiltPages (pages 2) []))
shows_there =
    subst (λ given. ShowsBuilt one_row in_m None given (OfBuild (BuiltPages (pages 2) []))) (sym its_build) shows_page

its_builds : ShowsBuilds dita steps (transcript 2 one_row 2)
its_builds = all_of (λ (moment : Moment). ShowsBuild dita one_row moment moment.step.request)
    (moments_of steps (entries 2)) (tt, (shows_there, (shows_there, tt)))

its_rows : CitesEachRow (transcript 2 one_row 2)
its_rows = record {
  different = pairs_of (λ (first other : RowShown). first.serial ≢ other.serial) one_row (tt, tt);
  cited = all_of (λ (one : RowShown). Contains (serials_cited (entries 2)) one.serial) one_row
      ((0, omega arith, refl), tt);
}

-- The builds: whatever it cites, the second repeats the first

abbrev stored : State
stored = next [] 0 put

abbrev build_told : ℕ → BuildTold
build_told serial = record { session = 1; root = in_m; val = None; state = stored; cited = serial ∷ [] }

abbrev told : ℕ → List BuildTold
told serial = builds_told steps (entries serial)

of_session_one : (serial place : ℕ) (other : BuildTold) → slice_get (told serial) place ≡ Some other
    → other.session ≡ 1
of_session_one serial zero other is = sym (ap (λ (one : BuildTold). one.session) (same_Some _ other is))
of_session_one serial (suc zero) other is = sym (ap (λ (one : BuildTold). one.session) (same_Some _ other is))
of_session_one serial (suc (suc place)) other is = absurd (none-some other is)

abbrev second_repeats : (serial : ℕ) → Repeats dita (told serial) 0 1
second_repeats serial = record {
  first = build_told 2;
  second = build_told serial;
  is_first = refl;
  is_second = refl;
  before = omega arith;
  key = record { root = refl; val = refl };
  session = refl;
  alone = λ place other is key. of_session_one serial place other is;
  next = λ between other above below is key. omega (arith, above, below);
  unchanged = λ name reached. refl;
}

cites_two : (place : ℕ) (one : BuildTold) → slice_get (told 2) place ≡ Some one → one.cited ≡ 2 ∷ []
cites_two zero one is = sym (ap (λ (it : BuildTold). it.cited) (same_Some _ one is))
cites_two (suc zero) one is = sym (ap (λ (it : BuildTold). it.cited) (same_Some _ one is))
cites_two (suc (suc place)) one is = absurd (none-some one is)

its_again : CitesAgain dita (record { entries = 3; made = 2; dropped = 0 }) (told 2)
its_again none at later repeats =
    cites_two later repeats.second repeats.is_second ∙ sym (cites_two at repeats.first repeats.is_first)

-- the first is left out of no count
none_before : (builds : List BuildTold) (at : ℕ) → Repeats dita builds at 0 → ⊥
none_before builds at repeats = omega (arith, repeats.before)

abbrev parts_if : Bool → ℕ
parts_if chosen = if chosen then 0 else length (bytes_of_parts dita stored in_m None)

two_parts : (chosen : Bool) → (chosen ≡ true → ⊥) → parts_if chosen ≡ 2
two_parts true none = absurd (none refl)
two_parts false none = ap (λ (parts : List ℕ). length parts) its_parts

its_counts : CountsRight dita steps (transcript 2 one_row 2) (told 2)
its_counts = record {
  entries = refl;
  fewer = omega arith;
  fits = λ small. refl;
  rows = omega arith;
  most = λ chosen chooses.
      let first : parts_if (chosen 0) ≡ 2 = two_parts (chosen 0) (λ e.
      let repeats = (chooses 0 e).1 in none_before (told 2) repeats.0 repeats.1) in
      omega (arith, first);
}

-- It is faithful

abbrev its_text : List ℕ
its_text = text "|page index.html row 2" (row_text "row 2 contents m.ditamap - 0 5") "end 3 2 0"

text_is : its_text ≡ transcript_text (transcript 2 one_row 2)
unfolding digits
text_is = refl

its_text_is_faithful : IsFaithfulTo script its_text
its_text_is_faithful = is_faithful script its_text steps (transcript 2 one_row 2) asked
    (form 2 one_row 2 (omega arith) (omega arith) (row_form, tt) (omega arith, tt)) text_is
    (record {
      places = (refl, (refl, (refl, tt)));
      count = refl;
      requests = its_requests;
      replies = its_replies;
      builds = its_builds;
      rows = its_rows;
      again = its_again;
      counts = its_counts;
    })

-- the second build has a row of its own: it falls with the build at place 2, which cites another row than it must
abbrev own_row : List ℕ
own_row = text "|page index.html row 3"
    (row_text "row 2 contents m.ditamap - 0 5" ++ row_text "row 3 contents m.ditamap - 0 5") "end 3 3 0"

own_row_is : own_row ≡ transcript_text (transcript 3 two_rows 3)
unfolding digits
own_row_is = refl

own_row_falls : IsFaithfulTo script own_row → ⊥
own_row_falls given =
    let kept = keeps script own_row steps (transcript 3 two_rows 3) asked
    (form 3 two_rows 3 (omega arith) (omega arith) (row_form, (second_row_form, tt)) (omega arith, (omega arith, tt)))
    own_row_is given in
    omega (arith, ap sum (kept.again refl 0 1 (second_repeats 3)))

-- a row is cited by nobody: it falls with its rows
abbrev row_uncited : List ℕ
row_uncited = text "|page index.html row 2"
    (row_text "row 2 contents m.ditamap - 0 5" ++ row_text "row 3 contents m.ditamap - 0 5") "end 3 3 0"

row_uncited_is : row_uncited ≡ transcript_text (transcript 2 two_rows 3)
unfolding digits
row_uncited_is = refl

row_uncited_falls : IsFaithfulTo script row_uncited → ⊥
row_uncited_falls given =
    let kept = keeps script row_uncited steps (transcript 2 two_rows 3) asked
    (form 2 two_rows 3 (omega arith) (omega arith) (row_form, (second_row_form, tt)) (omega arith, (omega arith, tt)))
    row_uncited_is given in
    let found = kept.rows.cited 1 (row 3 page_lines) (omega arith) in not_three found.0 found.1 found.2
