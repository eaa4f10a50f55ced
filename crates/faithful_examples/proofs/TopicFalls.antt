-- The four other texts of the script that stores a map with one topic and builds it, from the bytes of the script to
-- those of the text: each falls. The clause and the place stand above it.
use Prim.Native.String.{String}
use Rattle.std.specs.Fmt.{digits}
use Rattle.std.specs.Prelude.{◌≡◌, ◌<◌, ◌++◌, ℕ, List, [], ◌∷◌, None}
use Rattle.std.specs.List.{AllByRecursion}
use Rattle.std.specs.Str.{is_utf8, chars}
use Rattle.std.proofs.Common.{refl, ap, subst, ◌∙◌, arith}
use Rattle.std.proofs.lemmas.List.Elements.{recursion_from_All}
use lib.Utf8.{encode}
use Rattle.dita_doc.specs.Desk.{next}
use Rattle.dita_doc.specs.Lines.{IsLineText}
use Rattle.transcript_text.specs.Transcript.{BuiltPages, IsEntryShown, IsFaultShown, IsPage, IsPageShown, IsRowShown, IsTranscript, NeverFall, OfBuild, PageShown, RowShown, Transcript, transcript_text}
use Rattle.run_spec.specs.Cites.{ShowsBuilt}
use Rattle.run_spec.specs.Faithful.{IsFaithfulTo, ShowsBuild}
use Rattle.run_spec.specs.HistoryTold.{Moment, moments_of}
use Rattle.run_spec.specs.Language.{dita}
use Rattle.faithful_examples.proofs.OneTopic.{build, in_m, its_build, rows, shown, shown_row}
use Rattle.faithful_examples.proofs.Shown.{on_line, lines, all_of}
use Rattle.faithful_examples.proofs.TopicBuilt.{both_stored, build_form, builds, bytes_shown, contents_row_form, entries_with, its_steps, no_rows, other_byte, other_rows, other_topic, other_version, page_row_form, put_m, put_t, script, steps, too_many}
use Rattle.faithful_examples.proofs.Verdicts.{keeps}

abbrev transcript : ℕ → List PageShown → List RowShown → ℕ → Transcript
transcript version pages given made = record {
  entries = entries_with version pages;
  rows = given;
  totals = record { entries = 3; made = made; dropped = 0 };
}

form : (version : ℕ) (pages : List PageShown) (given : List RowShown) (made : ℕ) → version < 9 → made < 10
    → IsEntryShown (builds pages) → AllByRecursion IsRowShown given → NeverFall 0 given
    → IsTranscript (transcript version pages given made)
form version pages given made small few built each rising = record {
  entries = all_of IsEntryShown (entries_with version pages) (
    record { place = omega arith; session = omega arith; number = omega arith; shown = omega (arith, small) },
    (record { place = omega arith; session = omega arith; number = omega arith; shown = omega arith }, (built, tt)),
  );
  rows = all_of IsRowShown given each;
  rising = rising;
  counted = omega arith;
  made = omega (arith, few);
  dropped = omega arith;
}

-- The lines of a text

abbrev its_pages : List String
its_pages = "|page t.html row 2" ∷ "|page index.html row 3" ∷ []

abbrev its_rows : String → List String
its_rows body = "row 2 page m.ditamap - 0 5" ∷ "|<!DOCTYPE html>"
    ∷ "|<html><head><meta charset=\"utf-8\"><title>Hello</title></head>" ∷ "|<body>" ∷ body ∷ "|</body></html>"
    ∷ "row 3 contents m.ditamap - 0 5" ∷ "|<!DOCTYPE html>"
    ∷ "|<html><head><meta charset=\"utf-8\"><title>Contents</title></head>" ∷ "|<body>"
    ∷ "|<nav class=\"toc\"><h1>Contents</h1><ul><li><a href=\"t.html\">Hello</a></li></ul></nav>" ∷ "|</body></html>"
    ∷ []

abbrev article : String
article = "|<article id=\"t\"><h1>Hello</h1><div class=\"body\"><p>A &amp; B</p></div></article>"

abbrev text : String → List String → List String → String → List ℕ
text first pages given end = lines ("dita transcript 1" ∷ first ∷ "entry 1 1 2 stored 2" ∷ "entry 2 1 3 built 2 0"
    ∷ pages ++ (given ++ (end ∷ [])))

-- another version is told: it falls with the reply at place 0
abbrev version_told : List ℕ
version_told = text "entry 0 1 1 stored 2" its_pages (its_rows article) "end 3 3 0"

version_told_is : version_told ≡ transcript_text (transcript 2 shown rows 3)
unfolding digits
version_told_is = refl

version_told_falls : IsFaithfulTo script version_told → ⊥
version_told_falls given = other_version (keeps script version_told steps (transcript 2 shown rows 3) its_steps
    (form 2 shown rows 3 (omega arith) (omega arith) build_form (page_row_form, (contents_row_form, tt))
    (omega arith, (omega arith, tt))) version_told_is given).replies

-- nine rows were made: it falls with its counts
abbrev nine_made : List ℕ
nine_made = text "entry 0 1 1 stored 1" its_pages (its_rows article) "end 3 9 0"

nine_made_is : nine_made ≡ transcript_text (transcript 1 shown rows 9)
unfolding digits
nine_made_is = refl

nine_made_falls : IsFaithfulTo script nine_made → ⊥
nine_made_falls given = too_many (keeps script nine_made steps (transcript 1 shown rows 9) its_steps
    (form 1 shown rows 9 (omega arith) (omega arith) build_form (page_row_form, (contents_row_form, tt))
    (omega arith, (omega arith, tt))) nine_made_is given).counts

-- what a transcript of these rows and page lines shows of the build at place 2
shows_there : (pages : List PageShown) (given : List RowShown)
    → ShowsBuilt given in_m None (dita.clean (next (next [] 0 put_m) 1 put_t) in_m None) (OfBuild (BuiltPages pages []))
    → ShowsBuilt given in_m None build (OfBuild (BuiltPages pages []))
shows_there pages given shows = subst (λ built. ShowsBuilt given in_m None built (OfBuild (BuiltPages pages [])))
    (ap (λ state. dita.clean state in_m None) both_stored ∙ its_build) shows

-- the bytes of its pages in the place of rows: it falls with the build at place 2
bytes_form : IsEntryShown (builds bytes_shown)
unfolding is_utf8 chars encode
bytes_form = record {
  place = omega arith;
  session = omega arith;
  number = omega arith;
  shown = (
    omega arith,
    omega arith,
    all_of IsPageShown bytes_shown (
      record { name = record { named = refl; utf8 = refl }; mark = omega arith },
      (record { name = record { named = refl; utf8 = refl }; mark = omega arith }, tt),
    ),
    all_of IsFaultShown [] tt,
  );
}

abbrev bytes_told : List ℕ
bytes_told =
    text "entry 0 1 1 stored 1" ("|page t.html bytes 181" ∷ "|page index.html bytes 188" ∷ []) [] "end 3 0 0"

bytes_told_is : bytes_told ≡ transcript_text (transcript 1 bytes_shown [] 0)
unfolding digits
bytes_told_is = refl

bytes_told_falls : IsFaithfulTo script bytes_told → ⊥
bytes_told_falls given =
    let kept = keeps script bytes_told steps (transcript 1 bytes_shown [] 0) its_steps
    (form 1 bytes_shown [] 0 (omega arith) (omega arith) bytes_form tt tt) bytes_told_is given in
    let each = recursion_from_All (λ (moment : Moment). ShowsBuild dita [] moment moment.step.request)
    (moments_of steps (entries_with 1 bytes_shown)) kept.builds in
    no_rows (shows_there bytes_shown [] each.1.1.0)

-- another byte in a row: it falls with the build at place 2
other_row_form : IsRowShown (shown_row 2 (IsPage 0) other_topic)
unfolding is_utf8 chars encode
other_row_form = record {
  serial = omega arith;
  index = omega arith;
  map = record { named = refl; utf8 = refl };
  val = tt;
  count = omega arith;
  lines = all_of IsLineText other_topic (
    on_line _ refl refl,
    (on_line _ refl refl, (on_line _ refl refl, (on_line _ refl refl, (on_line _ refl refl, tt)))),
  );
}

abbrev byte_told : List ℕ
byte_told = text "entry 0 1 1 stored 1" its_pages
    (its_rows "|<article id=\"t\"><h1>Hello</h1><div class=\"body\"><p>A &amp; C</p></div></article>") "end 3 3 0"

byte_told_is : byte_told ≡ transcript_text (transcript 1 shown other_rows 3)
unfolding digits
byte_told_is = refl

byte_told_falls : IsFaithfulTo script byte_told → ⊥
byte_told_falls given =
    let kept = keeps script byte_told steps (transcript 1 shown other_rows 3) its_steps
    (form 1 shown other_rows 3 (omega arith) (omega arith) build_form (other_row_form, (contents_row_form, tt))
    (omega arith, (omega arith, tt))) byte_told_is given in
    let each = recursion_from_All (λ (moment : Moment). ShowsBuild dita other_rows moment moment.step.request)
    (moments_of steps (entries_with 1 shown)) kept.builds in
    other_byte (shows_there shown other_rows each.1.1.0)
