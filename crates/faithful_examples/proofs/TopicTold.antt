-- The map with one topic that is built three times, from the bytes of its script to those of its transcript, which is
-- faithful. Three other texts fall: the second build cites rows of its own, an entry is missing, and two are swapped.
use Prim.Native.String.{String}
use Rattle.std.specs.Fmt.{digits}
use Rattle.std.specs.Prelude.{◌≡◌, ◌<◌, ◌++◌, ℕ, true, List, [], ◌∷◌, Ok, length}
use Rattle.std.specs.List.{AllByRecursion, list_all}
use Rattle.std.specs.Str.{is_utf8, chars}
use Rattle.std.proofs.Common.{refl, arith}
use lib.Utf8.{encode}
use Rattle.dita_doc.specs.Lines.{IsLineText}
use Rattle.script_text.specs.Script.{script_of}
use Rattle.transcript_text.specs.Transcript.{BuiltPages, EntryShown, IsContents, IsEntryShown, IsFaultShown, IsPage, IsPageShown, IsRowShown, IsTranscript, NeverFall, OfBuild, RowShown, StoredAt, Transcript, transcript_text}
use Rattle.run_spec.specs.Faithful.{IsFaithfulTo}
use Rattle.faithful_examples.proofs.OneTopic.{contents_page, map_lines, shown_row, topic, topic_lines}
use Rattle.faithful_examples.proofs.Reading.{is_plain, plain_lines}
use Rattle.faithful_examples.proofs.Shown.{lines, all_of}
use Rattle.faithful_examples.proofs.TopicAgain.{builds, entries_with, its_again, its_builds, its_counts, its_replies, its_requests, its_rows, other_contents, other_topic, pages, rows, rows_of_its_own, steps}
use Rattle.faithful_examples.proofs.TopicBuilt.{stores}
use Rattle.faithful_examples.proofs.TopicRead.{renamed_lines}
use Rattle.faithful_examples.proofs.Verdicts.{is_faithful, keeps}

-- The script

abbrev script : List ℕ
script = lines ("1 put m.ditamap" ∷ map_lines ++ ("." ∷ "1 put t.dita" ∷ topic_lines ++ ("." ∷ "1 build m.ditamap"
    ∷ "1 put z.dita" ∷ "(p" ∷ ")p" ∷ "." ∷ "1 build m.ditamap" ∷ "1 put t.dita" ∷ renamed_lines
    ++ ("." ∷ "1 build m.ditamap" ∷ []))))

asked : script_of script ≡ Ok steps
unfolding script_of is_utf8 chars encode
asked = refl

-- The form of its transcripts

abbrev told : List EntryShown → List RowShown → ℕ → ℕ → Transcript
told entries given count made = record {
  entries = entries;
  rows = given;
  totals = record { entries = count; made = made; dropped = 0 };
}

abbrev transcript : ℕ → ℕ → List RowShown → ℕ → Transcript
transcript first second given made = told (entries_with first second) given 7 made

stored_form : (place version : ℕ) → place < 9 → version < 9 → IsEntryShown (stores place version)
stored_form place version here small = record {
  place = omega (arith, here);
  session = omega arith;
  number = omega (arith, here);
  shown = omega (arith, small);
}

built_form : (place first second : ℕ) → place < 9 → first < 9 → second < 9 → IsEntryShown (builds place first second)
unfolding is_utf8 chars encode
built_form place first second here low high = record {
  place = omega (arith, here);
  session = omega arith;
  number = omega (arith, here);
  shown = (
    omega arith,
    omega arith,
    all_of IsPageShown (pages first second) (
      record { name = record { named = refl; utf8 = refl }; mark = omega (arith, low) },
      (record { name = record { named = refl; utf8 = refl }; mark = omega (arith, high) }, tt),
    ),
    all_of IsFaultShown [] tt,
  );
}

page_form : (serial : ℕ) (text : List (List ℕ)) → serial < 9 → length text < 9 → list_all is_plain text ≡ true
    → IsRowShown (shown_row serial (IsPage 0) text)
unfolding is_utf8 chars encode
page_form serial text small short plain = record {
  serial = omega (arith, small);
  index = omega arith;
  map = record { named = refl; utf8 = refl };
  val = tt;
  count = omega (arith, short);
  lines = all_of IsLineText text (plain_lines text plain);
}

contents_form : (serial : ℕ) (text : List (List ℕ)) → serial < 9 → length text < 9 → list_all is_plain text ≡ true
    → IsRowShown (shown_row serial IsContents text)
unfolding is_utf8 chars encode
contents_form serial text small short plain = record {
  serial = omega (arith, small);
  index = omega arith;
  map = record { named = refl; utf8 = refl };
  val = tt;
  count = omega (arith, short);
  lines = all_of IsLineText text (plain_lines text plain);
}

form : (entries : List EntryShown) (given : List RowShown) (count made : ℕ) → count < 9 → made < 9
    → AllByRecursion IsEntryShown entries → AllByRecursion IsRowShown given → NeverFall 0 given
    → IsTranscript (told entries given count made)
form entries given count made short few each every rising = record {
  entries = all_of IsEntryShown entries each;
  rows = all_of IsRowShown given every;
  rising = rising;
  counted = omega (arith, short);
  made = omega (arith, few);
  dropped = omega arith;
}

entries_form : (first second : ℕ) → first < 9 → second < 9 → AllByRecursion IsEntryShown (entries_with first second)
entries_form first second low high = (
  stored_form 0 1 (omega arith) (omega arith),
  (
    stored_form 1 2 (omega arith) (omega arith),
    (
      built_form 2 2 3 (omega arith) (omega arith) (omega arith),
      (
        stored_form 3 4 (omega arith) (omega arith),
        (
          built_form 4 first second (omega arith) low high,
          (
            stored_form 5 6 (omega arith) (omega arith),
            (built_form 6 4 5 (omega arith) (omega arith) (omega arith), tt),
          ),
        ),
      ),
    ),
  ),
)

rows_form : AllByRecursion IsRowShown rows
rows_form = (
  page_form 2 topic (omega arith) (omega arith) refl,
  (
    contents_form 3 contents_page (omega arith) (omega arith) refl,
    (
      page_form 4 other_topic (omega arith) (omega arith) refl,
      (contents_form 5 other_contents (omega arith) (omega arith) refl, tt),
    ),
  ),
)

-- The lines of a text

abbrev topic_row : String → List String
topic_row row = row ∷ "|<!DOCTYPE html>" ∷ "|<html><head><meta charset=\"utf-8\"><title>Hello</title></head>" ∷ "|<body>"
    ∷ "|<article id=\"t\"><h1>Hello</h1><div class=\"body\"><p>A &amp; B</p></div></article>" ∷ "|</body></html>" ∷ []

abbrev other_row : String → List String
other_row row = row ∷ "|<!DOCTYPE html>" ∷ "|<html><head><meta charset=\"utf-8\"><title>Hallo</title></head>" ∷ "|<body>"
    ∷ "|<article id=\"t\"><h1>Hallo</h1><div class=\"body\"><p>A &amp; B</p></div></article>" ∷ "|</body></html>" ∷ []

abbrev contents_row : String → String → List String
contents_row row list = row ∷ "|<!DOCTYPE html>" ∷ "|<html><head><meta charset=\"utf-8\"><title>Contents</title></head>"
    ∷ "|<body>" ∷ list ∷ "|</body></html>" ∷ []

abbrev hello : String
hello = "|<nav class=\"toc\"><h1>Contents</h1><ul><li><a href=\"t.html\">Hello</a></li></ul></nav>"

abbrev hallo : String
hallo = "|<nav class=\"toc\"><h1>Contents</h1><ul><li><a href=\"t.html\">Hallo</a></li></ul></nav>"

-- the rows that the first build and the third cite
abbrev its_rows_told : List String
its_rows_told = topic_row "row 2 page m.ditamap - 0 5" ++ (contents_row "row 3 contents m.ditamap - 0 5" hello
    ++ (other_row "row 4 page m.ditamap - 0 5" ++ contents_row "row 5 contents m.ditamap - 0 5" hallo))

abbrev first_pages : List String
first_pages = "|page t.html row 2" ∷ "|page index.html row 3" ∷ []

abbrev last_pages : List String
last_pages = "|page t.html row 4" ∷ "|page index.html row 5" ∷ []

-- what stands behind the first build
abbrev text : List String → List ℕ
text behind = lines ("dita transcript 1" ∷ "entry 0 1 1 stored 1" ∷ "entry 1 1 2 stored 2" ∷ "entry 2 1 3 built 2 0"
    ∷ first_pages ++ behind)

-- the page lines of the second build, the row lines, and the end
abbrev whole : List String → List String → String → List ℕ
whole second given end = text ("entry 3 1 4 stored 4" ∷ "entry 4 1 5 built 2 0" ∷ second
    ++ ("entry 5 1 6 stored 6" ∷ "entry 6 1 7 built 2 0" ∷ last_pages ++ (given ++ (end ∷ []))))

-- It is faithful

abbrev its_text : List ℕ
its_text = whole first_pages its_rows_told "end 7 5 0"

text_is : its_text ≡ transcript_text (transcript 2 3 rows 5)
unfolding digits
text_is = refl

its_text_is_faithful : IsFaithfulTo script its_text
its_text_is_faithful = is_faithful script its_text steps (transcript 2 3 rows 5) asked
    (form (entries_with 2 3) rows 7 5 (omega arith) (omega arith) (entries_form 2 3 (omega arith) (omega arith)) rows_form
    (omega arith, (omega arith, (omega arith, (omega arith, tt))))) text_is
    (record {
      places = (refl, (refl, (refl, (refl, (refl, (refl, (refl, tt)))))));
      count = refl;
      requests = its_requests;
      replies = its_replies;
      builds = its_builds;
      rows = its_rows;
      again = its_again;
      counts = its_counts;
    })

-- the second build has rows of its own: it falls with the build at place 4, which cites other rows than it must
abbrev all_rows : List RowShown
all_rows = rows ++ (shown_row 6 (IsPage 0) topic ∷ shown_row 7 IsContents contents_page ∷ [])

abbrev own_rows : List ℕ
own_rows = whole ("|page t.html row 6" ∷ "|page index.html row 7" ∷ [])
    (its_rows_told ++ (topic_row "row 6 page m.ditamap - 0 5" ++ contents_row "row 7 contents m.ditamap - 0 5" hello))
    "end 7 7 0"

own_rows_are : own_rows ≡ transcript_text (transcript 6 7 all_rows 7)
unfolding digits
own_rows_are = refl

own_rows_fall : IsFaithfulTo script own_rows → ⊥
own_rows_fall given = rows_of_its_own (keeps script own_rows steps (transcript 6 7 all_rows 7) asked
    (form (entries_with 6 7) all_rows 7 7 (omega arith) (omega arith) (entries_form 6 7 (omega arith) (omega arith)) (
      rows_form.0,
      (
        rows_form.1.0,
        (
          rows_form.1.1.0,
          (
            rows_form.1.1.1.0,
            (
              page_form 6 topic (omega arith) (omega arith) refl,
              (contents_form 7 contents_page (omega arith) (omega arith) refl, tt),
            ),
          ),
        ),
      ),
    )
    (omega arith, (omega arith, (omega arith, (omega arith, (omega arith, (omega arith, tt))))))) own_rows_are given).again

-- the last entry is missing: it falls with its entries
abbrev first_six : List EntryShown
first_six = stores 0 1 ∷ stores 1 2 ∷ builds 2 2 3 ∷ stores 3 4 ∷ builds 4 2 3 ∷ stores 5 6 ∷ []

abbrev first_rows : List RowShown
first_rows = shown_row 2 (IsPage 0) topic ∷ shown_row 3 IsContents contents_page ∷ []

abbrev one_missing : List ℕ
one_missing = text ("entry 3 1 4 stored 4" ∷ "entry 4 1 5 built 2 0" ∷ first_pages ++ ("entry 5 1 6 stored 6"
    ∷ topic_row "row 2 page m.ditamap - 0 5" ++ (contents_row "row 3 contents m.ditamap - 0 5" hello ++ ("end 6 3 0" ∷ []))))

one_missing_is : one_missing ≡ transcript_text (told first_six first_rows 6 3)
unfolding digits
one_missing_is = refl

one_missing_falls : IsFaithfulTo script one_missing → ⊥
one_missing_falls given =
    let each = entries_form 2 3 (omega arith) (omega arith) in
    omega (
      arith,
      (keeps script one_missing steps (told first_six first_rows 6 3) asked
          (form first_six first_rows 6 3 (omega arith) (omega arith)
          (each.0, (each.1.0, (each.1.1.0, (each.1.1.1.0, (each.1.1.1.1.0, (each.1.1.1.1.1.0, tt))))))
          (rows_form.0, (rows_form.1.0, tt)) (omega arith, (omega arith, tt))) one_missing_is given).count,
    )

-- the second build stands before the document that is stored before it: the requests fall, at place 4
abbrev swapped : List EntryShown
swapped = stores 0 1 ∷ stores 1 2 ∷ builds 2 2 3
    ∷ record { place = 3; session = 1; number = 5; shown = OfBuild (BuiltPages (pages 2 3) []) }
    ∷ record { place = 4; session = 1; number = 4; shown = StoredAt 5 } ∷ stores 5 6 ∷ builds 6 4 5 ∷ []

abbrev two_swapped : List ℕ
two_swapped = text ("entry 3 1 5 built 2 0" ∷ first_pages ++ ("entry 4 1 4 stored 5" ∷ "entry 5 1 6 stored 6"
    ∷ "entry 6 1 7 built 2 0" ∷ last_pages ++ (its_rows_told ++ ("end 7 5 0" ∷ []))))

two_swapped_are : two_swapped ≡ transcript_text (told swapped rows 7 5)
unfolding digits
two_swapped_are = refl

swapped_form : AllByRecursion IsEntryShown swapped
swapped_form =
    let each = entries_form 2 3 (omega arith) (omega arith) in (
      each.0,
      (
        each.1.0,
        (
          each.1.1.0,
          (
            record {
              place = omega arith;
              session = omega arith;
              number = omega arith;
              shown = each.1.1.0.shown;
            },
            (
              record { place = omega arith; session = omega arith; number = omega arith; shown = omega arith },
              (each.1.1.1.1.1.0, (each.1.1.1.1.1.1.0, tt)),
            ),
          ),
        ),
      ),
    )

two_swapped_fall : IsFaithfulTo script two_swapped → ⊥
two_swapped_fall given =
    let kept = keeps script two_swapped steps (told swapped rows 7 5) asked
    (form swapped rows 7 5 (omega arith) (omega arith) swapped_form rows_form
    (omega arith, (omega arith, (omega arith, (omega arith, tt))))) two_swapped_are given in
    omega (arith, kept.requests.order 3 4 (stores 0 1) (omega arith) (omega arith) refl)
