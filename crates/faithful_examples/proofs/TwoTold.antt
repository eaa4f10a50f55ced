-- The map with two topics, from the bytes of its scripts to those of their transcripts: built twice and built three times
-- it is faithful. Built twice, three other texts fall.
use Prim.Native.String.{String}
use Rattle.std.specs.Fmt.{digits}
use Rattle.std.specs.Prelude.{◌≡◌, ◌<◌, ◌==◌, ◌++◌, ℕ, zero, suc, true, false, List, [], ◌∷◌, None, Ok, Contains, codes, count_by, flat_map, length, slice_index}
use Rattle.std.specs.List.{list_all}
use Rattle.std.specs.Str.{is_utf8, chars}
use Rattle.std.proofs.Common.{refl, ap, sym, subst, ◌∙◌, arith}
use Rattle.std.proofs.lemmas.List.Elements.{recursion_from_All}
use lib.Utf8.{encode}
use Rattle.dita_doc.specs.Lines.{IsLineText, line}
use Rattle.script_text.specs.Script.{script_of}
use Rattle.transcript_text.specs.Transcript.{BuildShown, BuiltPages, EntryShown, InOutlet, InRow, IsContents, IsEntryShown, IsFaultShown, IsPage, IsPageShown, IsRowShown, IsTranscript, OfBuild, PageMark, PageShown, RowShown, Shown, Transcript, transcript_text}
use Rattle.run_spec.specs.Cites.{CitePages, CitesPage, ShowsBuilt}
use Rattle.run_spec.specs.Faithful.{CountsRight, IsFaithfulTo, IsInOrder, IsOfSession, ShowsBuild, TakesEachOnce}
use Rattle.run_spec.specs.HistoryTold.{Moment, moments_of}
use Rattle.run_spec.specs.Language.{dita}
use Rattle.faithful_examples.proofs.OneTopic.{in_m}
use Rattle.faithful_examples.proofs.Reading.{is_plain, plain_lines}
use Rattle.faithful_examples.proofs.Shown.{lines, all_of, pairs_of, each_number}
use Rattle.faithful_examples.proofs.TwoRead.{a_lines, b_lines, longer_lines, map_lines, other_lines}
use Rattle.faithful_examples.proofs.TwoStored.{a_page, at_first, at_second, b_page, build_of, contents_page, first_parts, longer_page, other_contents, other_page, second_clean, second_parts, short_steps, steps}
use Rattle.faithful_examples.proofs.TwoTopics.{builds, end, entries, four_if, its_again, its_builds, its_cites, its_counts, its_replies, pages, parts_if, row, rows, short_again, short_builds, short_cites, short_counts, short_entries, short_replies, short_rows, short_told, short_transcript, stores, transcript}
use Rattle.faithful_examples.proofs.Verdicts.{is_faithful, keeps}

-- The scripts

abbrev script_to : List String → List ℕ
script_to behind = lines ("1 put m.ditamap" ∷ map_lines ++ ("." ∷ "1 put a.dita" ∷ a_lines ++ ("." ∷ "1 put b.dita" ∷ b_lines
    ++ ("." ∷ "1 build m.ditamap" ∷ "1 put a.dita" ∷ longer_lines ++ ("." ∷ "1 build m.ditamap" ∷ behind)))))

abbrev short_script : List ℕ
short_script = script_to []

abbrev script : List ℕ
script = script_to ("1 put b.dita" ∷ other_lines ++ ("." ∷ "1 build m.ditamap" ∷ []))

short_asked : script_of short_script ≡ Ok short_steps
unfolding script_of is_utf8 chars encode
short_asked = refl

asked : script_of script ≡ Ok steps
unfolding script_of is_utf8 chars encode
asked = refl

short_requests : TakesEachOnce short_steps short_entries
short_requests = record {
  sessions = all_of (IsOfSession short_steps) short_entries (refl, (refl, (refl, (refl, (refl, (refl, tt))))));
  once = each_number (λ number. count_by (λ (entry : EntryShown). entry.number == number) short_entries ≡ 1) short_steps (
    refl,
    (refl, (refl, (refl, (refl, (refl, tt))))),
  );
  order = pairs_of IsInOrder short_entries (
    (
      λ same. omega arith,
      (λ same. omega arith, (λ same. omega arith, (λ same. omega arith, (λ same. omega arith, tt)))),
    ),
    (
      (λ same. omega arith, (λ same. omega arith, (λ same. omega arith, (λ same. omega arith, tt)))),
      (
        (λ same. omega arith, (λ same. omega arith, (λ same. omega arith, tt))),
        ((λ same. omega arith, (λ same. omega arith, tt)), ((λ same. omega arith, tt), (tt, tt))),
      ),
    ),
  );
}

its_requests : TakesEachOnce steps entries
its_requests = record {
  sessions = all_of (IsOfSession steps) entries (refl, (refl, (refl, (refl, (refl, (refl, (refl, (refl, tt))))))));
  once = each_number (λ number. count_by (λ (entry : EntryShown). entry.number == number) entries ≡ 1) steps (
    refl,
    (refl, (refl, (refl, (refl, (refl, (refl, (refl, tt))))))),
  );
  order = pairs_of IsInOrder entries (
    (
      λ same. omega arith,
      (
        λ same. omega arith,
        (
          λ same. omega arith,
          (λ same. omega arith, (λ same. omega arith, (λ same. omega arith, (λ same. omega arith, tt)))),
        ),
      ),
    ),
    (
      (
        λ same. omega arith,
        (
          λ same. omega arith,
          (λ same. omega arith, (λ same. omega arith, (λ same. omega arith, (λ same. omega arith, tt)))),
        ),
      ),
      (
        (
          λ same. omega arith,
          (λ same. omega arith, (λ same. omega arith, (λ same. omega arith, (λ same. omega arith, tt)))),
        ),
        (
          (λ same. omega arith, (λ same. omega arith, (λ same. omega arith, (λ same. omega arith, tt)))),
          (
            (λ same. omega arith, (λ same. omega arith, (λ same. omega arith, tt))),
            ((λ same. omega arith, (λ same. omega arith, tt)), ((λ same. omega arith, tt), (tt, tt))),
          ),
        ),
      ),
    ),
  );
}

-- The form of their transcripts

stored_form : (place version : ℕ) → place < 9 → version < 9 → IsEntryShown (stores place version)
stored_form place version here small = record {
  place = omega (arith, here);
  session = omega arith;
  number = omega (arith, here);
  shown = omega (arith, small);
}

built_form : (place first second last : ℕ) → place < 9 → first < 9 → second < 9 → last < 9
    → IsEntryShown (builds place first second last)
unfolding is_utf8 chars encode
built_form place first second last here low middle high = record {
  place = omega (arith, here);
  session = omega arith;
  number = omega (arith, here);
  shown = (
    omega arith,
    omega arith,
    all_of IsPageShown (pages first second last) (
      record { name = record { named = refl; utf8 = refl }; mark = omega (arith, low) },
      (
        record { name = record { named = refl; utf8 = refl }; mark = omega (arith, middle) },
        (record { name = record { named = refl; utf8 = refl }; mark = omega (arith, high) }, tt),
      ),
    ),
    all_of IsFaultShown [] tt,
  );
}

page_form : (index serial : ℕ) (text : List (List ℕ)) → index < 9 → serial < 9 → length text < 9
    → list_all is_plain text ≡ true → IsRowShown (row serial (IsPage index) text)
unfolding is_utf8 chars encode
page_form index serial text at small short plain = record {
  serial = omega (arith, small);
  index = omega (arith, at);
  map = record { named = refl; utf8 = refl };
  val = tt;
  count = omega (arith, short);
  lines = all_of IsLineText text (plain_lines text plain);
}

contents_form : (serial : ℕ) (text : List (List ℕ)) → serial < 9 → length text < 9 → list_all is_plain text ≡ true
    → IsRowShown (row serial IsContents text)
unfolding is_utf8 chars encode
contents_form serial text small short plain = record {
  serial = omega (arith, small);
  index = omega arith;
  map = record { named = refl; utf8 = refl };
  val = tt;
  count = omega (arith, short);
  lines = all_of IsLineText text (plain_lines text plain);
}

short_form : IsTranscript short_transcript
short_form = record {
  entries = all_of IsEntryShown short_entries (
    stored_form 0 1 (omega arith) (omega arith),
    (
      stored_form 1 2 (omega arith) (omega arith),
      (
        stored_form 2 3 (omega arith) (omega arith),
        (
          built_form 3 2 3 4 (omega arith) (omega arith) (omega arith) (omega arith),
          (
            stored_form 4 5 (omega arith) (omega arith),
            (built_form 5 5 3 4 (omega arith) (omega arith) (omega arith) (omega arith), tt),
          ),
        ),
      ),
    ),
  );
  rows = all_of IsRowShown short_rows (
    page_form 0 2 a_page (omega arith) (omega arith) (omega arith) refl,
    (
      page_form 1 3 b_page (omega arith) (omega arith) (omega arith) refl,
      (
        contents_form 4 contents_page (omega arith) (omega arith) refl,
        (page_form 0 5 longer_page (omega arith) (omega arith) (omega arith) refl, tt),
      ),
    ),
  );
  rising = (omega arith, (omega arith, (omega arith, (omega arith, tt))));
  counted = omega arith;
  made = omega arith;
  dropped = omega arith;
}

its_form : IsTranscript transcript
its_form = record {
  entries = all_of IsEntryShown entries (
    stored_form 0 1 (omega arith) (omega arith),
    (
      stored_form 1 2 (omega arith) (omega arith),
      (
        stored_form 2 3 (omega arith) (omega arith),
        (
          built_form 3 2 3 4 (omega arith) (omega arith) (omega arith) (omega arith),
          (
            stored_form 4 5 (omega arith) (omega arith),
            (
              built_form 5 5 3 4 (omega arith) (omega arith) (omega arith) (omega arith),
              (
                stored_form 6 7 (omega arith) (omega arith),
                (built_form 7 5 6 7 (omega arith) (omega arith) (omega arith) (omega arith), tt),
              ),
            ),
          ),
        ),
      ),
    ),
  );
  rows = all_of IsRowShown rows (
    page_form 0 2 a_page (omega arith) (omega arith) (omega arith) refl,
    (
      page_form 1 3 b_page (omega arith) (omega arith) (omega arith) refl,
      (
        contents_form 4 contents_page (omega arith) (omega arith) refl,
        (
          page_form 0 5 longer_page (omega arith) (omega arith) (omega arith) refl,
          (
            page_form 1 6 other_page (omega arith) (omega arith) (omega arith) refl,
            (contents_form 7 other_contents (omega arith) (omega arith) refl, tt),
          ),
        ),
      ),
    ),
  );
  rising = (omega arith, (omega arith, (omega arith, (omega arith, (omega arith, (omega arith, tt))))));
  counted = omega arith;
  made = omega arith;
  dropped = omega arith;
}

-- The lines of their texts

abbrev page_row : String → String → String → List String
page_row row title body = row ∷ "|<!DOCTYPE html>" ∷ title ∷ "|<body>" ∷ body ∷ "|</body></html>" ∷ []

abbrev in_a_title : String
in_a_title = "|<html><head><meta charset=\"utf-8\"><title>A</title></head>"

abbrev in_contents : String
in_contents = "|<html><head><meta charset=\"utf-8\"><title>Contents</title></head>"

abbrev first_rows : List String
first_rows = page_row "row 2 page m.ditamap - 0 5" in_a_title
    "|<article id=\"a\"><h1>A</h1><div class=\"body\"><p>1</p></div></article>"
    ++ (page_row "row 3 page m.ditamap - 1 5" "|<html><head><meta charset=\"utf-8\"><title>B</title></head>"
    "|<article id=\"b\"><h1>B</h1></article>"
    ++ page_row "row 4 contents m.ditamap - 0 5" in_contents
    "|<nav class=\"toc\"><h1>Contents</h1><ul><li><a href=\"a.html\">A</a></li><li><a href=\"b.html\">B</a></li></ul></nav>")

abbrev longer_row : List String
longer_row = page_row "row 5 page m.ditamap - 0 5" in_a_title
    "|<article id=\"a\"><h1>A</h1><div class=\"body\"><p>1</p><p>2</p></div></article>"

abbrev last_rows : List String
last_rows = page_row "row 6 page m.ditamap - 1 5" "|<html><head><meta charset=\"utf-8\"><title>C</title></head>"
    "|<article id=\"b\"><h1>C</h1></article>"
    ++ page_row "row 7 contents m.ditamap - 0 5" in_contents
    "|<nav class=\"toc\"><h1>Contents</h1><ul><li><a href=\"a.html\">A</a></li><li><a href=\"b.html\">C</a></li></ul></nav>"

-- the first page line of the second build, and all behind that build
abbrev text : String → List String → List ℕ
text first behind = lines ("dita transcript 1" ∷ "entry 0 1 1 stored 1" ∷ "entry 1 1 2 stored 2" ∷ "entry 2 1 3 stored 3"
    ∷ "entry 3 1 4 built 3 0" ∷ "|page a.html row 2" ∷ "|page b.html row 3" ∷ "|page index.html row 4"
    ∷ "entry 4 1 5 stored 5" ∷ "entry 5 1 6 built 3 0" ∷ first ∷ "|page b.html row 3" ∷ "|page index.html row 4" ∷ behind)

-- They are faithful

abbrev short_text : List ℕ
short_text = text "|page a.html row 5" (first_rows ++ (longer_row ++ ("end 6 5 0" ∷ [])))

short_is : short_text ≡ transcript_text short_transcript
unfolding digits
short_is = refl

short_is_faithful : IsFaithfulTo short_script short_text
short_is_faithful = is_faithful short_script short_text short_steps short_transcript short_asked short_form short_is
    (record {
      places = (refl, (refl, (refl, (refl, (refl, (refl, tt))))));
      count = refl;
      requests = short_requests;
      replies = short_replies;
      builds = short_builds;
      rows = short_cites;
      again = short_again;
      counts = short_counts;
    })

abbrev its_text : List ℕ
its_text = text "|page a.html row 5" ("entry 6 1 7 stored 7" ∷ "entry 7 1 8 built 3 0" ∷ "|page a.html row 5"
    ∷ "|page b.html row 6" ∷ "|page index.html row 7" ∷ first_rows ++ (longer_row ++ (last_rows ++ ("end 8 7 0" ∷ []))))

text_is : its_text ≡ transcript_text transcript
unfolding digits
text_is = refl

its_text_is_faithful : IsFaithfulTo script its_text
its_text_is_faithful = is_faithful script its_text steps transcript asked its_form text_is
    (record {
      places = (refl, (refl, (refl, (refl, (refl, (refl, (refl, (refl, tt))))))));
      count = refl;
      requests = its_requests;
      replies = its_replies;
      builds = its_builds;
      rows = its_cites;
      again = its_again;
      counts = its_counts;
    })

-- What falls

-- nine rows were made, and the two builds have eight parts: it falls with its counts
abbrev with_nine : Transcript
with_nine = record { entries = short_entries; rows = short_rows; totals = end 6 9 }

abbrev nine_made : List ℕ
nine_made = text "|page a.html row 5" (first_rows ++ (longer_row ++ ("end 6 9 0" ∷ [])))

nine_is : nine_made ≡ transcript_text with_nine
unfolding digits
nine_is = refl

nine_form : IsTranscript with_nine
nine_form = record {
  entries = short_form.entries;
  rows = short_form.rows;
  rising = short_form.rising;
  counted = omega arith;
  made = omega arith;
  dropped = omega arith;
}

too_many : CountsRight dita short_steps with_nine short_told → ⊥
too_many counts =
    let first : parts_if false at_first ≡ 4 = four_if false at_first _ first_parts refl (λ e. absurd (cc e)) in
    let second : parts_if false at_second ≡ 4 = four_if false at_second _ second_parts refl (λ e. absurd (cc e)) in
    omega (arith, first, second, counts.most (λ place. false) (λ later e. absurd (cc e)))

nine_falls : IsFaithfulTo short_script nine_made → ⊥
nine_falls given = too_many (keeps short_script nine_made short_steps with_nine short_asked nine_form nine_is given).counts

-- three rows were made, and the text has four: it falls with its counts
abbrev with_three : Transcript
with_three = record { entries = short_entries; rows = short_rows; totals = end 6 3 }

abbrev three_made : List ℕ
three_made = text "|page a.html row 5" (first_rows ++ (longer_row ++ ("end 6 3 0" ∷ [])))

three_is : three_made ≡ transcript_text with_three
unfolding digits
three_is = refl

three_form : IsTranscript with_three
three_form = record {
  entries = short_form.entries;
  rows = short_form.rows;
  rising = short_form.rising;
  counted = omega arith;
  made = omega arith;
  dropped = omega arith;
}

three_falls : IsFaithfulTo short_script three_made → ⊥
three_falls given =
    omega (
      arith,
      (keeps short_script three_made short_steps with_three short_asked three_form three_is given).counts.rows,
    )

-- the second build cites the page that the topic had before: it falls with the build at place 5, which has other bytes
abbrev old_rows : List RowShown
old_rows = row 2 (IsPage 0) a_page ∷ row 3 (IsPage 1) b_page ∷ row 4 IsContents contents_page ∷ []

abbrev old_entries : List EntryShown
old_entries = stores 0 1 ∷ stores 1 2 ∷ stores 2 3 ∷ builds 3 2 3 4 ∷ stores 4 5 ∷ builds 5 2 3 4 ∷ []

abbrev with_old : Transcript
with_old = record { entries = old_entries; rows = old_rows; totals = end 6 4 }

abbrev old_page : List ℕ
old_page = text "|page a.html row 2" (first_rows ++ ("end 6 4 0" ∷ []))

old_is : old_page ≡ transcript_text with_old
unfolding digits
old_is = refl

old_form : IsTranscript with_old
old_form = record {
  entries = all_of IsEntryShown old_entries (
    stored_form 0 1 (omega arith) (omega arith),
    (
      stored_form 1 2 (omega arith) (omega arith),
      (
        stored_form 2 3 (omega arith) (omega arith),
        (
          built_form 3 2 3 4 (omega arith) (omega arith) (omega arith) (omega arith),
          (
            stored_form 4 5 (omega arith) (omega arith),
            (built_form 5 2 3 4 (omega arith) (omega arith) (omega arith) (omega arith), tt),
          ),
        ),
      ),
    ),
  );
  rows = all_of IsRowShown old_rows (
    page_form 0 2 a_page (omega arith) (omega arith) (omega arith) refl,
    (
      page_form 1 3 b_page (omega arith) (omega arith) (omega arith) refl,
      (contents_form 4 contents_page (omega arith) (omega arith) refl, tt),
    ),
  );
  rising = (omega arith, (omega arith, (omega arith, tt)));
  counted = omega arith;
  made = omega arith;
  dropped = omega arith;
}

abbrev pages_in_build : BuildShown → List PageShown
pages_in_build (BuiltPages told faults) = told
pages_in_build other = []

abbrev pages_in : Shown → List PageShown
pages_in (OfBuild built) = pages_in_build built
pages_in other = []

abbrev serial_in : PageMark → ℕ
serial_in (InOutlet bytes) = 0
serial_in (InRow serial) = serial

-- how the first page of the second build is cited
first_cited : ShowsBuilt old_rows in_m None (build_of longer_page b_page contents_page) (OfBuild (BuiltPages (pages 2 3 4) []))
    → CitesPage old_rows in_m None (IsPage 0) (codes "a.html", flat_map line longer_page)
    (record { name = codes "a.html"; mark = InRow 2 })
first_cited shows = (subst (λ told. CitePages old_rows in_m None 0 ((codes "a.html", flat_map line longer_page)
    ∷ (codes "b.html", flat_map line b_page) ∷ (codes "index.html", flat_map line contents_page) ∷ []) told)
    (sym (ap pages_in shows.1)) shows.2).0

lines_of_two : (one : RowShown) → one.serial ≡ 2 → Contains old_rows one → a_page ≡ one.lines
lines_of_two one two (zero, low, e) = ap (λ (it : RowShown). it.lines) e
lines_of_two one two (suc zero, low, e) = absurd (omega (arith, two, ap (λ (it : RowShown). it.serial) e))
lines_of_two one two (suc (suc zero), low, e) = absurd (omega (arith, two, ap (λ (it : RowShown). it.serial) e))
lines_of_two one two (suc (suc (suc place)), low, e) = absurd (omega (arith, low))

other_bytes : ShowsBuilt old_rows in_m None (build_of longer_page b_page contents_page) (OfBuild (BuiltPages (pages 2 3 4) []))
    → ⊥
other_bytes shows =
    let one = first_cited shows in
    let serial : ◌≡◌ {A = ℕ} one.serial 2 = sym (ap serial_in one.cited) in
    let same = ap (flat_map line) (lines_of_two _ serial one.stands) ∙ one.bytes in
    omega (arith, ap (λ bytes. slice_index bytes 134) same)

old_page_falls : IsFaithfulTo short_script old_page → ⊥
old_page_falls given =
    let kept = keeps short_script old_page short_steps with_old short_asked old_form old_is given in
    let each = recursion_from_All (λ (moment : Moment). ShowsBuild dita old_rows moment moment.step.request)
    (moments_of short_steps old_entries) kept.builds in
    other_bytes (subst (λ built. ShowsBuilt old_rows in_m None built (OfBuild (BuiltPages (pages 2 3 4) []))) second_clean
    each.1.1.1.1.1.0)
