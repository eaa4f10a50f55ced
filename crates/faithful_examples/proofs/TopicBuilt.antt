-- A script that stores a map with one topic and builds it, with the language that is published: its transcript is
-- faithful, from the bytes of the script to those of the rows. Then four texts of the same script that say something
-- else, each with the clause at which it falls.
use Rattle.std.specs.Fmt.{digits}
use Rattle.std.specs.Prelude.{◌≡◌, ◌≢◌, ◌==◌, ◌+◌, ℕ, zero, suc, Bool, true, false, List, [], ◌∷◌, Option, None, Some, Ok, Contains, codes, count_by, if◌then◌else◌, length, map, slice_index}
use Rattle.std.specs.List.{flat_map}
use Rattle.std.specs.Str.{is_utf8, chars}
use Rattle.std.proofs.Common.{refl, ap, sym, subst, ◌∙◌, arith}
use Rattle.std.proofs.lemmas.List.Elements.{recursion_from_All}
use Rattle.std.proofs.lemmas.Option.{none-some}
use lib.Utf8.{encode}
use Rattle.desk_language.specs.Language.{bytes_of_parts}
use Rattle.dita_doc.specs.Desk.{IsStored, next, reply}
use Rattle.dita_doc.specs.Lines.{IsLineText, line}
use Rattle.dita_doc.specs.Request.{Put, Request, Single, Build}
use Rattle.script_text.specs.Script.{Step, script_of}
use Rattle.transcript_text.specs.Transcript.{BuildShown, BuiltPages, EntryShown, InOutlet, InRow, IsContents, IsEntryShown, IsPage, IsPageShown, IsFaultShown, IsTranscript, IsRowShown, OfBuild, PageMark, PageShown, RowShown, Shown, StoredAt, Transcript, reply_shown, transcript_text}
use Rattle.run_spec.specs.Cites.{CitePages, CitesPage, ShowsBuilt}
use Rattle.run_spec.specs.Faithful.{CitesEachRow, CountsRight, IsFaithfulTo, IsInOrder, IsOfSession, ShowsBuild, ShowsBuilds, ShowsReply, ShowsReplies, TakesEachOnce, Repeats, parts_without, serials_cited}
use Rattle.run_spec.specs.HistoryTold.{BuildTold, Moment, builds_told, moments_of}
use Rattle.run_spec.specs.Language.{dita}
use Rattle.faithful_examples.proofs.OneTopic.{build, contents_page, in_m, in_t, its_build, its_parts, map_alone, map_body, map_tree, rows, shown, shown_row, shows_pages, stored, topic, topic_body, topic_tree}
use Rattle.faithful_examples.proofs.Reading.{replied_by, stored_by}
use Rattle.faithful_examples.proofs.TopicRead.{map_reads, topic_reads}
use Rattle.faithful_examples.proofs.Shown.{on_line, lines, all_of, pairs_of, each_number}

abbrev pub put_m : Request
put_m = Single (Put in_m map_body)

abbrev pub put_t : Request
put_t = Single (Put in_t topic_body)

abbrev pub asks : Request → Step
asks request = record { session = 1; request = request }

abbrev pub steps : List Step
steps = asks put_m ∷ asks put_t ∷ asks (Build in_m None) ∷ []

abbrev pub script : List ℕ
script = lines ("1 put m.ditamap" ∷ "(map" ∷ "Aclass - map/map " ∷ "(topicref" ∷ "Aclass - map/topicref " ∷ "Ahref t.dita"
    ∷ ")topicref" ∷ ")map" ∷ "." ∷ "1 put t.dita" ∷ "(topic" ∷ "Aclass - topic/topic " ∷ "Aid t" ∷ "(title"
    ∷ "Aclass - topic/title " ∷ "-Hello" ∷ ")title" ∷ "(body" ∷ "Aclass - topic/body " ∷ "(p" ∷ "Aclass - topic/p "
    ∷ "-A & B" ∷ ")p" ∷ ")body" ∷ ")topic" ∷ "." ∷ "1 build m.ditamap" ∷ [])

pub its_steps : script_of script ≡ Ok steps
unfolding script_of is_utf8 chars encode
its_steps = refl

-- What is stored, and the replies

map_stored : next [] 0 put_m ≡ map_alone
map_stored = stored_by [] 0 in_m map_body map_tree map_reads refl

topic_stored : next map_alone 1 put_t ≡ stored
topic_stored = stored_by map_alone 1 in_t topic_body topic_tree topic_reads refl

pub both_stored : next (next [] 0 put_m) 1 put_t ≡ stored
both_stored = ap (λ state. next state 1 put_t) map_stored ∙ topic_stored

pub map_reply : reply [] 0 put_m ≡ IsStored 1
map_reply = replied_by [] 0 in_m map_body map_tree map_reads refl

topic_reply : reply map_alone 1 put_t ≡ IsStored 2
topic_reply = replied_by map_alone 1 in_t topic_body topic_tree topic_reads refl

pub second_reply : reply (next [] 0 put_m) 1 put_t ≡ IsStored 2
second_reply = ap (λ state. reply state 1 put_t) map_stored ∙ topic_reply

-- The transcript

abbrev pub stores : ℕ → ℕ → EntryShown
stores place version = record { place = place; session = 1; number = place + 1; shown = StoredAt version }

abbrev pub builds : List PageShown → EntryShown
builds pages = record { place = 2; session = 1; number = 3; shown = OfBuild (BuiltPages pages []) }

abbrev pub entries_with : ℕ → List PageShown → List EntryShown
entries_with version pages = stores 0 version ∷ stores 1 2 ∷ builds pages ∷ []

abbrev entries : List EntryShown
entries = entries_with 1 shown

abbrev transcript_with : List RowShown → ℕ → Transcript
transcript_with given made = record {
  entries = entries;
  rows = given;
  totals = record { entries = 3; made = made; dropped = 0 };
}

abbrev transcript : Transcript
transcript = transcript_with rows 3

abbrev text : List ℕ
text = lines ("dita transcript 1" ∷ "entry 0 1 1 stored 1" ∷ "entry 1 1 2 stored 2" ∷ "entry 2 1 3 built 2 0"
    ∷ "|page t.html row 2" ∷ "|page index.html row 3" ∷ "row 2 page m.ditamap - 0 5" ∷ "|<!DOCTYPE html>"
    ∷ "|<html><head><meta charset=\"utf-8\"><title>Hello</title></head>" ∷ "|<body>"
    ∷ "|<article id=\"t\"><h1>Hello</h1><div class=\"body\"><p>A &amp; B</p></div></article>" ∷ "|</body></html>"
    ∷ "row 3 contents m.ditamap - 0 5" ∷ "|<!DOCTYPE html>"
    ∷ "|<html><head><meta charset=\"utf-8\"><title>Contents</title></head>" ∷ "|<body>"
    ∷ "|<nav class=\"toc\"><h1>Contents</h1><ul><li><a href=\"t.html\">Hello</a></li></ul></nav>" ∷ "|</body></html>"
    ∷ "end 3 3 0" ∷ [])

its_text : text ≡ transcript_text transcript
unfolding digits
its_text = refl

-- It is faithful

pub build_form : IsEntryShown (builds shown)
unfolding is_utf8 chars encode
build_form = record {
  place = omega arith;
  session = omega arith;
  number = omega arith;
  shown = (
    omega arith,
    omega arith,
    all_of IsPageShown shown (
      record { name = record { named = refl; utf8 = refl }; mark = omega arith },
      (record { name = record { named = refl; utf8 = refl }; mark = omega arith }, tt),
    ),
    all_of IsFaultShown [] tt,
  );
}

pub page_row_form : IsRowShown (shown_row 2 (IsPage 0) topic)
unfolding is_utf8 chars encode
page_row_form = record {
  serial = omega arith;
  index = omega arith;
  map = record { named = refl; utf8 = refl };
  val = tt;
  count = omega arith;
  lines = all_of IsLineText topic (
    on_line _ refl refl,
    (on_line _ refl refl, (on_line _ refl refl, (on_line _ refl refl, (on_line _ refl refl, tt)))),
  );
}

pub contents_row_form : IsRowShown (shown_row 3 IsContents contents_page)
unfolding is_utf8 chars encode
contents_row_form = record {
  serial = omega arith;
  index = omega arith;
  map = record { named = refl; utf8 = refl };
  val = tt;
  count = omega arith;
  lines = all_of IsLineText contents_page (
    on_line _ refl refl,
    (on_line _ refl refl, (on_line _ refl refl, (on_line _ refl refl, (on_line _ refl refl, tt)))),
  );
}

its_form : IsTranscript transcript
its_form = record {
  entries = all_of IsEntryShown entries (
    record { place = omega arith; session = omega arith; number = omega arith; shown = omega arith },
    (
      record { place = omega arith; session = omega arith; number = omega arith; shown = omega arith },
      (build_form, tt),
    ),
  );
  rows = all_of IsRowShown rows (page_row_form, (contents_row_form, tt));
  rising = (omega arith, (omega arith, tt));
  counted = omega arith;
  made = omega arith;
  dropped = omega arith;
}

its_requests : TakesEachOnce steps entries
its_requests = record {
  sessions = all_of (IsOfSession steps) entries (refl, (refl, (refl, tt)));
  once = each_number (λ number. count_by (λ (entry : EntryShown). entry.number == number) entries ≡ 1) steps
      (refl, (refl, (refl, tt)));
  order = pairs_of IsInOrder entries
      ((λ same. omega arith, (λ same. omega arith, tt)), ((λ same. omega arith, tt), (tt, tt)));
}

its_replies : ShowsReplies steps entries
its_replies = all_of ShowsReply (moments_of steps entries) (
  (None, ap (λ answer. reply_shown answer None) map_reply),
  ((None, ap (λ answer. reply_shown answer None) second_reply), ((Some (BuiltPages shown []), refl), tt)),
)

its_builds : ShowsBuilds dita steps transcript
its_builds = all_of (λ (moment : Moment). ShowsBuild dita rows moment moment.step.request) (moments_of steps entries) (
  tt,
  (
    tt,
    (
      subst (λ given. ShowsBuilt rows in_m None given (builds shown).shown)
          (sym (ap (λ state. dita.clean state in_m None) both_stored ∙ its_build)) shows_pages,
      tt,
    ),
  ),
)

its_rows : CitesEachRow transcript
its_rows = record {
  different = pairs_of (λ (first other : RowShown). first.serial ≢ other.serial) rows
      ((λ same. omega (arith, same), tt), (tt, tt));
  cited = all_of (λ (one : RowShown). Contains (serials_cited entries) one.serial) rows
      ((0, omega arith, refl), ((1, omega arith, refl), tt));
}

-- the one build of the text
abbrev pub told : List BuildTold
told = builds_told steps entries

-- one build repeats none
none_repeats : (at later : ℕ) → Repeats dita told at later → ⊥
none_repeats at zero repeats = omega (arith, repeats.before)
none_repeats at (suc later) repeats = none-some repeats.second repeats.is_second

pub parts_there : bytes_of_parts dita (next (next [] 0 put_m) 1 put_t) in_m None ≡ 896 ∷ 309 ∷ 316 ∷ []
parts_there = ap (λ state. bytes_of_parts dita state in_m None) both_stored ∙ its_parts

-- so it is not left out, and has three parts
pub three_parts : (given : Bool) (chosen : ℕ → Bool) → chosen 0 ≡ given → (given ≡ true → ⊥)
    → parts_without dita chosen 0 told ≡ 3
three_parts true chosen e none = absurd (none refl)
three_parts false chosen e none =
    ap (λ (first : Bool). (if first then 0 else length
    (bytes_of_parts dita (next (next [] 0 put_m) 1 put_t) in_m None)) + 0) e
    ∙ ap (λ (parts : List ℕ). length parts + 0) parts_there

its_counts : CountsRight dita steps transcript told
its_counts = record {
  entries = refl;
  fewer = omega arith;
  fits = λ small. refl;
  rows = omega arith;
  most = λ chosen chooses. omega (
    arith,
    three_parts (chosen 0) chosen refl (λ e.
        let repeats = (chooses 0 e).1 in none_repeats repeats.0 0 repeats.1),
  );
}

its_text_is_faithful : IsFaithfulTo script text
its_text_is_faithful = record {
  steps = steps;
  are = its_steps;
  faithful = record {
    transcript = transcript;
    entries = record { form = its_form; is = its_text; places = (refl, (refl, (refl, tt))); count = refl };
    requests = its_requests;
    replies = its_replies;
    builds = its_builds;
    rows = its_rows;
    again = λ none at later repeats. absurd (none_repeats at later repeats);
    counts = its_counts;
  };
}

-- Other texts of this script

-- another version is told at the first place: the reply falls
abbrev version_in : Option Shown → ℕ
version_in (Some (StoredAt version)) = version
version_in other = 0

shows_one : (given : Option BuildShown) → reply_shown (IsStored 1) given ≡ Some (StoredAt 2) → ⊥
shows_one None e = omega (arith, ap version_in e)
shows_one (Some given) e = none-some (StoredAt 2) e

pub other_version : ShowsReplies steps (entries_with 2 shown) → ⊥
other_version replies =
    let each = recursion_from_All ShowsReply (moments_of steps (entries_with 2 shown)) replies in
    shows_one each.0.0 (sym (ap (λ answer. reply_shown answer each.0.0) map_reply) ∙ each.0.1)

-- more rows were made than the build has parts: the count falls
pub too_many : CountsRight dita steps (transcript_with rows 9) told → ⊥
too_many counts = omega (
  arith,
  counts.most (λ place. false) (λ later e. absurd (cc e)),
  three_parts false (λ place. false) refl (λ e. cc e),
)

-- The build falls, at the third place

abbrev pages_in_build : BuildShown → List PageShown
pages_in_build (BuiltPages pages faults) = pages
pages_in_build other = []

abbrev pages_in : Shown → List PageShown
pages_in (OfBuild built) = pages_in_build built
pages_in other = []

-- how its first page is cited
first_cited : (given : List RowShown) (pages : List PageShown) (first : PageShown) (more : List PageShown)
    → pages ≡ first ∷ more → ShowsBuilt given in_m None build (OfBuild (BuiltPages pages []))
    → CitesPage given in_m None (IsPage 0) (codes "t.html", flat_map line topic) first
first_cited given pages first more are shows =
    (subst (λ told. CitePages given in_m None 0
    ((codes "t.html", flat_map line topic) ∷ (codes "index.html", flat_map line contents_page) ∷ []) told)
    (sym (ap pages_in shows.1) ∙ are) shows.2).0

-- its lines say how many bytes each page has, as those of a run without rows
abbrev pub bytes_shown : List PageShown
bytes_shown = record { name = codes "t.html"; mark = InOutlet 181 }
    ∷ record { name = codes "index.html"; mark = InOutlet 188 } ∷ []

pub no_rows : ShowsBuilt [] in_m None build (OfBuild (BuiltPages bytes_shown [])) → ⊥
no_rows shows = cc (first_cited [] bytes_shown (record { name = codes "t.html"; mark = InOutlet 181 })
    (record { name = codes "index.html"; mark = InOutlet 188 } ∷ []) refl shows).cited

-- one byte of a row is another
abbrev pub other_topic : List (List ℕ)
other_topic = map codes ("<!DOCTYPE html>" ∷ "<html><head><meta charset=\"utf-8\"><title>Hello</title></head>" ∷ "<body>"
    ∷ "<article id=\"t\"><h1>Hello</h1><div class=\"body\"><p>A &amp; C</p></div></article>" ∷ "</body></html>" ∷ [])

abbrev pub other_rows : List RowShown
other_rows = shown_row 2 (IsPage 0) other_topic ∷ shown_row 3 IsContents contents_page ∷ []

abbrev serial_in : PageMark → ℕ
serial_in (InOutlet bytes) = 0
serial_in (InRow serial) = serial

lines_of_two : (one : RowShown) → one.serial ≡ 2 → Contains other_rows one → other_topic ≡ one.lines
lines_of_two one two (zero, low, e) = ap (λ (it : RowShown). it.lines) e
lines_of_two one two (suc zero, low, e) = absurd (omega (arith, two, ap (λ (it : RowShown). it.serial) e))
lines_of_two one two (suc (suc place), low, e) = absurd (omega (arith, low))

pub other_byte : ShowsBuilt other_rows in_m None build (OfBuild (BuiltPages shown [])) → ⊥
other_byte shows =
    let one = first_cited other_rows shown (record { name = codes "t.html"; mark = InRow 2 })
    (record { name = codes "index.html"; mark = InRow 3 } ∷ []) refl shows in
    let serial : ◌≡◌ {A = ℕ} one.serial 2 = sym (ap serial_in one.cited) in
    let same = ap (flat_map line) (lines_of_two _ serial one.stands) ∙ one.bytes in
    omega (arith, ap (λ bytes. slice_index bytes 144) same)
