-- A script that stores a map without references and builds it, with the language that is published: its transcript is
-- computed from the bytes of the script to those of the row. Then texts that say something else of the same script,
-- each at one clause.
use Rattle.std.specs.Fmt.{digits}
use Rattle.std.specs.Prelude.{◌≡◌, ◌≢◌, ◌==◌, ◌+◌, ℕ, zero, suc, Bool, true, false, List, [], ◌∷◌, Option, None, Some, Ok, Contains, codes, count_by, if◌then◌else◌, length}
use Rattle.std.specs.Str.{is_utf8, chars}
use Rattle.std.proofs.Common.{refl, ap, sym, subst, ◌∙◌, arith}
use Rattle.std.proofs.lemmas.List.Elements.{recursion_from_All}
use Rattle.std.proofs.lemmas.Option.{none-some, same_Some}
use lib.Utf8.{encode}
use Rattle.build_spec.specs.Built.{BuildOutcome, Done}
use Rattle.desk_language.specs.Language.{bytes_of_parts}
use Rattle.dita_doc.specs.Desk.{State, IsStored, next, reply}
use Rattle.dita_doc.specs.Lines.{IsLineText}
use Rattle.dita_doc.specs.Pyx.{document_of}
use Rattle.dita_doc.specs.Request.{Put, Request, Single, Build}
use Rattle.dita_doc.specs.Tree.{End, Element, nodes_of}
use Rattle.html_spec.specs.Contents.{contents, items_from}
use Rattle.map_spec.specs.Included.{map_included}
use Rattle.map_spec.specs.PlanOf.{plan_of}
use Rattle.map_spec.specs.Pushes.{all_pushes}
use Rattle.part_spec.specs.Parts.{clean_build, page_part}
use Rattle.reader_spec.specs.World.{world_of}
use Rattle.script_text.specs.Script.{Step, script_of}
use Rattle.transcript_text.specs.Transcript.{BuildShown, BuiltPages, EntryShown, InRow, IsContents, IsEntryShown, IsPageShown, IsFaultShown, IsTranscript, IsRowShown, OfBuild, PageMark, RowShown, Shown, StoredAt, Totals, Transcript, reply_shown, transcript_text}
use Rattle.run_spec.specs.Cites.{ShowsBuilt}
use Rattle.run_spec.specs.Faithful.{CitesEachRow, CountsRight, HasEntries, IsFaithfulTo, IsInOrder, IsOfSession, ShowsBuild, ShowsBuilds, ShowsReply, ShowsReplies, TakesEachOnce, Repeats, parts_without, serials_cited}
use Rattle.run_spec.specs.HistoryTold.{BuildTold, Moment, builds_told, moments_of}
use Rattle.run_spec.specs.Language.{dita}
use Rattle.faithful_examples.proofs.Shown.{on_line, lines, all_of, pairs_of, each_number}

abbrev pub in_m : List ℕ
in_m = codes "m.ditamap"

abbrev pub body : List ℕ
body = lines ("(map" ∷ "Aclass - map/map " ∷ ")map" ∷ [])

abbrev pub put : Request
put = Single (Put in_m body)

abbrev steps : List Step
steps = record { session = 1; request = put } ∷ record { session = 1; request = Build in_m None } ∷ []

abbrev script : List ℕ
script = lines ("1 put m.ditamap" ∷ "(map" ∷ "Aclass - map/map " ∷ ")map" ∷ "." ∷ "1 build m.ditamap" ∷ [])

its_steps : script_of script ≡ Ok steps
unfolding script_of is_utf8 chars encode
its_steps = refl

-- What the build gives

abbrev stored : State
stored = record {
  name = in_m;
  nodes = nodes_of
      (Element (codes "map") (record { name = codes "class"; value = codes "- map/map " } ∷ []) 0 1 End End) 0;
  bytes = body;
  version = 1;
} ∷ []

map_stored : next [] 0 put ≡ stored
unfolding document_of is_utf8 chars encode
map_stored = refl

abbrev pub page_lines : List (List ℕ)
page_lines = codes "<!DOCTYPE html>" ∷ codes "<html><head><meta charset=\"utf-8\"><title>Contents</title></head>"
    ∷ codes "<body>"
    ∷ codes "<nav class=\"toc\"><h1>Contents</h1></nav>" ∷ codes "</body></html>" ∷ []

abbrev page : List ℕ
page = lines ("<!DOCTYPE html>" ∷ "<html><head><meta charset=\"utf-8\"><title>Contents</title></head>" ∷ "<body>"
    ∷ "<nav class=\"toc\"><h1>Contents</h1></nav>" ∷ "</body></html>" ∷ [])

abbrev pub build : BuildOutcome
build = Done ((codes "index.html", page) ∷ []) []

build_of_stored : clean_build (world_of stored) in_m None ≡ build
unfolding clean_build plan_of map_included page_part all_pushes contents items_from
build_of_stored = refl

pub its_build : dita.clean (next [] 0 put) in_m None ≡ build
its_build = ap (λ state. clean_build (world_of state) in_m None) map_stored ∙ build_of_stored

-- its parts are a plan with one node and no page, and the contents page of 144 bytes; one name is stored
parts_of_stored : bytes_of_parts dita stored in_m None ≡ 352 ∷ 240 ∷ []
unfolding plan_of map_included page_part all_pushes contents items_from
parts_of_stored = refl

pub its_parts : bytes_of_parts dita (next [] 0 put) in_m None ≡ 352 ∷ 240 ∷ []
its_parts = ap (λ state. bytes_of_parts dita state in_m None) map_stored ∙ parts_of_stored

-- The transcript

abbrev pub row : ℕ → List (List ℕ) → RowShown
row serial text = record { serial = serial; part = IsContents; map = in_m; val = None; lines = text }

abbrev pub stores : ℕ → EntryShown
stores version = record { place = 0; session = 1; number = 1; shown = StoredAt version }

abbrev built : PageMark → EntryShown
built mark = record {
  place = 1;
  session = 1;
  number = 2;
  shown = OfBuild (BuiltPages (record { name = codes "index.html"; mark = mark } ∷ []) []);
}

abbrev entries : List EntryShown
entries = stores 1 ∷ built (InRow 2) ∷ []

abbrev transcript : Transcript
transcript = record {
  entries = entries;
  rows = row 2 page_lines ∷ [];
  totals = record { entries = 2; made = 2; dropped = 0 };
}

abbrev text : List ℕ
text = lines ("dita transcript 1" ∷ "entry 0 1 1 stored 1" ∷ "entry 1 1 2 built 1 0" ∷ "|page index.html row 2"
    ∷ "row 2 contents m.ditamap - 0 5" ∷ "|<!DOCTYPE html>"
    ∷ "|<html><head><meta charset=\"utf-8\"><title>Contents</title></head>" ∷ "|<body>"
    ∷ "|<nav class=\"toc\"><h1>Contents</h1></nav>" ∷ "|</body></html>" ∷ "end 2 2 0" ∷ [])

its_text : text ≡ transcript_text transcript
unfolding digits
its_text = refl

-- It is faithful

build_form : IsEntryShown (built (InRow 2))
unfolding is_utf8 chars encode
build_form = record {
  place = omega arith;
  session = omega arith;
  number = omega arith;
  shown = (
    omega arith,
    omega arith,
    all_of IsPageShown (record { name = codes "index.html"; mark = InRow 2 } ∷ [])
        (record { name = record { named = refl; utf8 = refl }; mark = omega arith }, tt),
    all_of IsFaultShown [] tt,
  );
}

pub row_form : IsRowShown (row 2 page_lines)
unfolding is_utf8 chars encode
row_form = record {
  serial = omega arith;
  index = omega arith;
  map = record { named = refl; utf8 = refl };
  val = tt;
  count = omega arith;
  lines = all_of IsLineText page_lines (
    on_line _ refl refl,
    (
      on_line _ refl refl,
      (
        on_line _ refl refl,
        (
          on_line _ refl refl,
          (on_line _ refl refl, tt),
        ),
      ),
    ),
  );
}

its_form : IsTranscript transcript
its_form = record {
  entries = all_of IsEntryShown entries (
    record {
      place = omega arith;
      session = omega arith;
      number = omega arith;
      shown = omega arith;
    },
    (build_form, tt),
  );
  rows = all_of IsRowShown (row 2 page_lines ∷ []) (row_form, tt);
  rising = (omega arith, tt);
  counted = omega arith;
  made = omega arith;
  dropped = omega arith;
}

its_requests : TakesEachOnce steps entries
its_requests = record {
  sessions = all_of (IsOfSession steps) entries (refl, (refl, tt));
  once = each_number (λ number. count_by (λ (entry : EntryShown). entry.number == number) entries ≡ 1) steps
      (refl, (refl, tt));
  order = pairs_of IsInOrder entries ((λ same. omega arith, tt), (tt, tt));
}

pub put_reply : reply [] 0 put ≡ IsStored 1
unfolding document_of is_utf8 chars encode
put_reply = refl

its_replies : ShowsReplies steps entries
unfolding document_of is_utf8 chars encode
its_replies = all_of ShowsReply (moments_of steps entries)
    ((None, refl), ((Some (BuiltPages (record { name = codes "index.html"; mark = InRow 2 } ∷ []) []), refl), tt))

shows_page : ShowsBuilt (row 2 page_lines ∷ []) in_m None build (built (InRow 2)).shown
shows_page = (
  record { name = codes "index.html"; mark = InRow 2 } ∷ [],
  refl,
  (
    record {
      named = refl;
      serial = 2;
      cited = refl;
      lines = page_lines;
      bytes = refl;
      stands = (0, omega arith, refl);
    },
    refl,
  ),
)

its_builds : ShowsBuilds dita steps transcript
its_builds = all_of (λ (moment : Moment). ShowsBuild dita (row 2 page_lines ∷ []) moment moment.step.request)
    (moments_of steps entries) (
      tt,
      (
        subst (λ given. ShowsBuilt (row 2 page_lines ∷ []) in_m None given (built (InRow 2)).shown) (sym its_build)
            shows_page,
        tt,
      ),
    )

its_rows : CitesEachRow transcript
its_rows = record {
  different = pairs_of (λ (first other : RowShown). first.serial ≢ other.serial) transcript.rows (tt, tt);
  cited = all_of (λ (first : RowShown). Contains (serials_cited entries) first.serial) transcript.rows
      ((0, omega arith, refl), tt);
}

-- the one build of the text
abbrev told : List BuildTold
told = builds_told steps entries

-- one build repeats none
none_repeats : (at later : ℕ) → Repeats dita told at later → ⊥
none_repeats at zero repeats = omega (arith, repeats.before)
none_repeats at (suc later) repeats = none-some repeats.second repeats.is_second

-- so it is not left out, and has two parts
two_parts : (given : Bool) (chosen : ℕ → Bool) → chosen 0 ≡ given → (given ≡ true → ⊥)
    → parts_without dita chosen 0 told ≡ 2
two_parts true chosen e none = absurd (none refl)
two_parts false chosen e none =
    ap (λ (first : Bool). (if first then 0 else length (bytes_of_parts dita (next [] 0 put) in_m None)) + 0) e
    ∙ ap (λ (parts : List ℕ). length parts + 0) its_parts

its_counts : CountsRight dita steps transcript told
its_counts = record {
  entries = refl;
  fewer = omega arith;
  fits = λ small. refl;
  rows = omega arith;
  most = λ chosen chooses. omega (
    arith,
    two_parts (chosen 0) chosen refl (λ e.
        let repeats = (chooses 0 e).1 in none_repeats repeats.0 0 repeats.1),
  );
}

its_text_is_faithful : IsFaithfulTo script text
its_text_is_faithful = record {
  steps = steps;
  are = its_steps;
  faithful = record {
    transcript = transcript;
    entries = record { form = its_form; is = its_text; places = (refl, (refl, tt)); count = refl };
    requests = its_requests;
    replies = its_replies;
    builds = its_builds;
    rows = its_rows;
    again = λ none at later repeats. absurd (none_repeats at later repeats);
    counts = its_counts;
  };
}

-- Other texts of this script

-- an entry is missing
missing : (rows : List RowShown) (totals : Totals) (bytes : List ℕ)
    → HasEntries steps (record { entries = stores 1 ∷ []; rows = rows; totals = totals }) bytes → ⊥
missing rows totals bytes has = omega (arith, has.count)

-- its two entries are swapped, each with its place: the places fall
swapped : (rows : List RowShown) (totals : Totals) (bytes : List ℕ)
    → HasEntries steps (record { entries = built (InRow 2) ∷ stores 1 ∷ []; rows = rows; totals = totals }) bytes → ⊥
swapped rows totals bytes has = omega (arith, has.places.0)

-- they are swapped, and have new places: in one session the numbers fall
abbrev placed : ℕ → EntryShown → EntryShown
placed place entry = record { place = place; session = entry.session; number = entry.number; shown = entry.shown }

disordered : TakesEachOnce steps (placed 0 (built (InRow 2)) ∷ placed 1 (stores 1) ∷ []) → ⊥
disordered requests = omega (arith, requests.order 0 1 (stores 1) (omega arith) (omega arith) refl)

-- an entry is of another session than its request
of_another : TakesEachOnce steps
    (record { place = 0; session = 2; number = 1; shown = StoredAt 1 } ∷ built (InRow 2) ∷ []) → ⊥
of_another requests =
    let same : ◌≡◌ {A = ℕ} 1 2 = same_Some 1 2 (requests.sessions 0 (stores 1) (omega arith)) in omega (arith, same)

-- one request is answered twice, and the other never
twice : TakesEachOnce steps (stores 1 ∷ placed 1 (stores 1) ∷ []) → ⊥
twice requests = omega (arith, requests.once 1 (record { session = 1; request = put }) refl)

-- another version is told
abbrev version_in : Option Shown → ℕ
version_in (Some (StoredAt version)) = version
version_in other = 0

shows_one : (given : Option BuildShown) → reply_shown (IsStored 1) given ≡ Some (StoredAt 2) → ⊥
shows_one None e = omega (arith, ap version_in e)
shows_one (Some given) e = none-some (StoredAt 2) e

other_version : ShowsReplies steps (stores 2 ∷ built (InRow 2) ∷ []) → ⊥
unfolding document_of is_utf8 chars encode
other_version replies =
    let each = recursion_from_All ShowsReply (moments_of steps (stores 2 ∷ built (InRow 2) ∷ [])) replies in
    shows_one each.0.0 each.0.1
