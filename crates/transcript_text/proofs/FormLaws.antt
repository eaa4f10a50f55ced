-- What is shown announces the lines below it, and they fit.
use Rattle.std.specs.Prelude.{◌≡◌, ◌+◌, ◌<◌, ◌≤◌, ◌^◌, ◌&&◌, ℕ, Bool, true, false, List, [], ◌∷◌, ◌++◌, Option, Some, codes, length, map, All, is_some, option_map, nat_lt, if◌then◌else◌, MatchBool}
use Rattle.std.specs.Fmt.{decimal}
use Rattle.std.proofs.Common.{refl, ap, ◌∙◌, arith, length-append}
use Rattle.std.proofs.lemmas.Bool.{le-ltb, lt-ltb}
use Rattle.std.proofs.lemmas.List.{length-map}
use Rattle.std.proofs.lemmas.List.Elements.{All-head, All-tail}
use Rattle.dita_doc.specs.declared.plan.PlanStop.{PlanStop}
use Rattle.dita_doc.specs.declared.plan.PlanStop.TheVariants as stops
use Rattle.dita_doc.specs.Lines.{IsLineText}
use Rattle.transcript_text.specs.Transcript.{RefusalShown, IsRefusalShown, refusal_words, Shown, StoredAt, RemovedAt, Refuses, GroupedAs, StoppedAt, Lines, Names, OfBuild, BuildShown, BuiltPages, StoppedBy, PagesTooLarge, IsBuildShown, IsShown, shown_words, shown_lines, built_words, built_lines, stop_text, IsNameLine, name_line, PageShown, IsPageShown, page_line, FaultShown, IsFaultShown, fault_line, EntryShown, IsEntryShown, entry_head}
use Rattle.transcript_text.specs.declared.below.Below.{Below}
use Rattle.transcript_text.specs.declared.below.Below.TheVariants as belows
use Rattle.dita_doc.specs.Bytes.{spaced_parts}
use Rattle.transcript_text.specs.Words.{number_of}
use Rattle.transcript_text.specs.Below.{count_of, FitFrom, IsPageText, IsFaultText, none_below, none_if, both, is_refusal, below_stopped, below_other, below_of}
use Rattle.transcript_text.specs.Heads.{IsEntryLine}
use Rattle.transcript_text.proofs.HeadLaws.{number_word, small_from, entry_head_words}
use Rattle.transcript_text.proofs.NumberLaws.{number64_is, number32_is}
use Rattle.transcript_text.proofs.RefusalLaws.{words_of_refusal, refusal_parts, refusal_known, stopped_parts}
use Rattle.transcript_text.proofs.TextLaws.{decimal_word}

-- what lines stand below
abbrev pub below_built : BuildShown → Below
below_built (BuiltPages pages faults) = belows.Built (length pages) (length faults)
below_built (StoppedBy stop) = none_below
below_built (PagesTooLarge total) = none_below

abbrev pub below_shown : Shown → Below
below_shown (StoredAt version) = none_below
below_shown (RemovedAt version) = none_below
below_shown (Refuses refusal) = none_below
below_shown (GroupedAs edits) = none_below
below_shown (StoppedAt number refusal) = none_below
below_shown (Lines lines) = belows.Texts (length lines)
below_shown (Names names) = belows.Names (length names)
below_shown (OfBuild built) = below_built built

-- a reply of a word and a number
numbered : (word : List ℕ) (n : ℕ) (below : Option Below) → n < 2 ^ 64 → below_of (word ∷ decimal n ∷ []) ≡ below
    → below_of (word ∷ spaced_parts (decimal n)) ≡ below
numbered word n below small e = ap (λ words. below_of (word ∷ words)) (decimal_word n small) ∙ e

stop_said : (stop : PlanStop) → below_of (spaced_parts (stop_text stop)) ≡ Some none_below
stop_said stops.NoMap = refl
stop_said stops.NotMap = refl
stop_said stops.NoDitaval = refl
stop_said stops.TooManyNodes = refl
stop_said stops.TooManyPages = refl

-- a refusal, and a group that was stopped
refusal_is : (refusal : RefusalShown) → IsRefusalShown refusal → is_refusal (spaced_parts (refusal_words refusal)) ≡ true
refusal_is refusal valid = ap is_refusal (refusal_parts refusal valid) ∙ refusal_known refusal valid

refused_said : (refusal : RefusalShown) → IsRefusalShown refusal
    → below_of (spaced_parts (refusal_words refusal)) ≡ Some none_below
refused_said refusal valid =
    ap (λ test. if test then Some none_below else below_other (spaced_parts (refusal_words refusal)))
    (refusal_is refusal valid)

-- the words of a group that was stopped are those of no refusal
stopped_other : (number : List ℕ) (words : List (List ℕ)) → is_refusal (codes "stopped" ∷ number ∷ words) ≡ false
stopped_other number [] = refl
stopped_other number (word ∷ []) = refl
stopped_other number (word ∷ second ∷ words) = refl

stopped_said : (number : ℕ) (refusal : RefusalShown) → number < 2 ^ 32 → IsRefusalShown refusal
    → below_of (spaced_parts (codes "stopped " ++ decimal number ++ codes " " ++ refusal_words refusal))
    ≡ Some none_below
stopped_said number refusal less valid =
    let words = words_of_refusal refusal in
    ap below_of (stopped_parts number refusal less valid)
    ∙ ap (λ test. if test then Some none_below else below_stopped (decimal number) words)
    (stopped_other (decimal number) words)
    ∙ ap (λ test. none_if (test && is_some (number_of 32 (decimal number)))) (refusal_known refusal valid)
    ∙ ap (λ found. none_if (is_some found)) (number32_is number less)

built_said : (pages faults : ℕ) → pages < 2 ^ 64 → faults < 2 ^ 64
    → below_of (codes "built" ∷ spaced_parts (decimal pages ++ 32 ∷ [] ++ decimal faults)) ≡ Some
    (belows.Built pages faults)
built_said pages faults small few =
    let words = number_word pages (decimal faults) small ∙ ap (λ ws. decimal pages ∷ ws) (decimal_word faults few) in
    ap (λ ws. below_of (codes "built" ∷ ws)) words
    ∙ ap (λ found. both found (number_of 64 (decimal faults))) (number64_is pages small)
    ∙ ap (λ found. both (Some pages) found) (number64_is faults few)

build_said : (built : BuildShown) → IsBuildShown built
    → below_of (spaced_parts (built_words built)) ≡ Some (below_built built)
build_said (BuiltPages pages faults) valid = built_said (length pages) (length faults) valid.0 valid.1
build_said (StoppedBy stop) valid = stop_said stop
build_said (PagesTooLarge total) small =
    numbered (codes "toolarge") total _ small (ap (λ found. none_if (is_some found)) (number64_is total small))

-- the words of a reply announce its lines
pub shown_said : (shown : Shown) → IsShown shown
    → below_of (spaced_parts (shown_words shown)) ≡ Some (below_shown shown)
shown_said (StoredAt version) small =
    numbered (codes "stored") version _ small (ap (λ found. none_if (is_some found)) (number64_is version small))
shown_said (RemovedAt version) small =
    numbered (codes "removed") version _ small (ap (λ found. none_if (is_some found)) (number64_is version small))
shown_said (Refuses refusal) valid = refused_said refusal valid
shown_said (GroupedAs edits) less =
    numbered (codes "grouped") edits _ (small_from edits less)
    (ap (λ found. none_if (is_some found)) (number32_is edits less))
shown_said (StoppedAt number refusal) valid = stopped_said number refusal valid.0 valid.1
shown_said (Lines lines) valid =
    numbered (codes "text") (length lines) _ valid.0 (ap (option_map belows.Texts) (number64_is (length lines) valid.0))
shown_said (Names names) valid =
    numbered (codes "names") (length names) _ valid.0
    (ap (option_map belows.Names) (number64_is (length names) valid.0))
shown_said (OfBuild built) valid = build_said built valid

-- and the lines fit

pub texts_fit_from : (count at : ℕ) (lines : List (List ℕ)) → All IsLineText lines
    → FitFrom (belows.Texts count) at lines
texts_fit_from count at [] all = tt
texts_fit_from count at (line ∷ lines) all =
    (All-head IsLineText line lines all, texts_fit_from count (at + 1) lines (All-tail IsLineText line lines all))

names_fit_from : (count at : ℕ) (names : List (List ℕ × ℕ)) → All IsNameLine names
    → FitFrom (belows.Names count) at (map name_line names)
names_fit_from count at [] all = tt
names_fit_from count at (named ∷ names) all = (
  (named, All-head IsNameLine named names all, refl),
  names_fit_from count (at + 1) names
      (All-tail IsNameLine named names all),
)

page_at : (test : Bool) (line : List ℕ) → test ≡ true → IsPageText line
    → MatchBool test (IsPageText line) (IsFaultText line)
page_at true line e is = is
page_at false line e is = absurd (cc)

fault_at : (test : Bool) (line : List ℕ) → test ≡ false → IsFaultText line
    → MatchBool test (IsPageText line) (IsFaultText line)
fault_at true line e is = absurd (cc)
fault_at false line e is = is

faults_fit_from : (pages count at : ℕ) (faults : List FaultShown) → pages ≤ at → All IsFaultShown faults
    → FitFrom (belows.Built pages count) at (map fault_line faults)
faults_fit_from pages count at [] past all = tt
faults_fit_from pages count at (fault ∷ faults) past all = (
  fault_at (nat_lt at pages) (fault_line fault) (le-ltb at pages past)
      (fault, All-head IsFaultShown fault faults all, refl),
  faults_fit_from pages count (at + 1) faults (omega arith) (All-tail IsFaultShown fault faults all),
)

pages_fit_from : (total count at : ℕ) (pages : List PageShown) (faults : List FaultShown) → at + length pages ≡ total
    → All IsPageShown pages → All IsFaultShown faults
    → FitFrom (belows.Built total count) at (map page_line pages ++ map fault_line faults)
pages_fit_from total count at [] faults many all more = faults_fit_from total count at faults (omega arith) more
pages_fit_from total count at (page ∷ pages) faults many all more = (
  page_at (nat_lt at total) (page_line page) (lt-ltb at total (omega arith))
      (page, All-head IsPageShown page pages all, refl),
  pages_fit_from total count (at + 1) pages faults (omega arith) (All-tail IsPageShown page pages all) more,
)

build_fits : (built : BuildShown) → IsBuildShown built → FitFrom (below_built built) 0 (built_lines built)
build_fits (BuiltPages pages faults) valid =
    pages_fit_from (length pages) (length faults) 0 pages faults (omega arith) valid.2 valid.3
build_fits (StoppedBy stop) valid = tt
build_fits (PagesTooLarge total) valid = tt

pub shown_fit : (shown : Shown) → IsShown shown → FitFrom (below_shown shown) 0 (shown_lines shown)
shown_fit (StoredAt version) valid = tt
shown_fit (RemovedAt version) valid = tt
shown_fit (Refuses refusal) valid = tt
shown_fit (GroupedAs edits) valid = tt
shown_fit (StoppedAt number refusal) valid = tt
shown_fit (Lines lines) valid = texts_fit_from (length lines) 0 lines valid.1
shown_fit (Names names) valid = names_fit_from (length names) 0 names valid.1
shown_fit (OfBuild built) valid = build_fits built valid

build_counted : (built : BuildShown) → length (built_lines built) ≡ count_of (below_built built)
build_counted (BuiltPages pages faults) =
    length-append (map page_line pages) (map fault_line faults)
    ∙ ap (λ k. k + length (map fault_line faults)) (length-map pages page_line)
    ∙ ap (λ k. length pages + k) (length-map faults fault_line)
build_counted (StoppedBy stop) = refl
build_counted (PagesTooLarge total) = refl

pub shown_counted : (shown : Shown) → length (shown_lines shown) ≡ count_of (below_shown shown)
shown_counted (StoredAt version) = refl
shown_counted (RemovedAt version) = refl
shown_counted (Refuses refusal) = refl
shown_counted (GroupedAs edits) = refl
shown_counted (StoppedAt number refusal) = refl
shown_counted (Lines lines) = refl
shown_counted (Names names) = length-map names name_line
shown_counted (OfBuild built) = build_counted built

-- the line of an entry
pub entry_head_is : (entry : EntryShown) → IsEntryShown entry
    → IsEntryLine (entry_head entry) entry.place entry.session entry.number (shown_words entry.shown)
    (below_shown entry.shown)
entry_head_is entry is = record {
  place_fits = is.place;
  session_fits = is.session;
  number_fits = is.number;
  words = entry_head_words entry.place entry.session entry.number
      (shown_words entry.shown) is.place is.session is.number;
  said = shown_said entry.shown is.shown;
}
