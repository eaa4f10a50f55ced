-- Replies with the lines below them, and what is shown.
use Rattle.std.specs.Prelude.{◌≡◌, ◌+◌, ◌<◌, ◌≤◌, ◌^◌, ◌||◌, ℕ, zero, suc, Bool, true, false, List, [], ◌∷◌, ◌++◌, Option, Some, None, codes, length, map, drop, All, option_map, nat_lt, bytes_eq, if◌then◌else◌, MatchBool}
use Rattle.std.specs.Fmt.{decimal}
use Rattle.std.specs.List.{list_any}
use Rattle.std.proofs.Common.{refl, sym, ap, subst, ◌∙◌, arith, append_assoc, length-append}
use Rattle.std.proofs.lemmas.Bool.{and_parts, ltb-true, ltb-false, le-ltb}
use Rattle.std.proofs.lemmas.List.{length-map}
use Rattle.std.proofs.lemmas.List.Elements.{All-nil, All-cons}
use Rattle.std.proofs.lemmas.Slice.Eq.{bytes_eq-Decides}
use Rattle.dita_doc.specs.declared.plan.PlanStop.TheVariants as stops
use Rattle.dita_doc.specs.Lines.{IsLineText}
use Rattle.transcript_text.specs.Transcript.{Shown, StoredAt, RemovedAt, Refuses, GroupedAs, StoppedAt, Lines, Names, OfBuild, BuiltPages, StoppedBy, PagesTooLarge, IsShown, shown_words, shown_lines, IsNameLine, name_line, PageShown, IsPageShown, page_line, FaultShown, IsFaultShown, fault_line}
use Rattle.transcript_text.specs.declared.below.Below.{Below}
use Rattle.transcript_text.specs.declared.below.Below.TheVariants as belows
use Rattle.dita_doc.specs.Bytes.{spaced_parts}
use Rattle.dita_doc.proofs.Tests.{same_text}
use Rattle.transcript_text.specs.Below.{count_of, FitFrom, IsPageText, IsFaultText, none_below, none_if, both, below_of, below_other, below_stopped, below_some, below_two, below_three, is_refusal, lone_words, numbered_words, is_among}
use Rattle.transcript_text.proofs.NumberLaws.{number_says, number_there}
use Rattle.transcript_text.proofs.RefusalLaws.{words_of_refusal, refusal_parts, stopped_parts, refusal_found}
use Rattle.transcript_text.proofs.WordLaws.{words_one, words_two, words_three, words_same}

-- what is shown with this reply and these lines
pub record HasShown (reply : List ℕ) (lines : List (List ℕ)) : Type 0 where
  pub shown : Shown
  pub valid : IsShown shown
  pub words : shown_words shown ≡ reply
  pub below : shown_lines shown ≡ lines

-- lists of lines

texts_fit : (count at : ℕ) (lines : List (List ℕ)) → FitFrom (belows.Texts count) at lines → All IsLineText lines
texts_fit count at [] fit = All-nil IsLineText
texts_fit count at (line ∷ lines) fit = All-cons IsLineText line lines fit.0 (texts_fit count (at + 1) lines fit.1)

record HasNames (lines : List (List ℕ)) : Type 0 where
  names : List (List ℕ × ℕ)
  valid : All IsNameLine names
  same : map name_line names ≡ lines

names_fit : (count at : ℕ) (lines : List (List ℕ)) → FitFrom (belows.Names count) at lines → HasNames lines
names_fit count at [] fit = record { names = []; valid = All-nil IsNameLine; same = refl }
names_fit count at (line ∷ lines) fit =
    let rest = names_fit count (at + 1) lines fit.1 in
    record {
      names = fit.0.0 ∷ rest.names;
      valid = All-cons IsNameLine fit.0.0 rest.names fit.0.1 rest.valid;
      same = ap (λ (l : List ℕ). l ∷ map name_line rest.names) (sym fit.0.2)
          ∙ ap (λ (ls : List (List ℕ)). line ∷ ls) rest.same;
    }

record HasFaults (lines : List (List ℕ)) : Type 0 where
  faults : List FaultShown
  valid : All IsFaultShown faults
  same : map fault_line faults ≡ lines

page_there : (test : Bool) (line : List ℕ) → MatchBool test (IsPageText line) (IsFaultText line) → test ≡ true
    → IsPageText line
page_there true line fits e = fits
page_there false line fits e = absurd (cc)

fault_there : (test : Bool) (line : List ℕ) → MatchBool test (IsPageText line) (IsFaultText line) → test ≡ false
    → IsFaultText line
fault_there true line fits e = absurd (cc)
fault_there false line fits e = fits

faults_fit : (pages count at : ℕ) (lines : List (List ℕ)) → pages ≤ at → FitFrom (belows.Built pages count) at lines
    → HasFaults lines
faults_fit pages count at [] past fit = record { faults = []; valid = All-nil IsFaultShown; same = refl }
faults_fit pages count at (line ∷ lines) past fit =
    let here = fault_there (nat_lt at pages) line fit.0 (le-ltb at pages past) in
    let rest = faults_fit pages count (at + 1) lines (omega arith) fit.1 in
    record {
      faults = here.0 ∷ rest.faults;
      valid = All-cons IsFaultShown here.0 rest.faults here.1 rest.valid;
      same = ap (λ (l : List ℕ). l ∷ map fault_line rest.faults) (sym here.2)
          ∙ ap (λ (ls : List (List ℕ)). line ∷ ls) rest.same;
    }

-- the pages from an index on, and then the faults
record HasPages (left : ℕ) (lines : List (List ℕ)) : Type 0 where
  pages : List PageShown
  valid : All IsPageShown pages
  many : length pages ≡ left
  faults : List FaultShown
  sound : All IsFaultShown faults
  same : map page_line pages ++ map fault_line faults ≡ lines

pages_past : (pages count at left : ℕ) (lines : List (List ℕ)) (test : Bool) → nat_lt at pages ≡ test
    → at + left ≡ pages → pages ≤ at + length lines → FitFrom (belows.Built pages count) at lines → HasPages left lines
pages_past pages count at left lines false e few enough fit =
    let past : pages ≤ at = ltb-false _ _ e in
    let none : left ≡ 0 = omega arith in
    let rest = faults_fit pages count at lines past fit in
    record {
      pages = [];
      valid = All-nil IsPageShown;
      many = sym none;
      faults = rest.faults;
      sound = rest.valid;
      same = rest.same;
    }
pages_past pages count at left [] true e few enough fit = let less : at < pages = ltb-true _ _ e in absurd (omega arith)
pages_past pages count at zero (line ∷ lines) true e few enough fit =
    let less : at < pages = ltb-true _ _ e in absurd (omega arith)
pages_past pages count at (suc left) (line ∷ lines) true e few enough fit =
    let here = page_there (nat_lt at pages) line fit.0 e in
    let rest = pages_past pages count (at + 1) left lines (nat_lt (at + 1) pages) refl (omega arith)
    (omega arith) fit.1 in
    record {
      pages = here.0 ∷ rest.pages;
      valid = All-cons IsPageShown here.0 rest.pages here.1 rest.valid;
      many = ap suc rest.many;
      faults = rest.faults;
      sound = rest.sound;
      same = ap (λ (l : List ℕ). l ∷ (map page_line rest.pages ++ map fault_line rest.faults)) (sym here.2)
          ∙ ap (λ (ls : List (List ℕ)). line ∷ ls) rest.same;
    }

-- replies

if_none : (test : Bool) (below : Below) → none_if test ≡ Some below → (test ≡ true) × (none_below ≡ below)
if_none true below e = (refl, cc)
if_none false below e = absurd (cc)

no_lines : (lines : List (List ℕ)) (below : Below) → none_below ≡ below → length lines ≡ count_of below → [] ≡ lines
no_lines [] below is many = refl
no_lines (line ∷ lines) below is many =
    let none : length (line ∷ lines) ≡ 0 = many ∙ ap count_of (sym is) in absurd (omega arith)

-- what is shown without lines, by its words
record ShowsAlone (shown : Shown) (word : List ℕ) : Type 0 where
  valid : IsShown shown
  words : shown_words shown ≡ word
  below : shown_lines shown ≡ []

plainly : (shown : Shown) (word reply : List ℕ) (lines : List (List ℕ)) → ShowsAlone shown word → word ≡ reply
    → [] ≡ lines
    → HasShown reply lines
plainly shown word reply lines plain is none =
    record { shown = shown; valid = plain.valid; words = plain.words ∙ is; below = plain.below ∙ none }

-- one of some words
among : (P : Type 0) (word first : List ℕ) (words : List (List ℕ)) (test : Bool) → bytes_eq word first ≡ test
    → (test || list_any (bytes_eq word) words) ≡ true
    → (first ≡ word → P) → (list_any (bytes_eq word) words ≡ true → P) → P
among P word first words true is e here there = here (sym ((bytes_eq-Decides word first).0 is))
among P word first words false is e here there = there e

none_among : (word : List ℕ) → list_any (bytes_eq word) [] ≡ true → ⊥
none_among word e = absurd (cc)

lone_shown : (word : List ℕ) → is_among lone_words word ≡ true → (shown : Shown) × ShowsAlone shown word
lone_shown word e =
    let P : Type 0 = (shown : Shown) × ShowsAlone shown word in
    let plain : (shown : Shown) → IsShown shown → shown_lines shown ≡ [] → shown_words shown ≡ word
    → P = λ shown valid none is. (shown, record { valid = valid; words = is; below = none }) in
    among P word (codes "nomap") (drop 1 lone_words) _ refl e (plain (OfBuild (StoppedBy stops.NoMap)) tt refl) (λ e1.
    among P word (codes "notmap") (drop 2 lone_words) _ refl e1 (plain (OfBuild (StoppedBy stops.NotMap)) tt refl)
    (λ e2.
    among P word (codes "noditaval") (drop 3 lone_words) _ refl e2 (plain (OfBuild (StoppedBy stops.NoDitaval)) tt refl)
    (λ e3.
    among P word (codes "toomanynodes") (drop 4 lone_words) _ refl e3
    (plain (OfBuild (StoppedBy stops.TooManyNodes)) tt refl) (λ e4.
    among P word (codes "toomanypages") (drop 5 lone_words) _ refl e4
    (plain (OfBuild (StoppedBy stops.TooManyPages)) tt refl) (λ e5. absurd (none_among word e5))))))

numbered_shown : (word second : List ℕ) (n : ℕ) → n < 2 ^ 64 → decimal n ≡ second → is_among numbered_words word ≡ true
    → (shown : Shown) × ShowsAlone shown (word ++ 32 ∷ second)
numbered_shown word second n small is e =
    let P : Type 0 = (shown : Shown) × ShowsAlone shown (word ++ 32 ∷ second) in
    let plain : (shown : Shown) (first : List ℕ) → IsShown shown → shown_lines shown ≡ []
    → shown_words shown ≡ first ++ 32 ∷ decimal n → first ≡ word → P =
    λ shown first valid none told same. (
      shown,
      record {
        valid = valid;
        words = told ∙ ap (λ (l : List ℕ). l ++ 32 ∷ decimal n) same
            ∙ ap (λ (l : List ℕ). word ++ 32 ∷ l) is;
        below = none;
      },
    ) in
    among P word (codes "stored") (drop 1 numbered_words) _ refl e (plain (StoredAt n) (codes "stored") small refl refl)
    (λ e1.
    among P word (codes "removed") (drop 2 numbered_words) _ refl e1
    (plain (RemovedAt n) (codes "removed") small refl refl) (λ e2.
    among P word (codes "toolarge") (drop 3 numbered_words) _ refl e2
    (plain (OfBuild (PagesTooLarge n)) (codes "toolarge") small refl refl) (λ e3. absurd (none_among word e3))))

-- replies of a word and a number, without lines, of a text and of names

mapped : (f : ℕ → Below) (found : Option ℕ) (below : Below) → option_map f found ≡ Some below
    → (n : ℕ) × (found ≡ Some n) × (f n ≡ below)
mapped f (Some n) below e = (n, refl, cc)
mapped f None below e = absurd (cc)

both_there : (first second : Option ℕ) (below : Below) → both first second ≡ Some below
    → (pages : ℕ) × (faults : ℕ) × (first ≡ Some pages) × (second ≡ Some faults) × (belows.Built pages faults ≡ below)
both_there (Some pages) (Some faults) below e = (pages, faults, refl, refl, cc)
both_there (Some pages) None below e = absurd (cc)
both_there None second below e = absurd (cc)

no_such : (below : Below) → None ≡ Some below → ⊥
no_such below e = absurd (cc)

-- a choice by a test
either : (P : Type 0) (test : Bool) (found other : Option Below) (below : Below)
    → (if test then found else other) ≡ Some below → (test ≡ true → found ≡ Some below → P) → (other ≡ Some below → P)
    → P
either P true found other below e here there = here refl e
either P false found other below e here there = there e

lines_shown : (n : ℕ) (second : List ℕ) (below : Below) (lines : List (List ℕ)) → n < 2 ^ 64 → decimal n ≡ second
    → belows.Texts n ≡ below → FitFrom below 0 lines → length lines ≡ count_of below
    → HasShown (codes "text" ++ 32 ∷ second) lines
lines_shown n second below lines small is said fit many =
    let counted : length lines ≡ n = many ∙ ap count_of (sym said) in
    let fits : FitFrom (belows.Texts n) 0 lines = subst (λ b. FitFrom b 0 lines) (sym said) fit in
    let few : length lines < 2 ^ 64 = omega arith in
    record {
      shown = Lines lines;
      valid = (few, texts_fit n 0 lines fits);
      words = ap (λ
          (l : List ℕ). codes "text " ++ l) (ap decimal counted ∙ is);
      below = refl;
    }

names_shown : (n : ℕ) (second : List ℕ) (below : Below) (lines : List (List ℕ)) → n < 2 ^ 64 → decimal n ≡ second
    → belows.Names n ≡ below → FitFrom below 0 lines → length lines ≡ count_of below
    → HasShown (codes "names" ++ 32 ∷ second) lines
names_shown n second below lines small is said fit many =
    let counted : length lines ≡ n = many ∙ ap count_of (sym said) in
    let told = names_fit n 0 lines (subst (λ b. FitFrom b 0 lines) (sym said) fit) in
    let same : length told.names ≡ length lines = sym (length-map told.names name_line)
    ∙ ap (length {A = List ℕ}) told.same in
    let few : length told.names < 2 ^ 64 = omega arith in
    record {
      shown = Names told.names;
      valid = (few, told.valid);
      words = ap (λ (l : List ℕ). codes "names " ++ l)
          (ap decimal (same ∙ counted) ∙ is);
      below = told.same;
    }

two_shown : (word second reply : List ℕ) (below : Below) (lines : List (List ℕ)) → word ++ 32 ∷ second ≡ reply
    → below_two word second ≡ Some below → FitFrom below 0 lines → length lines ≡ count_of below → HasShown reply lines
two_shown word second reply below lines is said fit many =
    either (HasShown reply lines) (is_among numbered_words word) _ _ below said
    (λ among found. let test = if_none _ below found in let n = number_there 64 second _ refl test.0
    in let plain = numbered_shown word second n.0 n.1 n.2 among in
    plainly plain.0 (word ++ 32 ∷ second) reply lines plain.1 is (no_lines lines below test.1 many))
    (λ said1. either (HasShown reply lines) (bytes_eq word (codes "grouped")) _ _ below said1
    (λ grouped found. let test = if_none _ below found in let n = number_there 32 second _ refl test.0 in
    record {
      shown = GroupedAs n.0;
      valid = n.1;
      words = ap (λ (l : List ℕ). codes "grouped " ++ l) n.2
          ∙ ap (λ (l : List ℕ). l ++ 32 ∷ second) (sym (same_text _ _ grouped)) ∙ is;
      below = no_lines lines below test.1 many;
    })
    (λ said2. either (HasShown reply lines) (bytes_eq word (codes "text")) _ _ below said2
    (λ text found. let n = mapped belows.Texts _ below found in let says = number_says 64 n.0 second n.1 in
    subst (λ (l : List ℕ). HasShown l lines) (ap (λ (l : List ℕ). l ++ 32 ∷ second) (sym (same_text _ _ text)) ∙ is)
    (lines_shown n.0 second below lines says.0 says.1 n.2 fit many))
    (λ said3. either (HasShown reply lines) (bytes_eq word (codes "names")) _ _ below said3
    (λ names found. let n = mapped belows.Names _ below found in let says = number_says 64 n.0 second n.1 in
    subst (λ (l : List ℕ). HasShown l lines) (ap (λ (l : List ℕ). l ++ 32 ∷ second) (sym (same_text _ _ names)) ∙ is)
    (names_shown n.0 second below lines says.0 says.1 n.2 fit many))
    (λ none. absurd (no_such below none)))))

pages_shown : (pages faults : ℕ) (second third : List ℕ) (below : Below) (lines : List (List ℕ)) → pages < 2 ^ 64
    → faults < 2 ^ 64 → decimal pages ≡ second → decimal faults ≡ third
    → belows.Built pages faults ≡ below → FitFrom below 0 lines → length lines ≡ count_of below
    → HasShown (codes "built" ++ 32 ∷ (second ++ 32 ∷ third)) lines
pages_shown pages faults second third below lines small few first last said fit many =
    let counted : length lines ≡ pages + faults = many ∙ ap count_of (sym said) in
    let fits : FitFrom (belows.Built pages faults) 0 lines = subst (λ b. FitFrom b 0 lines) (sym said) fit in
    let told = pages_past pages faults 0 pages lines (nat_lt 0 pages) refl (omega arith) (omega arith) fits in
    let all : length told.pages + length told.faults ≡ length lines =
    ap (λ k. k + length told.faults) (sym (length-map told.pages page_line))
    ∙ ap (λ k. length (map page_line told.pages) + k) (sym (length-map told.faults fault_line))
    ∙ sym (length-append (map page_line told.pages) (map fault_line told.faults))
    ∙ ap (length {A = List ℕ}) told.same in
    let many_pages : length told.pages ≡ pages = told.many in
    let many_faults : length told.faults ≡ faults = omega arith in
    let fits_pages : length told.pages < 2 ^ 64 = omega arith in
    let fits_faults : length told.faults < 2 ^ 64 = omega arith in
    record {
      shown = OfBuild (BuiltPages told.pages told.faults);
      valid = (fits_pages, fits_faults, told.valid, told.sound);
      words = rw (many_pages, many_faults, first, last)
          (ap (λ (l : List ℕ). codes "built " ++ l) (append_assoc second (32 ∷ []) third));
      below = told.same;
    }

three_shown : (word second third reply : List ℕ) (below : Below) (lines : List (List ℕ))
    → word ++ 32 ∷ (second ++ 32 ∷ third) ≡ reply → below_three word second third ≡ Some below
    → FitFrom below 0 lines → length lines ≡ count_of below → HasShown reply lines
three_shown word second third reply below lines is said fit many =
    either (HasShown reply lines) (bytes_eq word (codes "built")) _ _ below said
    (λ built found. let n = both_there _ _ below found in let first = number_says 64 n.0 second n.2
    in let last = number_says 64 n.1 third n.3 in
    subst (λ (l : List ℕ). HasShown l lines)
    (ap (λ (l : List ℕ). l ++ 32 ∷ (second ++ 32 ∷ third)) (sym (same_text _ _ built)) ∙ is)
    (pages_shown n.0 n.1 second third below lines first.0 last.0 first.1 last.1 n.4 fit many))
    (λ none. absurd (no_such below none))

-- refusals, and groups that were stopped

refuses_shown : (reply : List ℕ) (words : List (List ℕ)) (below : Below) (lines : List (List ℕ))
    → spaced_parts reply ≡ words → is_refusal words ≡ true → Some none_below ≡ Some below
    → length lines ≡ count_of below → HasShown reply lines
refuses_shown reply words below lines is refused said many =
    let found = refusal_found words refused in
    let none : none_below ≡ below = cc in
    record {
      shown = Refuses found.0;
      valid = found.1;
      words = words_same _ reply (refusal_parts found.0 found.1 ∙ found.2 ∙ sym is);
      below = no_lines lines below none many;
    }

stopped_shown : (second reply : List ℕ) (words : List (List ℕ)) (below : Below) (lines : List (List ℕ))
    → spaced_parts reply ≡ codes "stopped" ∷ second ∷ words → below_stopped second words ≡ Some below
    → length lines ≡ count_of below → HasShown reply lines
stopped_shown second reply words below lines is said many =
    let test = if_none _ below said in
    let parts = and_parts _ _ test.0 in
    let found = refusal_found words parts.0 in
    let n = number_there 32 second _ refl parts.1 in
    record {
      shown = StoppedAt n.0 found.0;
      valid = (n.1, found.1);
      words = words_same _ reply
          (stopped_parts n.0 found.0 n.1 found.1
          ∙ ap (λ (word : List ℕ). codes "stopped" ∷ word ∷ words_of_refusal found.0) n.2
          ∙ ap (λ (ws : List (List ℕ)). codes "stopped" ∷ second ∷ ws) found.2 ∙ sym is);
      below = no_lines lines below test.1 many;
    }

-- all replies

some_shown : (word second reply : List ℕ) (words : List (List ℕ)) (below : Below) (lines : List (List ℕ))
    → spaced_parts reply ≡ word ∷ second ∷ words → below_some word second words ≡ Some below
    → FitFrom below 0 lines → length lines ≡ count_of below → HasShown reply lines
some_shown word second reply [] below lines is said fit many =
    two_shown word second reply below lines (words_two reply word second is) said fit many
some_shown word second reply (third ∷ []) below lines is said fit many =
    three_shown word second third reply below lines (words_three reply word second third is) said fit many
some_shown word second reply (third ∷ fourth ∷ words) below lines is said fit many = absurd (no_such below said)

other_reply_shown : (reply : List ℕ) (words : List (List ℕ)) (below : Below) (lines : List (List ℕ))
    → spaced_parts reply ≡ words → below_other words ≡ Some below → FitFrom below 0 lines
    → length lines ≡ count_of below → HasShown reply lines
other_reply_shown reply [] below lines is said fit many = absurd (no_such below said)
other_reply_shown reply (word ∷ []) below lines is said fit many =
    let test = if_none _ below said in
    let plain = lone_shown word test.0 in
    plainly plain.0 word reply lines plain.1 (words_one reply word is) (no_lines lines below test.1 many)
other_reply_shown reply (word ∷ second ∷ words) below lines is said fit many =
    either (HasShown reply lines) (bytes_eq word (codes "stopped")) _ _ below said
    (λ stopped found. stopped_shown second reply words below lines
    (is ∙ ap (λ (w : List ℕ). w ∷ second ∷ words) (same_text _ _ stopped)) found many)
    (λ said1. some_shown word second reply words below lines is said1 fit many)

shown_by : (reply : List ℕ) (words : List (List ℕ)) (below : Below) (lines : List (List ℕ))
    → spaced_parts reply ≡ words → below_of words ≡ Some below → FitFrom below 0 lines
    → length lines ≡ count_of below → HasShown reply lines
shown_by reply words below lines is said fit many =
    either (HasShown reply lines) (is_refusal words) _ _ below said
    (λ refused found. refuses_shown reply words below lines is refused found many)
    (λ said1. other_reply_shown reply words below lines is said1 fit many)

-- what the reply announces stands below, and so it is shown
pub shown_of : (reply : List ℕ) (below : Below) (lines : List (List ℕ)) → below_of (spaced_parts reply) ≡ Some below
    → FitFrom below 0 lines → length lines ≡ count_of below → HasShown reply lines
shown_of reply below lines said fit many = shown_by reply (spaced_parts reply) below lines refl said fit many
