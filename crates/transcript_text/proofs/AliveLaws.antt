-- What was read can be finished: with a line for each that is missing, and the end.
use Rattle.std.specs.Prelude.{◌≡◌, ◌+◌, ◌-◌, ℕ, zero, suc, Bool, true, false, List, [], ◌∷◌, ◌++◌, codes, length, map, replicate, nat_lt, MatchBool, if◌then◌else◌}
use Rattle.std.specs.List.{flat_map}
use Rattle.std.proofs.Common.{refl, sym, ap, subst, ◌∙◌, arith, append_assoc, append-nil, length-append}
use Rattle.std.proofs.lemmas.Grind.{flat_map-append}
use Rattle.std.proofs.lemmas.List.{map-append, length-replicate}
use Rattle.std.proofs.lemmas.List.Elements.{All-nil, All-append, All-replicate}
use Rattle.std.proofs.lemmas.Str.{IsUtf8-nil, is_utf8-from_IsUtf8, IsUtf8-from_ascii}
use Rattle.std.proofs.lemmas.Str.Ascii.{IsAscii-cons, IsAscii-nil}
use Rattle.dita_doc.specs.Lines.{line, IsLineText}
use Rattle.dita_doc.specs.declared.fault.FaultCode.TheVariants.{NoClass}
use Rattle.transcript_text.specs.Transcript.{IsNameShown, IsNameLine, name_line, InOutlet, PageShown, IsPageShown, page_line, FaultShown, IsFaultShown, fault_line, IsTranscript, end_head}
use Rattle.transcript_text.specs.Transcript as shown
use Rattle.transcript_text.specs.declared.below.Below.{Below}
use Rattle.transcript_text.specs.declared.below.Below.TheVariants as belows
use Rattle.transcript_text.specs.declared.state.ReadState.{ReadState}
use Rattle.transcript_text.specs.declared.state.ReadState.TheVariants.{Start, Entries, Entry, Rows, Row, End}
use Rattle.transcript_text.specs.declared.transcript.EntryText.{EntryText}
use Rattle.transcript_text.specs.declared.transcript.RowText.{RowText}
use Rattle.transcript_text.specs.declared.transcript.Transcript.{Transcript}
use Rattle.transcript_text.specs.Below.{count_of, FitsAt, FitFrom, IsPageText, IsFaultText}
use Rattle.transcript_text.specs.Heads.{IsRowLine}
use Rattle.transcript_text.specs.State.{HasEntries, HasOpenEntry, HasRows, HasOpenRow, HasAll, HasRead}
use Rattle.transcript_text.specs.Told.{entry_told, row_told, told, bar, first_line, entry_lines, row_lines, transcript_lines}
use Rattle.transcript_text.proofs.StateLaws.{entry_whole, rows_none, row_closed}

-- some valid transcript's lines begin so
pub record IsAlive (read : List (List ℕ)) : Type 0 where
  pub s : shown.Transcript
  pub valid : IsTranscript s
  pub more : List (List ℕ)
  pub lines : transcript_lines s ≡ read ++ more

-- lines that fit

text_fits : IsLineText []
text_fits = record { utf8 = is_utf8-from_IsUtf8 [] IsUtf8-nil; one = refl }

name_fits : IsNameShown (codes "a")
name_fits =
    record {
      named = refl;
      utf8 = is_utf8-from_IsUtf8 (codes "a")
          (IsUtf8-from_ascii (codes "a") (IsAscii-cons 97 [] (omega arith) IsAscii-nil));
    }

some_page : PageShown
some_page = record { name = codes "a"; mark = InOutlet 0 }

some_fault : FaultShown
some_fault = record { name = codes "a"; line = 0; code = NoClass; detail = [] }

page_fits : IsPageShown some_page
unfolding some_page
page_fits = record { name = name_fits; mark = omega arith }

fault_fits : IsFaultShown some_fault
unfolding some_fault
fault_fits = record { name = name_fits; line = omega arith; detail = text_fits }

pad : Below → ℕ → List ℕ
pad (belows.Texts count) at = []
pad (belows.Names count) at = name_line (codes "a", 0)
pad (belows.Built pages faults) at = if nat_lt at pages then page_line some_page else fault_line some_fault

built_pad_fits : (test : Bool)
    → MatchBool test (IsPageText (if test then page_line some_page else fault_line some_fault))
    (IsFaultText (if test then page_line some_page else fault_line some_fault))
built_pad_fits true = (some_page, page_fits, refl)
built_pad_fits false = (some_fault, fault_fits, refl)

pad_fits : (below : Below) (at : ℕ) → FitsAt below at (pad below at)
unfolding pad
pad_fits (belows.Texts count) at = text_fits
pad_fits (belows.Names count) at = ((codes "a", 0), record { name = name_fits; version = omega arith }, refl)
pad_fits (belows.Built pages faults) at = built_pad_fits (nat_lt at pages)

pub pads : Below → ℕ → ℕ → List (List ℕ)
pads below at zero = []
pads below at (suc n) = pad below at ∷ pads below (at + 1) n

pub pads_fit : (below : Below) (at n : ℕ) → FitFrom below at (pads below at n)
unfolding pads
pads_fit below at zero = tt
pads_fit below at (suc n) = (pad_fits below at, pads_fit below (at + 1) n)

pub pads_many : (below : Below) (at n : ℕ) → length (pads below at n) ≡ n
unfolding pads
pads_many below at zero = refl
pads_many below at (suc n) = ap suc (pads_many below (at + 1) n)

fit_append : (below : Below) (at : ℕ) (texts more : List (List ℕ)) → FitFrom below at texts
    → FitFrom below (at + length texts) more → FitFrom below at (texts ++ more)
fit_append below at [] more fit rest =
    let same : at + 0 ≡ at = omega arith in subst (λ n. FitFrom below n more) same rest
fit_append below at (text ∷ texts) more fit rest =
    let same : at + suc (length texts) ≡ (at + 1) + length texts = omega arith in
    (fit.0, fit_append below (at + 1) texts more fit.1 (subst (λ n. FitFrom below n more) same rest))

-- whole rows

behind : (read more : List (List ℕ)) → IsAlive (read ++ more) → IsAlive read
behind read more alive =
    record {
      s = alive.s;
      valid = alive.valid;
      more = more ++ alive.more;
      lines = alive.lines
          ∙ append_assoc read more alive.more;
    }

whole_lines : (first : List ℕ) (entries rows last : List (List ℕ))
    → first ∷ (entries ++ (rows ++ last)) ≡ (first ∷ entries) ++ rows ++ last
whole_lines first entries rows last = ap (λ (ls : List (List ℕ)). first ∷ ls) (sym (append_assoc entries rows last))

pub rows_alive : (entries : List EntryText) (rows : List RowText) (last : ℕ) (read : List (List ℕ))
    → HasRows entries rows last read → IsAlive read
rows_alive entries rows last read has =
    let s : shown.Transcript =
    record { entries = has.whole.shown; rows = has.shown; totals = record { entries = 0; made = 0; dropped = 0 } } in
    record {
      s = s;
      valid = record {
        entries = has.whole.valid;
        rows = has.valid;
        rising = has.rising;
        counted = omega arith;
        made = omega arith;
        dropped = omega arith;
      };
      more = end_head s.totals ∷ [];
      lines = whole_lines first_line (flat_map entry_lines has.whole.shown) (flat_map row_lines has.shown)
          (end_head s.totals ∷ [])
          ∙ ap (λ (ls : List (List ℕ)). ls ++ flat_map row_lines has.shown ++ end_head s.totals ∷ [])
          (sym has.whole.lines) ∙ ap (λ (ls : List (List ℕ)). ls ++ end_head s.totals ∷ []) (sym has.lines);
    }

entries_alive : (entries : List EntryText) (read : List (List ℕ)) → HasEntries entries read → IsAlive read
entries_alive entries read has = rows_alive entries [] 0 read (rows_none entries read has)

-- an entry is padded
open_entry_alive : (entries : List EntryText) (opened : EntryText) (below : Below) (read : List (List ℕ))
    → HasOpenEntry entries opened below read → IsAlive read
open_entry_alive entries opened below read has =
    let at = length opened.lines in
    let n = count_of below - at in
    let more = pads below (0 + at) n in
    let later : EntryText = record opened { lines = opened.lines ++ more } in
    let many : length (opened.lines ++ more) ≡ count_of below =
    omega (arith, length-append opened.lines more, pads_many below (0 + at) n, has.few) in
    let padded : HasOpenEntry entries later below (read ++ map bar more) = record {
      before = has.before;
      head = has.head;
      whole = has.whole;
      begun = has.begun;
      fit = fit_append below 0 opened.lines more has.fit (pads_fit below (0 + at) n);
      few = omega arith;
      lines = ap (λ (ls : List (List ℕ)). ls ++ map bar more) has.lines
          ∙ append_assoc has.before (has.head ∷ map bar opened.lines) (map bar more)
          ∙ ap (λ (ls : List (List ℕ)). has.before ++ has.head ∷ ls) (sym (map-append bar opened.lines more));
    } in
    behind read (map bar more)
    (entries_alive (entries ++ later ∷ []) (read ++ map bar more)
    (entry_whole entries later below (read ++ map bar more) padded many))

-- a row is padded
open_row_alive : (entries : List EntryText) (rows : List RowText) (opened : RowText) (left : ℕ) (read : List (List ℕ))
    → HasOpenRow entries rows opened left read → IsAlive read
open_row_alive entries rows opened left read has =
    let no_text : List ℕ = [] in
    let more : List (List ℕ) = replicate left no_text in
    let later : RowText = record opened { bytes = opened.bytes ++ flat_map line more } in
    let many : length has.texts + left ≡ length (has.texts ++ more) + 0 =
    omega (arith, length-append has.texts more, length-replicate left no_text) in
    let padded : HasOpenRow entries rows later 0 (read ++ map bar more) = record {
      before = has.before;
      last = has.last;
      whole = has.whole;
      rises = has.rises;
      head = has.head;
      part = has.part;
      texts = has.texts ++ more;
      begun = subst (λ n. IsRowLine has.head opened.serial has.part opened.key.map opened.key.val n) many has.begun;
      parted = has.parted;
      fit = All-append IsLineText has.texts more has.fit (All-replicate IsLineText left no_text text_fits);
      same = ap (λ (l : List ℕ). l ++ flat_map line more) has.same ∙ sym (flat_map-append line has.texts more);
      lines = ap (λ (ls : List (List ℕ)). ls ++ map bar more) has.lines
          ∙ append_assoc has.before (has.head ∷ map bar has.texts) (map bar more)
          ∙ ap (λ (ls : List (List ℕ)). has.before ++ has.head ∷ ls) (sym (map-append bar has.texts more));
    } in
    behind read (map bar more)
    (rows_alive entries (rows ++ later ∷ []) opened.serial (read ++ map bar more)
    (row_closed entries rows (rows ++ later ∷ []) later 0 (read ++ map bar more) padded refl refl))

-- all

pub record IsWhole (transcript : Transcript) (read : List (List ℕ)) : Type 0 where
  pub s : shown.Transcript
  pub valid : IsTranscript s
  pub same : transcript ≡ told s
  pub lines : transcript_lines s ≡ read

told_of : (transcript : Transcript) (s : shown.Transcript) → transcript.entries ≡ map entry_told s.entries
    → transcript.rows ≡ map row_told s.rows
    → transcript.total ≡ (s.totals.entries, s.totals.made, s.totals.dropped) → transcript ≡ told s
told_of transcript s entries rows total = rw (← entries, ← rows, ← total) refl

pub all_whole : (transcript : Transcript) (read : List (List ℕ)) → HasAll transcript read → IsWhole transcript read
all_whole transcript read has =
    let rows = has.whole in
    let s : shown.Transcript = record { entries = rows.whole.shown; rows = rows.shown; totals = has.totals } in
    record {
      s = s;
      valid = record {
        entries = rows.whole.valid;
        rows = rows.valid;
        rising = rows.rising;
        counted = has.counted;
        made = has.made;
        dropped = has.dropped;
      };
      same = told_of transcript s rows.whole.same rows.same has.same;
      lines = whole_lines first_line (flat_map entry_lines rows.whole.shown) (flat_map row_lines rows.shown)
          (end_head has.totals ∷ [])
          ∙ ap (λ (ls : List (List ℕ)). ls ++ flat_map row_lines rows.shown ++ end_head has.totals ∷ [])
          (sym rows.whole.lines) ∙ ap (λ (ls : List (List ℕ)). ls ++ end_head has.totals ∷ []) (sym rows.lines)
          ∙ sym has.lines;
    }

start_alive : IsAlive []
start_alive = record {
  s = record { entries = []; rows = []; totals = record { entries = 0; made = 0; dropped = 0 } };
  valid = record {
    entries = All-nil shown.IsEntryShown;
    rows = All-nil shown.IsRowShown;
    rising = tt;
    counted = omega arith;
    made = omega arith;
    dropped = omega arith;
  };
  more = _;
  lines = refl;
}

-- each state that lines lead to can be finished
pub alive : (state : ReadState) (read : List (List ℕ)) → HasRead state read → IsAlive read
alive Start read has = subst IsAlive (sym has) start_alive
alive (Entries entries) read has = entries_alive entries read has
alive (Entry entries opened below) read has = open_entry_alive entries opened below read has.1
alive (Rows entries rows last) read has = rows_alive entries rows last read has
alive (Row entries rows opened left) read has = open_row_alive entries rows opened left read has.1
alive (End transcript) read has =
    let whole = all_whole transcript read has in record {
      s = whole.s;
      valid = whole.valid;
      more = [];
      lines = whole.lines ∙ sym (append-nil read);
    }
