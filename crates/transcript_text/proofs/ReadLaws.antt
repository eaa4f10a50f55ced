-- Bytes of which some lines were read.
use Rattle.std.specs.Prelude.{◌≡◌, ◌+◌, ◌<◌, ◌≤◌, ℕ, true, false, List, [], ◌∷◌, ◌++◌, Result, Ok, Err, IfOk, IfErr, length, take, drop, map, All}
use Rattle.std.specs.List.{flat_map}
use Rattle.std.proofs.Common.{refl, sym, ap, subst, ◌∙◌, inl, inr, arith, append_assoc, append-nil, length-append}
use Rattle.std.proofs.lemmas.Grind.{flat_map-append}
use Rattle.std.proofs.lemmas.List.{take-append-drop, take-append-le, take_all}
use Rattle.std.proofs.lemmas.List.Elements.{All-push}
use Rattle.dita_doc.specs.Cut.{Lacks, IsCutAt}
use Rattle.dita_doc.specs.Lines.{lines_of, ends_with_line, line}
use Rattle.transcript_text.specs.Transcript.{EntryShown, RowShown, IsTranscript, shown_words, shown_lines, entry_text, row_text, bar_line, transcript_text, end_head}
use Rattle.transcript_text.specs.Transcript as shown
use Rattle.dita_doc.specs.declared.stop.Stop.{Stop}
use Rattle.dita_doc.specs.declared.stop.Stop.TheVariants.{Fault, NoMemory}
use Rattle.dita_doc.proofs.LinesLaws.{ends_after, ends_behind, ends_in_rest}
use Rattle.transcript_text.specs.declared.state.ReadState.{ReadState}
use Rattle.transcript_text.specs.declared.state.ReadState.TheVariants.{Start, Entries, Entry, Rows, Row, End}
use Rattle.transcript_text.specs.declared.transcript.Transcript.{Transcript}
use Rattle.transcript_text.specs.declared.transcript.BadTranscript.{BadTranscript}
use Rattle.transcript_text.specs.Read.{IsRead, Begins, first_lines, IsBadAt, IsFaultOf, IsLine}
use Rattle.transcript_text.specs.State.{HasRead, MayEntries, MayRows, May}
use Rattle.transcript_text.specs.Told.{bar, first_line, entry_lines, row_lines, transcript_lines}
use Rattle.transcript_text.proofs.AliveLaws.{IsAlive, alive, all_whole}
use Rattle.transcript_text.proofs.LineLaws.{back_shorter, rest_line}
use Rattle.transcript_text.proofs.OneLineLaws.{one_more, transcript_is, lines_of_lines, lines_of_text, lines_begin}

-- so many lines were read of the bytes, and this stands behind them
pub record HasReadLines (state : ReadState) (number : ℕ) (bytes rest : List ℕ) : Type 0 where
  pub read : List (List ℕ)
  pub has : HasRead state read
  pub lack : All (Lacks 10) read
  pub counted : length read ≡ number
  pub whole : bytes ≡ flat_map line read ++ rest
  pub within : number + length rest ≤ length bytes
  pub may : (s : shown.Transcript) → IsTranscript s → (more : List (List ℕ)) → transcript_lines s ≡ read ++ more
      → May state more

-- one more line

lines_more : (lines : List (List ℕ)) (text back : List ℕ)
    → flat_map line lines ++ (text ++ 10 ∷ back) ≡ flat_map line (lines ++ text ∷ []) ++ back
lines_more lines text back =
    sym (ap (λ (l : List ℕ). l ++ back)
    (flat_map-append line lines (text ∷ []) ∙ ap (λ (l : List ℕ). flat_map line lines ++ l) (append-nil (line text)))
    ∙ append_assoc (flat_map line lines) (line text) back
    ∙ ap (λ (l : List ℕ). flat_map line lines ++ l) (append_assoc text (10 ∷ []) back))

pub line_read : (state next : ReadState) (number : ℕ) (bytes rest text back : List ℕ)
    (has : HasReadLines state number bytes rest) → IsCutAt 10 rest text back
    → ((read : List (List ℕ)) → HasRead state read → HasRead next (read ++ text ∷ []))
    → ((more : List (List ℕ)) → May state (text ∷ more) → May next more)
    → HasReadLines next (number + 1) bytes back
line_read state next number bytes rest text back has cut sound complete = record {
  read = has.read ++ text ∷ [];
  has = sound has.read has.has;
  lack = All-push (Lacks 10) has.read text has.lack cut.first;
  counted = length-append has.read (text ∷ []) ∙ ap (λ n. n + 1) has.counted;
  whole = has.whole ∙ ap (λ (l : List ℕ). flat_map line has.read ++ l) cut.whole ∙ lines_more has.read text back;
  within = omega (arith, has.within, back_shorter rest text back cut);
  may = λ s is more lines. complete more (has.may s is (text ∷ more) (lines ∙ append_assoc has.read (text ∷ []) more));
}

-- where the bytes are no transcript

-- the lines that were read are the first ones
front_lines : (m : ℕ) (read more : List (List ℕ)) (bytes : List ℕ) → lines_of bytes ≡ read ++ more → m ≤ length read
    → first_lines m bytes ≡ flat_map line (take m read)
front_lines m read more bytes lines few =
    ap (λ (ls : List (List ℕ)). flat_map line (take m ls)) lines ∙ ap (flat_map line) (take-append-le m read more few)

front_begins : (m : ℕ) (read more : List (List ℕ)) (bytes : List ℕ) → IsAlive read → lines_of bytes ≡ read ++ more
    → m ≤ length read → Begins (first_lines m bytes)
front_begins m read more bytes alive lines few =
    let front = flat_map line (take m read) in
    let rest = flat_map line (drop m read) ++ flat_map line alive.more in
    let text : transcript_text alive.s ≡ front ++ rest =
    transcript_is alive.s ∙ ap (flat_map line) alive.lines ∙ flat_map-append line read alive.more
    ∙ ap (λ (ls : List (List ℕ)). flat_map line ls ++ flat_map line alive.more) (sym (take-append-drop m read))
    ∙ ap (λ (l : List ℕ). l ++ flat_map line alive.more) (flat_map-append line (take m read) (drop m read))
    ∙ append_assoc front (flat_map line (drop m read)) (flat_map line alive.more) in
    subst Begins (sym (front_lines m read more bytes lines few)) (alive.s, alive.valid, rest, text)

-- a line that may not follow
pub line_refused : (state : ReadState) (number : ℕ) (bytes rest text back : List ℕ)
    → HasReadLines state number bytes rest
    → IsCutAt 10 rest text back → ((more : List (List ℕ)) → May state (text ∷ more) → ⊥) → IsBadAt bytes (number + 1)
line_refused state number bytes rest text back has cut none =
    let read = has.read in
    let all = All-push (Lacks 10) read text has.lack cut.first in
    let whole : bytes ≡ flat_map line (read ++ text ∷ []) ++ back = has.whole
    ∙ ap (λ (l : List ℕ). flat_map line read ++ l) cut.whole ∙ lines_more read text back in
    let lines : lines_of bytes ≡ read ++ text ∷ lines_of back = ap lines_of whole
    ∙ lines_of_lines (read ++ text ∷ []) back all ∙ append_assoc read (text ∷ []) (lines_of back) in
    let count : number + 1 ≡ length (read ++ text ∷ []) =
    sym (length-append read (text ∷ []) ∙ ap (λ n. n + 1) has.counted) in
    let counted : length read ≡ number = has.counted in
    record {
      none = λ s is same. none (lines_of back)
          (has.may s is (text ∷ lines_of back) (sym (lines_of_text s is) ∙ ap lines_of same ∙ lines));
      before = λ m less. front_begins m read (text ∷ lines_of back) bytes (alive state read has.has) lines
          (omega arith);
      there = inr (λ begins.
          let front : first_lines (number + 1) bytes ≡ flat_map line (read ++ text ∷ []) =
          front_lines (number + 1) (read ++ text ∷ []) (lines_of back) bytes
          (lines ∙ sym (append_assoc read (text ∷ []) (lines_of back))) (omega arith)
          ∙ ap (flat_map line) (take_all (number + 1) (read ++ text ∷ []) (omega arith)) in
          let told = lines_begin begins.0 (read ++ text ∷ []) begins.2 begins.1 all
          (begins.3 ∙ ap (λ (l : List ℕ). l ++ begins.2) front) in
          none (lines_of begins.2)
          (has.may begins.0 begins.1 (text ∷ lines_of begins.2)
          (told ∙ append_assoc read (text ∷ []) (lines_of begins.2))));
    }

-- a rest without LF

ends_lines : (lines : List (List ℕ)) (rest : List ℕ)
    → ends_with_line (flat_map line lines ++ rest) ≡ ends_with_line rest
ends_lines [] rest = refl
ends_lines (text ∷ lines) rest =
    ap ends_with_line (one_more text (flat_map line lines) rest) ∙ ends_after text (flat_map line lines ++ rest)
    ∙ ends_behind (flat_map line lines ++ rest) ∙ ends_lines lines rest

text_ends : (s : shown.Transcript) → ends_with_line (transcript_text s) ≡ true
text_ends s =
    ap ends_with_line (transcript_is s ∙ sym (append-nil (flat_map line (transcript_lines s))))
    ∙ ends_lines (transcript_lines s) []

rest_not_ended : (rest : List ℕ) → Lacks 10 rest → 0 < length rest → ends_with_line rest ≡ false
rest_not_ended [] lacks some = absurd (omega arith)
rest_not_ended (b ∷ rest) lacks some = ends_in_rest b rest lacks

pub rest_refused : (state : ReadState) (number : ℕ) (bytes rest : List ℕ) → HasReadLines state number bytes rest
    → Lacks 10 rest → 0 < length rest → IsBadAt bytes (number + 1)
rest_refused state number bytes rest has lacks some =
    let read = has.read in
    let lines : lines_of bytes ≡ read ++ rest ∷ [] = ap lines_of has.whole ∙ lines_of_lines read rest has.lack
    ∙ ap (λ (ls : List (List ℕ)). read ++ ls) (rest_line rest lacks some) in
    let counted : length read ≡ number = has.counted in
    record {
      none = λ s is same.
          let ended : ends_with_line bytes ≡ true = ap ends_with_line (sym same) ∙ text_ends s in
          let open_end : ends_with_line bytes ≡ false = ap ends_with_line has.whole ∙ ends_lines read rest
          ∙ rest_not_ended rest lacks some in
          absurd (cc);
      before = λ m less. front_begins m read (rest ∷ []) bytes (alive state read has.has) lines (omega arith);
      there = inl (sym (ap (length {A = List ℕ}) lines ∙ length-append read (rest ∷ []) ∙ ap (λ n. n + 1) has.counted));
    }

-- the end where more lines must come

nil_cons : (first : List ℕ) (back : List (List ℕ)) → [] ≡ first ∷ back → ⊥
nil_cons first back e = absurd (cc)

nil_append : (front : List (List ℕ)) (last : List ℕ) → [] ≡ front ++ last ∷ [] → ⊥
nil_append [] last e = absurd (cc)
nil_append (first ∷ front) last e = absurd (cc)

nil_back : (front back : List (List ℕ)) → [] ≡ front ++ back → [] ≡ back
nil_back [] back e = e
nil_back (first ∷ front) back e = absurd (cc)

rows_not_nil : (last : ℕ) (more : List (List ℕ)) → [] ≡ more → MayRows last more → ⊥
rows_not_nil last more none may = nil_append (flat_map row_lines may.rows) (end_head may.totals) (none ∙ may.lines)

entries_not_nil : (more : List (List ℕ)) → [] ≡ more → MayEntries more → ⊥
entries_not_nil more none may =
    rows_not_nil 0 may.back (nil_back (flat_map entry_lines may.entries) may.back (none ∙ may.lines)) may.behind

not_ended : (state : ReadState) → May state [] → ((transcript : Transcript) → state ≡ End transcript → ⊥) → ⊥
not_ended Start may none = nil_cons first_line may.0 may.1
not_ended (Entries entries) may none = entries_not_nil [] refl may
not_ended (Entry entries opened below) may none =
    entries_not_nil may.1.back (nil_back (map bar may.1.texts) may.1.back may.1.lines) may.1.behind
not_ended (Rows entries rows last) may none = rows_not_nil last [] refl may
not_ended (Row entries rows opened left) may none =
    rows_not_nil opened.serial may.1.back (nil_back (map bar may.1.texts) may.1.back may.1.lines) may.1.behind
not_ended (End transcript) may none = none transcript refl

no_bytes : (rest : List ℕ) → length rest ≡ 0 → rest ≡ []
no_bytes [] e = refl
no_bytes (b ∷ rest) e = absurd (omega arith)

pub end_refused : (state : ReadState) (number : ℕ) (bytes rest : List ℕ) → HasReadLines state number bytes rest
    → length rest ≡ 0 → ((transcript : Transcript) → state ≡ End transcript → ⊥) → IsBadAt bytes number
end_refused state number bytes rest has empty none =
    let read = has.read in
    let whole : bytes ≡ flat_map line read ++ [] = has.whole
    ∙ ap (λ (l : List ℕ). flat_map line read ++ l) (no_bytes rest empty) in
    let lines : lines_of bytes ≡ read ++ [] = ap lines_of whole ∙ lines_of_lines read [] has.lack in
    let counted : length read ≡ number = has.counted in
    record {
      none = λ s is same. not_ended state (has.may s is [] (sym (lines_of_text s is) ∙ ap lines_of same ∙ lines)) none;
      before = λ m less. front_begins m read [] bytes (alive state read has.has) lines (omega arith);
      there = inl (sym (ap (length {A = List ℕ}) (lines ∙ append-nil read) ∙ has.counted));
    }

-- all was read

pub all_read : (transcript : Transcript) (number : ℕ) (bytes rest : List ℕ)
    → HasReadLines (End transcript) number bytes rest → length rest ≡ 0 → IsRead transcript bytes
all_read transcript number bytes rest has empty =
    let whole = all_whole transcript has.read has.has in
    let text : bytes ≡ transcript_text whole.s =
    has.whole ∙ ap (λ (l : List ℕ). flat_map line has.read ++ l) (no_bytes rest empty)
    ∙ append-nil (flat_map line has.read) ∙ ap (flat_map line) (sym whole.lines) ∙ sym (transcript_is whole.s) in
    (whole.s, whole.valid, text, whole.same)

-- the fault of a line that can be named
pub named : (stop : Stop BadTranscript) (bytes : List ℕ) (number : ℕ) → IsLine stop number → IsBadAt bytes number
    → IsFaultOf stop bytes
named (Fault bad) bytes number is bad_there = subst (IsBadAt bytes) (sym is) bad_there
named NoMemory bytes number is bad_there = tt

-- that of a line that may not follow
pub line_named : (stop : Stop BadTranscript) (state : ReadState) (number : ℕ) (bytes rest text back : List ℕ)
    → HasReadLines state number bytes rest → IsCutAt 10 rest text back → IsLine stop (number + 1)
    → ((more : List (List ℕ)) → May state (text ∷ more) → stop ≡ NoMemory) → IsFaultOf stop bytes
line_named (Fault bad) state number bytes rest text back has cut is none =
    named (Fault bad) bytes (number + 1) is
    (line_refused state number bytes rest text back has cut (λ more may. absurd (cc (none more may))))
line_named NoMemory state number bytes rest text back has cut is none = tt

-- what is given at the end
pub given_read : (result : Result Transcript (Stop BadTranscript)) (state : ReadState) (number : ℕ)
    (bytes rest : List ℕ)
    → HasReadLines state number bytes rest → length rest ≡ 0 → IfOk result (λ transcript. state ≡ End transcript)
    → IfOk result (λ transcript. IsRead transcript bytes)
given_read (Ok transcript) state number bytes rest has empty is =
    all_read transcript number bytes rest (subst (λ (s : ReadState). HasReadLines s number bytes rest) is has) empty
given_read (Err stop) state number bytes rest has empty is = tt

pub given_refused : (result : Result Transcript (Stop BadTranscript)) (state : ReadState) (number : ℕ)
    (bytes rest : List ℕ)
    → HasReadLines state number bytes rest → length rest ≡ 0
    → IfErr result (λ stop. (transcript : Transcript) → state ≡ End transcript → ⊥)
    → IfErr result (λ stop. IsLine stop number) → IfErr result (λ stop. IsFaultOf stop bytes)
given_refused (Ok transcript) state number bytes rest has empty none is = tt
given_refused (Err stop) state number bytes rest has empty none is =
    named stop bytes number is (end_refused state number bytes rest has empty none)
