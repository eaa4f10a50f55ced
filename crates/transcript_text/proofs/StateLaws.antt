-- One more line: what was read with it, and which lines may follow.
use Rattle.std.specs.Prelude.{◌≡◌, ◌+◌, ◌-◌, ◌<◌, ◌≤◌, ◌==◌, ◌⊎◌, ℕ, suc, true, List, [], ◌∷◌, ◌++◌, Option, length, map, All}
use Rattle.std.specs.List.{flat_map}
use Rattle.std.proofs.Common.{refl, sym, ap, subst, ◌∙◌, inl, inr, ⊎_elim, arith, append_assoc, append-nil, length-append}
use Rattle.std.proofs.lemmas.Grind.{flat_map-append}
use Rattle.std.proofs.lemmas.List.{map-append}
use Rattle.std.proofs.lemmas.List.Elements.{All-nil, All-head, All-tail, All-push}
use Rattle.dita_doc.specs.declared.fact.Part.{Part}
use Rattle.dita_doc.specs.Lines.{line, IsLineText}
use Rattle.transcript_text.specs.Transcript.{Fits64, EntryShown, IsEntryShown, entry_head, Shown, shown_words, shown_lines, PartShown, RowShown, IsRowShown, row_head, NeverFall, Totals, end_head}
use Rattle.transcript_text.specs.declared.below.Below.{Below}
use Rattle.transcript_text.specs.declared.transcript.EntryText.{EntryText}
use Rattle.transcript_text.specs.declared.transcript.RowText.{RowText}
use Rattle.dita_doc.specs.Bytes.{spaced_parts}
use Rattle.transcript_text.specs.Below.{count_of, FitsAt, FitFrom}
use Rattle.transcript_text.specs.Heads.{IsEntryLine, IsRowLine, IsEndLine, part_seen}
use Rattle.transcript_text.specs.State.{HasEntries, HasOpenEntry, last_of, HasRows, HasOpenRow, HasAll, MayRows, MayEntries, MayEntryLines, MayRowLines}
use Rattle.transcript_text.specs.Written.{numbers_text}
use Rattle.std.proofs.lemmas.Bool.{eqb-true}
use Rattle.transcript_text.specs.Told.{entry_told, row_told, bar, first_line, entry_lines, row_lines}
use Rattle.transcript_text.proofs.FormLaws.{below_shown, shown_fit, shown_counted, entry_head_is}
use Rattle.transcript_text.proofs.HeadLaws.{entry_head_words, entry_line_once, entry_no_row, entry_no_end, row_head_is, row_line_once, row_no_end, end_head_words, end_is}
use Rattle.transcript_text.proofs.ShownLaws.{HasShown, shown_of}
use Rattle.transcript_text.proofs.WordLaws.{words_same}

-- Rows

-- what may come first where rows or the end may come
record IsRowFirst (last : ℕ) (given : List ℕ) (more : List (List ℕ)) : Type 0 where
  row : RowShown
  valid : IsRowShown row
  rises : last ≤ row.serial
  is : given ≡ row_head row
  rest : MayRowLines (length row.lines) row.serial more

record IsEndFirst (given : List ℕ) (more : List (List ℕ)) : Type 0 where
  totals : Totals
  counted : Fits64 totals.entries
  made : Fits64 totals.made
  dropped : Fits64 totals.dropped
  is : given ≡ end_head totals
  rest : more ≡ []

first_by : (last : ℕ) (given : List ℕ) (more : List (List ℕ)) (rows : List RowShown) (totals : Totals)
    → All IsRowShown rows → NeverFall last rows → Fits64 totals.entries → Fits64 totals.made → Fits64 totals.dropped
    → given ∷ more ≡ flat_map row_lines rows ++ end_head totals ∷ []
    → IsRowFirst last given more ⊎ IsEndFirst given more
first_by last given more [] totals valid rising counted made dropped lines =
    inr (record { totals = totals; counted = counted; made = made; dropped = dropped; is = cc; rest = cc })
first_by last given more (row ∷ rows) totals valid rising counted made dropped lines =
    let rest : more ≡ map bar row.lines ++ flat_map row_lines rows ++ end_head totals ∷ [] = cc in
    let first = All-head IsRowShown row rows valid in
    inl (record {
      row = row;
      valid = first;
      rises = rising.0;
      is = cc;
      rest = record {
        texts = row.lines;
        fit = first.lines;
        count = refl;
        back = flat_map row_lines rows ++ end_head totals ∷ [];
        behind = record {
          rows = rows;
          valid = All-tail IsRowShown row rows valid;
          rising = rising.1;
          totals = totals;
          counted = counted;
          made = made;
          dropped = dropped;
          lines = refl;
        };
        lines = rest ∙ append_assoc (map bar row.lines) (flat_map row_lines rows) (end_head totals ∷ []);
      };
    })

first_of_rows : (last : ℕ) (given : List ℕ) (more : List (List ℕ)) → MayRows last (given ∷ more)
    → IsRowFirst last given more ⊎ IsEndFirst given more
first_of_rows last given more may =
    first_by last given more may.rows may.totals may.valid may.rising may.counted may.made may.dropped may.lines

row_line_of : (last : ℕ) (given : List ℕ) (more : List (List ℕ)) (first : IsRowFirst last given more)
    → IsRowLine given first.row.serial first.row.part first.row.map first.row.val (length first.row.lines)
row_line_of last given more first =
    subst (λ (l : List ℕ). IsRowLine l first.row.serial first.row.part first.row.map first.row.val
    (length first.row.lines)) (sym first.is) (row_head_is first.row first.valid)

end_line_of : (given : List ℕ) (more : List (List ℕ)) (first : IsEndFirst given more)
    → IsEndLine given first.totals.entries first.totals.made first.totals.dropped
end_line_of given more first =
    subst (λ (l : List ℕ). IsEndLine l first.totals.entries first.totals.made first.totals.dropped) (sym first.is)
    (end_is first.totals first.counted first.made first.dropped)

-- no row and no end begins as an entry does
row_not_entry : (given reply : List ℕ) (p s n : ℕ) (below : Below) (more back : List (List ℕ)) → MayRows 0 back
    → IsEntryLine given p s n reply below → given ∷ more ≡ back → ⊥
row_not_entry given reply p s n below more back may is same =
    ⊎_elim (λ (first : IsRowFirst 0 given more). entry_no_row given reply first.row.map p s n first.row.serial
    (length first.row.lines) below first.row.part first.row.val is (row_line_of 0 given more first))
    (λ (first : IsEndFirst given more). entry_no_end given reply p s n first.totals.entries first.totals.made
    first.totals.dropped below is (end_line_of given more first))
    (first_of_rows 0 given more (subst (MayRows 0) (sym same) may))

-- a row begins
pub row_begins : (last serial count : ℕ) (given map : List ℕ) (part : PartShown) (val : Option (List ℕ))
    (more : List (List ℕ)) → MayRows last (given ∷ more) → IsRowLine given serial part map val count
    → (last ≤ serial) × MayRowLines count serial more
row_begins last serial count given map part val more may is =
    ⊎_elim (λ (first : IsRowFirst last given more).
    let once = row_line_once given map first.row.map serial first.row.serial count
    (length first.row.lines) part first.row.part val first.row.val is (row_line_of last given more first) in
    rw (once.0, once.1) (first.rises, first.rest))
    (λ (first : IsEndFirst given more). absurd
    (row_no_end given map serial count first.totals.entries first.totals.made first.totals.dropped part val is
    (end_line_of given more first)))
    (first_of_rows last given more may)

-- the end comes
pub end_comes : (last entries made dropped : ℕ) (given : List ℕ) (more : List (List ℕ)) → MayRows last (given ∷ more)
    → IsEndLine given entries made dropped → more ≡ []
end_comes last entries made dropped given more may is =
    ⊎_elim (λ (first : IsRowFirst last given more). absurd (row_no_end given first.row.map first.row.serial
    (length first.row.lines) entries made dropped first.row.part first.row.val (row_line_of last given more first) is))
    (λ (first : IsEndFirst given more). first.rest)
    (first_of_rows last given more may)

-- nothing else does
pub row_or_end_comes : (last : ℕ) (given : List ℕ) (more : List (List ℕ)) → MayRows last (given ∷ more)
    → ((serial : ℕ) (part : PartShown) (map : List ℕ) (val : Option (List ℕ)) (count : ℕ)
    → IsRowLine given serial part map val count → ⊥)
    → ((entries made dropped : ℕ) → IsEndLine given entries made dropped → ⊥) → ⊥
row_or_end_comes last given more may no_row no_end =
    ⊎_elim (λ (first : IsRowFirst last given more). no_row first.row.serial first.row.part first.row.map first.row.val
    (length first.row.lines) (row_line_of last given more first))
    (λ (first : IsEndFirst given more). no_end first.totals.entries first.totals.made first.totals.dropped
    (end_line_of given more first))
    (first_of_rows last given more may)

-- a row is opened, and the whole is ended

pub row_opened : (entries : List EntryText) (rows : List RowText) (opened : RowText) (last serial count : ℕ)
    (given map : List ℕ) (part : PartShown) (val : Option (List ℕ)) (kept : Part) (read : List (List ℕ))
    → HasRows entries rows last read → last ≤ serial → kept ≡ part_seen part → IsRowLine given serial part map val count
    → opened ≡ record { serial = serial; key = record { map = map; val = val; part = kept }; bytes = [] }
    → HasOpenRow entries rows opened count (read ++ given ∷ [])
row_opened entries rows opened last serial count given map part val kept read has rises parted is same =
    let none : count ≡ 0 + count = omega arith in
    rw same (record {
      before = read;
      last = last;
      whole = has;
      rises = rises;
      head = given;
      part = part;
      texts = [];
      begun = subst (λ n. IsRowLine given serial part map val n) none is;
      parted = parted;
      fit = All-nil IsLineText;
      same = refl;
      lines = refl;
    })

pub all_ended : (given_entries : List EntryText) (rows : List RowText) (last entries made dropped : ℕ) (given : List ℕ)
    (read : List (List ℕ)) → HasRows given_entries rows last read → IsEndLine given entries made dropped
    → HasAll (record { entries = given_entries; rows = rows; total = (entries, made, dropped) }) (read ++ given ∷ [])
all_ended given_entries rows last entries made dropped given read has is =
    let totals : Totals = record { entries = entries; made = made; dropped = dropped } in
    record {
      before = read;
      last = last;
      whole = has;
      totals = totals;
      counted = is.entries_fits;
      made = is.made_fits;
      dropped = is.dropped_fits;
      same = refl;
      lines = ap (λ (l : List ℕ). read ++ l ∷ [])
          (words_same given (end_head totals)
          (is.words ∙ sym (end_head_words totals is.entries_fits is.made_fits is.dropped_fits)));
    }

-- one more line of a row

pub row_more : (entries : List EntryText) (rows : List RowText) (opened later : RowText) (left now : ℕ)
    (read : List (List ℕ)) (given text : List ℕ) → HasOpenRow entries rows opened left read → 0 < left → now ≡ left - 1
    → given ≡ bar text → IsLineText text → later ≡ record opened { bytes = opened.bytes ++ line text }
    → HasOpenRow entries rows later now (read ++ given ∷ [])
row_more entries rows opened later left now read given text has some fewer is fits same =
    let counted : length has.texts + left ≡ length (has.texts ++ text ∷ []) + now =
    omega (arith, length-append has.texts (text ∷ [])) in
    rw (same, is) (record {
      before = has.before;
      last = has.last;
      whole = has.whole;
      rises = has.rises;
      head = has.head;
      part = has.part;
      texts = has.texts ++ text ∷ [];
      begun = subst (λ n. IsRowLine has.head opened.serial has.part opened.key.map opened.key.val n) counted has.begun;
      parted = has.parted;
      fit = All-push IsLineText has.texts text has.fit fits;
      same = ap (λ (l : List ℕ). l ++ line text) has.same
          ∙ ap (λ (l : List ℕ). flat_map line has.texts ++ l) (sym (append-nil (line text)))
          ∙ sym (flat_map-append line has.texts (text ∷ []));
      lines = ap (λ (ls : List (List ℕ)). ls ++ bar text ∷ []) has.lines
          ∙ append_assoc has.before (has.head ∷ map bar has.texts) (bar text ∷ [])
          ∙ ap (λ (ls : List (List ℕ)). has.before ++ has.head ∷ ls) (sym (map-append bar has.texts (text ∷ [])));
    })

-- a line that may stand in a row is one of its lines
pub record IsRowText (left serial : ℕ) (given : List ℕ) (more : List (List ℕ)) : Type 0 where
  pub text : List ℕ
  pub is : given ≡ bar text
  pub fits : IsLineText text
  pub rest : MayRowLines (left - 1) serial more

row_text_of : (left serial : ℕ) (given : List ℕ) (more texts back : List (List ℕ)) → All IsLineText texts
    → length texts ≡ left → 0 < left → MayRows serial back → given ∷ more ≡ map bar texts ++ back
    → IsRowText left serial given more
row_text_of left serial given more [] back fit count some behind lines = absurd (omega arith)
row_text_of left serial given more (text ∷ texts) back fit count some behind lines = record {
  text = text;
  is = cc;
  fits = All-head IsLineText text texts fit;
  rest = record {
    texts = texts;
    fit = All-tail IsLineText text texts fit;
    count = omega arith;
    back = back;
    behind = behind;
    lines = cc;
  };
}

pub may_row_text : (left serial : ℕ) (given : List ℕ) (more : List (List ℕ)) → MayRowLines left serial (given ∷ more)
    → 0 < left → IsRowText left serial given more
may_row_text left serial given more may some =
    row_text_of left serial given more may.texts may.back may.fit may.count some may.behind may.lines

pub row_may_more : (left now serial : ℕ) (given : List ℕ) (more : List (List ℕ))
    → MayRowLines left serial (given ∷ more) → 0 < left → now ≡ left - 1 → MayRowLines now serial more
row_may_more left now serial given more may some is = rw is (may_row_text left serial given more may some).rest

-- a row whose lines are all there is whole

fall_push : (from : ℕ) (rows : List RowShown) (row : RowShown) → NeverFall from rows → last_of from rows ≤ row.serial
    → NeverFall from (rows ++ row ∷ [])
fall_push from [] row rising last = (last, tt)
fall_push from (first ∷ rows) row rising last = (rising.0, fall_push first.serial rows row rising.1 last)

last_push : (from : ℕ) (rows : List RowShown) (row : RowShown) → last_of from (rows ++ row ∷ []) ≡ row.serial
last_push from [] row = refl
last_push from (first ∷ rows) row = last_push first.serial rows row

row_same : (opened : RowText) (part : PartShown) (texts : List (List ℕ)) → opened.key.part ≡ part_seen part
    → opened.bytes ≡ flat_map line texts
    → opened ≡ row_told (record {
      serial = opened.serial;
      part = part;
      map = opened.key.map;
      val = opened.key.val;
      lines = texts;
    })
row_same opened part texts parted same = rw (← parted, ← same) refl

pub row_closed : (entries : List EntryText) (rows more : List RowText) (opened : RowText) (left : ℕ)
    (read : List (List ℕ)) → HasOpenRow entries rows opened left read → left ≡ 0
    → more ≡ rows ++ opened ∷ [] → HasRows entries more opened.serial read
row_closed entries rows more opened left read has none is =
    let whole = has.whole in
    let row : RowShown = record {
      serial = opened.serial;
      part = has.part;
      map = opened.key.map;
      val = opened.key.val;
      lines = has.texts;
    } in
    let counted : length has.texts + left ≡ length has.texts = omega arith in
    let begun = subst (λ n. IsRowLine has.head opened.serial has.part opened.key.map opened.key.val n) counted
    has.begun in
    let valid : IsRowShown row =
    record {
      serial = begun.serial_fits;
      index = begun.index_fits;
      map = begun.map_named;
      val = begun.val_named;
      count = begun.count_fits;
      lines = has.fit;
    } in
    let head : has.head ≡ row_head row =
    words_same has.head (row_head row) (begun.words ∙ sym (row_head_is row valid).words) in
    let last : last_of 0 whole.shown ≤ opened.serial = subst (λ n. n ≤ opened.serial) whole.ended has.rises in
    let lines : has.head ∷ map bar has.texts ≡ flat_map row_lines (row ∷ []) =
    ap (λ (l : List ℕ). l ∷ map bar has.texts) head ∙ sym (append-nil (row_lines row)) in
    rw is (record {
      before = whole.before;
      whole = whole.whole;
      shown = whole.shown ++ row ∷ [];
      valid = All-push IsRowShown whole.shown row whole.valid valid;
      rising = fall_push 0 whole.shown row whole.rising last;
      ended = sym (last_push 0 whole.shown row);
      same = ap (λ (rs : List RowText). rs ++ opened ∷ []) whole.same
          ∙ ap (λ (r : RowText). map row_told whole.shown ++ r ∷ [])
          (row_same opened has.part has.texts has.parted has.same)
          ∙ sym (map-append row_told whole.shown (row ∷ []));
      lines = has.lines ∙ ap (λ (ls : List (List ℕ)). ls ++ has.head ∷ map bar has.texts) whole.lines
          ∙ append_assoc whole.before (flat_map row_lines whole.shown) (has.head ∷ map bar has.texts)
          ∙ ap (λ (ls : List (List ℕ)). whole.before ++ (flat_map row_lines whole.shown ++ ls)) lines
          ∙ ap (λ (ls : List (List ℕ)). whole.before ++ ls) (sym (flat_map-append row_lines whole.shown (row ∷ [])));
    })

-- Entries

entry_same : (opened : EntryText) (shown : Shown) → shown_words shown ≡ opened.reply → shown_lines shown ≡ opened.lines
    → opened ≡ entry_told
    (record { place = opened.place; session = opened.session; number = opened.number; shown = shown })
entry_same opened shown words below = rw (words, below) refl

-- an entry whose lines are all there is whole
closed_by : (entries : List EntryText) (opened : EntryText) (below : Below) (read : List (List ℕ))
    (has : HasOpenEntry entries opened below read) → HasShown opened.reply opened.lines
    → HasEntries (entries ++ opened ∷ []) read
closed_by entries opened below read has told =
    let entry : EntryShown =
    record { place = opened.place; session = opened.session; number = opened.number; shown = told.shown } in
    let valid : IsEntryShown entry =
    record {
      place = has.begun.place_fits;
      session = has.begun.session_fits;
      number = has.begun.number_fits;
      shown = told.valid;
    } in
    let same : opened ≡ entry_told entry = entry_same opened told.shown told.words told.below in
    let head : has.head ≡ entry_head entry =
    words_same has.head (entry_head entry) (has.begun.words
    ∙ sym (entry_head_words opened.place opened.session opened.number opened.reply has.begun.place_fits
    has.begun.session_fits has.begun.number_fits)
    ∙ ap (λ (l : List ℕ). spaced_parts (numbers_text opened.place opened.session opened.number ++ l))
    (sym told.words)) in
    let lines : has.head ∷ map bar opened.lines ≡ flat_map entry_lines (entry ∷ []) =
    ap (λ (l : List ℕ). l ∷ map bar opened.lines) head
    ∙ ap (λ (ls : List (List ℕ)). entry_head entry ∷ map bar ls) (sym told.below)
    ∙ sym (append-nil (entry_lines entry)) in
    record {
      shown = has.whole.shown ++ entry ∷ [];
      valid = All-push IsEntryShown has.whole.shown entry has.whole.valid valid;
      same = ap (λ (es : List EntryText). es ++ opened ∷ []) has.whole.same
          ∙ ap (λ (e : EntryText). map entry_told has.whole.shown ++ e ∷ []) same
          ∙ sym (map-append entry_told has.whole.shown (entry ∷ []));
      lines = has.lines ∙ ap (λ (ls : List (List ℕ)). ls ++ has.head ∷ map bar opened.lines) has.whole.lines
          ∙ ap (λ (ls : List (List ℕ)). first_line ∷ (flat_map entry_lines has.whole.shown ++ ls)) lines
          ∙ ap (λ (ls : List (List ℕ)). first_line ∷ ls)
          (sym (flat_map-append entry_lines has.whole.shown (entry ∷ [])));
    }

pub entry_whole : (entries : List EntryText) (opened : EntryText) (below : Below) (read : List (List ℕ))
    → HasOpenEntry entries opened below read → length opened.lines ≡ count_of below
    → HasEntries (entries ++ opened ∷ []) read
entry_whole entries opened below read has all =
    closed_by entries opened below read has (shown_of opened.reply below opened.lines has.begun.said has.fit all)

pub entry_closed : (entries more : List EntryText) (opened : EntryText) (below : Below) (read : List (List ℕ))
    → HasOpenEntry entries opened below read → true ≡ (length opened.lines == count_of below)
    → more ≡ entries ++ opened ∷ [] → HasEntries more read
entry_closed entries more opened below read has whole is =
    rw is (entry_whole entries opened below read has (eqb-true _ _ (sym whole)))

-- one more line of an entry

fit_push : (below : Below) (at : ℕ) (texts : List (List ℕ)) (text : List ℕ) → FitFrom below at texts
    → FitsAt below (at + length texts) text → FitFrom below at (texts ++ text ∷ [])
fit_push below at [] text fit here = (subst (λ n. FitsAt below n text) (omega arith) here, tt)
fit_push below at (first ∷ texts) text fit here =
    let same : at + suc (length texts) ≡ (at + 1) + length texts = omega arith in
    (fit.0, fit_push below (at + 1) texts text fit.1 (subst (λ n. FitsAt below n text) same here))

pub entry_more : (entries : List EntryText) (opened later : EntryText) (below : Below) (read : List (List ℕ))
    (given text : List ℕ) → HasOpenEntry entries opened below read → length opened.lines < count_of below
    → given ≡ bar text → FitsAt below (length opened.lines) text
    → later ≡ record opened { lines = opened.lines ++ text ∷ [] }
    → HasOpenEntry entries later below (read ++ given ∷ [])
entry_more entries opened later below read given text has less is fits same =
    let at : length opened.lines ≡ 0 + length opened.lines = omega arith in
    rw (same, is) (record {
      before = has.before;
      head = has.head;
      whole = has.whole;
      begun = has.begun;
      fit = fit_push below 0 opened.lines text has.fit (subst (λ n. FitsAt below n text) at fits);
      few = omega (arith, length-append opened.lines (text ∷ []));
      lines = ap (λ (ls : List (List ℕ)). ls ++ bar text ∷ []) has.lines
          ∙ append_assoc has.before (has.head ∷ map bar opened.lines) (bar text ∷ [])
          ∙ ap (λ (ls : List (List ℕ)). has.before ++ has.head ∷ ls) (sym (map-append bar opened.lines (text ∷ [])));
    })

-- a line that may stand in an entry is one of its lines
record IsOneOf (below : Below) (at : ℕ) (given : List ℕ) (more : List (List ℕ)) : Type 0 where
  text : List ℕ
  is : given ≡ bar text
  fits : FitsAt below at text
  rest : MayEntryLines below (at + 1) more

one_of : (below : Below) (at : ℕ) (given : List ℕ) (more texts back : List (List ℕ)) → FitFrom below at texts
    → at + length texts ≡ count_of below → at < count_of below → MayEntries back
    → given ∷ more ≡ map bar texts ++ back → IsOneOf below at given more
one_of below at given more [] back fit count less behind lines = absurd (omega arith)
one_of below at given more (text ∷ texts) back fit count less behind lines = record {
  text = text;
  is = cc;
  fits = fit.0;
  rest = record { texts = texts; fit = fit.1; count = omega arith; back = back; behind = behind; lines = cc };
}

may_one : (below : Below) (at : ℕ) (given : List ℕ) (more : List (List ℕ)) → MayEntryLines below at (given ∷ more)
    → at < count_of below → IsOneOf below at given more
may_one below at given more may less =
    one_of below at given more may.texts may.back may.fit may.count less may.behind may.lines

pub entry_no_bar : (below : Below) (at : ℕ) (given : List ℕ) (more : List (List ℕ))
    → ((text : List ℕ) → given ≡ bar text → ⊥) → MayEntryLines below at (given ∷ more) → at < count_of below → ⊥
entry_no_bar below at given more none may less = let one = may_one below at given more may less in none one.text one.is

pub entry_no_fit : (below : Below) (at : ℕ) (given text : List ℕ) (more : List (List ℕ)) → given ≡ bar text
    → (FitsAt below at text → ⊥) → MayEntryLines below at (given ∷ more) → at < count_of below → ⊥
entry_no_fit below at given text more is none may less =
    let one = may_one below at given more may less in
    let same : one.text ≡ text = cc (one.is) in
    none (subst (FitsAt below at) same one.fits)

pub entry_may_more : (below : Below) (at now : ℕ) (given : List ℕ) (more : List (List ℕ))
    → MayEntryLines below at (given ∷ more) → at < count_of below → now ≡ at + 1 → MayEntryLines below now more
entry_may_more below at now given more may less is = rw is (may_one below at given more may less).rest

-- an entry begins, or a row or the end comes

entry_first : (given reply : List ℕ) (p s n : ℕ) (below : Below) (more back : List (List ℕ)) (entries : List EntryShown)
    → All IsEntryShown entries → MayRows 0 back → IsEntryLine given p s n reply below
    → given ∷ more ≡ flat_map entry_lines entries ++ back → MayEntryLines below 0 more
entry_first given reply p s n below more back [] valid behind is lines =
    absurd (row_not_entry given reply p s n below more back behind is lines)
entry_first given reply p s n below more back (entry ∷ entries) valid behind is lines =
    let first = All-head IsEntryShown entry entries valid in
    let head : given ≡ entry_head entry = cc in
    let rest : more ≡ map bar (shown_lines entry.shown) ++ flat_map entry_lines entries ++ back = cc in
    let same : below ≡ below_shown entry.shown =
    entry_line_once given reply (shown_words entry.shown) p s n entry.place entry.session entry.number below
    (below_shown entry.shown) is
    (subst (λ (l : List ℕ). IsEntryLine l entry.place entry.session entry.number (shown_words entry.shown)
    (below_shown entry.shown)) (sym head) (entry_head_is entry first)) in
    rw same (record {
      texts = shown_lines entry.shown;
      fit = shown_fit entry.shown first.shown;
      count = let counted = shown_counted entry.shown in omega arith;
      back = flat_map entry_lines entries ++ back;
      behind = record {
        entries = entries;
        valid = All-tail IsEntryShown entry entries valid;
        back = back;
        behind = behind;
        lines = refl;
      };
      lines = rest ∙ append_assoc (map bar (shown_lines entry.shown)) (flat_map entry_lines entries) back;
    })

pub entry_begins : (given reply : List ℕ) (p s n : ℕ) (below : Below) (more : List (List ℕ)) → MayEntries (given ∷ more)
    → IsEntryLine given p s n reply below → MayEntryLines below 0 more
entry_begins given reply p s n below more may is =
    entry_first given reply p s n below more may.back may.entries may.valid may.behind is may.lines

no_entry_first : (given : List ℕ) (more back : List (List ℕ)) (entries : List EntryShown) → All IsEntryShown entries
    → MayRows 0 back
    → ((p s n : ℕ) (reply : List ℕ) (below : Below) → IsEntryLine given p s n reply below → ⊥)
    → given ∷ more ≡ flat_map entry_lines entries ++ back → MayRows 0 (given ∷ more)
no_entry_first given more back [] valid behind none lines = subst (MayRows 0) (sym lines) behind
no_entry_first given more back (entry ∷ entries) valid behind none lines =
    let head : given ≡ entry_head entry = cc in
    absurd (none entry.place entry.session entry.number (shown_words entry.shown) (below_shown entry.shown)
    (subst (λ (l : List ℕ). IsEntryLine l entry.place entry.session entry.number (shown_words entry.shown)
    (below_shown entry.shown)) (sym head) (entry_head_is entry (All-head IsEntryShown entry entries valid))))

pub no_entry : (given : List ℕ) (more : List (List ℕ)) → MayEntries (given ∷ more)
    → ((p s n : ℕ) (reply : List ℕ) (below : Below) → IsEntryLine given p s n reply below → ⊥)
    → MayRows 0 (given ∷ more)
no_entry given more may none = no_entry_first given more may.back may.entries may.valid may.behind none may.lines

pub rows_none : (entries : List EntryText) (read : List (List ℕ)) → HasEntries entries read → HasRows entries [] 0 read
rows_none entries read has =
    record {
      before = read;
      whole = has;
      shown = [];
      valid = All-nil IsRowShown;
      rising = tt;
      ended = refl;
      same = refl;
      lines = sym (append-nil read);
    }
