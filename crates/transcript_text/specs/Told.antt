-- What a transcript tells, and its lines without their LF.
use Rattle.std.specs.Prelude.{◌++◌, [], ◌∷◌, codes, map}
use Rattle.std.specs.List.{flat_map}
use Rattle.dita_doc.specs.Bytes.{Bytes}
use Rattle.dita_doc.specs.Lines.{line}
use Rattle.transcript_text.specs.Transcript.{EntryShown, RowShown, shown_words, shown_lines, entry_head, row_head, end_head}
use Rattle.transcript_text.specs.Transcript as shown
use Rattle.transcript_text.specs.declared.transcript.EntryText.{EntryText}
use Rattle.transcript_text.specs.declared.transcript.RowText.{RowText}
use Rattle.transcript_text.specs.declared.transcript.Transcript.{Transcript}
use Rattle.transcript_text.specs.Heads.{part_seen}
use Rattle.transcript_text.specs.Words.{TextLines}

abbrev pub entry_told : EntryShown → EntryText
entry_told entry = record {
  place = entry.place;
  session = entry.session;
  number = entry.number;
  reply = shown_words entry.shown;
  lines = shown_lines entry.shown;
}

abbrev pub row_told : RowShown → RowText
row_told row = record {
  serial = row.serial;
  key = record { map = row.map; val = row.val; part = part_seen row.part };
  bytes = flat_map line row.lines;
}

-- the transcript that is read of this one's text
abbrev pub told : shown.Transcript → Transcript
told transcript = record {
  entries = map entry_told transcript.entries;
  rows = map row_told transcript.rows;
  total = (transcript.totals.entries, transcript.totals.made, transcript.totals.dropped);
}

abbrev pub bar : Bytes → Bytes
bar text = codes "|" ++ text

abbrev pub first_line : Bytes
first_line = codes "dita transcript 1"

abbrev pub entry_lines : EntryShown → TextLines
entry_lines entry = entry_head entry ∷ map bar (shown_lines entry.shown)

abbrev pub row_lines : RowShown → TextLines
row_lines row = row_head row ∷ map bar row.lines

abbrev pub transcript_lines : shown.Transcript → TextLines
transcript_lines transcript =
    first_line ∷ (flat_map entry_lines transcript.entries ++
    (flat_map row_lines transcript.rows ++ end_head transcript.totals ∷ []))
