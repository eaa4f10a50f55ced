-- What is written of entries, in the words of `Transcript`.
use Rattle.std.specs.Prelude.{◌≡◌, ◌++◌, ℕ, Bool, true, false, List, Option, Some, None, codes, map, option_map}
use Rattle.std.specs.Fmt.{decimal}
use Rattle.std.specs.List.{flat_map}
use Rattle.std.specs.Str.{is_utf8}
use Rattle.dita_doc.specs.Desk.{Reply, IsStored, IsRemoved, Bytes, NameList, IsRefused, Conflict, Absent, TooManyNames, Begun, IsGrouped, IsStopped}
use Rattle.dita_doc.specs.Lines.{line}
use Rattle.transcript_text.specs.Transcript.{Shown, PageShown, BuildShown, BuiltPages, StoppedBy, PagesTooLarge, InOutlet, InRow, shown_words, shown_lines, bar_line, fault_shown}
use Rattle.transcript_text.specs.Transcript as shown
use Rattle.transcript_text.specs.declared.built.PageMark.{PageMark}
use Rattle.transcript_text.specs.declared.built.PageMark.TheVariants as marks
use Rattle.transcript_text.specs.declared.built.BuiltText.{BuiltText}
use Rattle.transcript_text.specs.declared.built.BuiltText.TheVariants as builds

abbrev pub mark_shown : PageMark → shown.PageMark
mark_shown (marks.Bytes bytes) = InOutlet bytes
mark_shown (marks.Row serial) = InRow serial

abbrev pub page_shown : List ℕ × PageMark → PageShown
page_shown page = record { name = page.0; mark = mark_shown page.1 }

-- what a build gave, as it is shown
abbrev pub text_shown : BuiltText → BuildShown
text_shown (builds.Pages pages faults) = BuiltPages (map page_shown pages) (map fault_shown faults)
text_shown (builds.Stopped stop) = StoppedBy stop
text_shown (builds.TooLarge total) = PagesTooLarge total

-- and that of the build of an entry, if it has one
abbrev pub built_shown : Option BuiltText → Option BuildShown
built_shown built = option_map text_shown built

-- the reply is that a build has its place
abbrev pub is_begun : Reply → Bool
is_begun (IsStored version) = false
is_begun (IsRemoved version) = false
is_begun (Bytes bytes) = false
is_begun (NameList names) = false
is_begun (IsRefused fault) = false
is_begun (Conflict version) = false
is_begun Absent = false
is_begun (TooManyNames limit) = false
is_begun Begun = true
is_begun (IsGrouped edits) = false
is_begun (IsStopped number refusal) = false

-- the bytes of a reply that has some are UTF-8
abbrev pub IsText : Reply → Type 0
IsText (IsStored version) = Unit {0}
IsText (IsRemoved version) = Unit {0}
IsText (Bytes bytes) = is_utf8 bytes ≡ true
IsText (NameList names) = Unit {0}
IsText (IsRefused fault) = Unit {0}
IsText (Conflict version) = Unit {0}
IsText Absent = Unit {0}
IsText (TooManyNames limit) = Unit {0}
IsText Begun = Unit {0}
IsText (IsGrouped edits) = Unit {0}
IsText (IsStopped number refusal) = Unit {0}

-- the beginning of an entry: its three numbers
abbrev pub numbers_text : ℕ → ℕ → ℕ → List ℕ
numbers_text place session number =
    codes "entry " ++ decimal place ++ codes " " ++ decimal session ++ codes " " ++ decimal number ++ codes " "

-- the rest of an entry behind its three numbers: the rest of its line, and the lines below
abbrev pub shown_text : Shown → List ℕ
shown_text what = line (shown_words what) ++ flat_map bar_line (shown_lines what)

-- the text is that of an entry as it is shown, and what is shown is in the form
abbrev pub IsTextOfEntry : Option shown.EntryShown → List ℕ → Type 0
IsTextOfEntry None text = ⊥
IsTextOfEntry (Some entry) text = shown.IsEntryShown entry × (text ≡ shown.entry_text entry)
