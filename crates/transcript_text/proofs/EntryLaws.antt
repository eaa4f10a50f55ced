-- The text of an entry, from its parts, and that it is in the form.
use Rattle.std.specs.Prelude.{◌≡◌, ℕ, true, false, List, [], ◌∷◌, ◌++◌, Option, Some, None, IfSome}
use Rattle.std.proofs.Common.{refl, sym, ap, ◌∙◌, append_assoc}
use Rattle.std.specs.List.{flat_map}
use Rattle.dita_doc.specs.Desk.{Reply, IsStored, IsRemoved, Bytes, NameList, IsRefused, Conflict, Absent, TooManyNames, Begun, IsGrouped, IsStopped}
use Rattle.dita_doc.specs.History.{Entry}
use Rattle.dita_doc.specs.Lines.{line}
use Rattle.transcript_text.specs.Transcript.{Shown, OfBuild, BuildShown, Fits64, Fits32, IsBuildShown, IsShown, shown_words, shown_lines, bar_line, reply_shown, entry_shown}
use Rattle.transcript_text.specs.Written.{IsTextOfEntry, is_begun, numbers_text, shown_text}

-- what is given of a build is shown exactly where the reply is that a build has its place
begun_shown : (reply : Reply) (built : BuildShown) → true ≡ is_begun reply
    → reply_shown reply (Some built) ≡ Some (OfBuild built)
begun_shown (IsStored version) built e = absurd (cc)
begun_shown (IsRemoved version) built e = absurd (cc)
begun_shown (Bytes bytes) built e = absurd (cc)
begun_shown (NameList names) built e = absurd (cc)
begun_shown (IsRefused fault) built e = absurd (cc)
begun_shown (Conflict version) built e = absurd (cc)
begun_shown Absent built e = absurd (cc)
begun_shown (TooManyNames limit) built e = absurd (cc)
begun_shown Begun built e = refl
begun_shown (IsGrouped edits) built e = absurd (cc)
begun_shown (IsStopped number refusal) built e = absurd (cc)

-- and each other reply shows something by itself
other_shown : (reply : Reply) → false ≡ is_begun reply → (shown : Shown) × (reply_shown reply None ≡ Some shown)
other_shown (IsStored version) e = (_, refl)
other_shown (IsRemoved version) e = (_, refl)
other_shown (Bytes bytes) e = (_, refl)
other_shown (NameList names) e = (_, refl)
other_shown (IsRefused fault) e = (_, refl)
other_shown (Conflict version) e = (_, refl)
other_shown Absent e = (_, refl)
other_shown (TooManyNames limit) e = (_, refl)
other_shown Begun e = absurd (cc)
other_shown (IsGrouped edits) e = (_, refl)
other_shown (IsStopped number refusal) e = (_, refl)

-- the whole of it, from its numbers and what is shown
module _ (place : ℕ) (entry : Entry) (front text : List ℕ)
    (numbers : front ≡ numbers_text place entry.session entry.number)
    (fits : Fits64 place × Fits32 entry.session × Fits32 entry.number) where
  -- the three numbers, and then what is shown
  entry_of : (built : Option BuildShown) (shown : Shown) → reply_shown entry.reply built ≡ Some shown
      → text ≡ front ++ shown_text shown → IsShown shown → IsTextOfEntry (entry_shown place entry built) text
  entry_of built shown is told valid =
      let three = numbers_text place entry.session entry.number in
      let below = flat_map bar_line (shown_lines shown) in
      let whole : text ≡ line (three ++ shown_words shown) ++ below =
      told ∙ ap (λ (l : List ℕ). l ++ shown_text shown) numbers
      ∙ sym (append_assoc three (line (shown_words shown)) below)
      ∙ ap (λ (l : List ℕ). l ++ below) (sym (append_assoc three (shown_words shown) (10 ∷ []))) in
      rw is (record { place = fits.0; session = fits.1; number = fits.2; shown = valid }, whole)

  pub built_written : (built : BuildShown) → true ≡ is_begun entry.reply → text ≡ front ++ shown_text (OfBuild built)
      → IsBuildShown built → IsTextOfEntry (entry_shown place entry (Some built)) text
  built_written built begun told valid =
      entry_of (Some built) (OfBuild built) (begun_shown entry.reply built begun) told valid

  pub reply_written : false ≡ is_begun entry.reply
      → IfSome (reply_shown entry.reply None) (λ shown. text ≡ front ++ shown_text shown)
      → IfSome (reply_shown entry.reply None) IsShown → IsTextOfEntry (entry_shown place entry None) text
  reply_written other told valid =
      let shown = other_shown entry.reply other in
      entry_of None shown.0 shown.1 (rw shown.1 at told) (rw shown.1 at valid)
