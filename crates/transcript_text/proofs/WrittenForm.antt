-- What is written of an entry is in the form.
use Rattle.std.specs.Prelude.{◌≡◌, ◌+◌, ◌<◌, ◌≤◌, ◌^◌, ℕ, true, List, [], ◌∷◌, Result, Ok, Err, OnOk, length, map, take}
use Rattle.std.specs.List.{All}
use Rattle.std.specs.Str.{IsUtf8, is_utf8}
use Rattle.std.proofs.Common.{arith, get_or, subst}
use Rattle.std.proofs.lemmas.List.{take_all}
use Rattle.std.proofs.lemmas.List.Elements.{All-nil, All-cons, All-head, All-tail, All-map, All-more}
use Rattle.std.proofs.lemmas.Str.{is_utf8-from_IsUtf8, IsUtf8-from_is_utf8}
use Rattle.dita_doc.specs.Cut.{Lacks}
use Rattle.dita_doc.specs.Lines.{lines_of, IsLineText}
use Rattle.dita_doc.specs.Name.{is_name}
use Rattle.dita_doc.specs.PyxEscapes.{escaped}
use Rattle.dita_doc.proofs.EscapeLackLaws.{escaped_lacks_feed}
use Rattle.dita_doc.proofs.EscapeUtf8Laws.{utf8_escaped}
use Rattle.dita_doc.proofs.LinesLaws.{lines_lack}
use Rattle.dita_doc.proofs.Utf8Laws.{utf8_lines}
use Rattle.transcript_text.specs.Transcript.{Lines, PageShown, Fits64, IsNameShown, IsNameLine, IsMark, IsPageShown, IsShown}

-- a name, and the lines that name something
pub name_is_shown : (name : List ℕ) → is_name name ≡ true → IsUtf8 name → IsNameShown name
name_is_shown name named utf8 = record { named = named; utf8 = is_utf8-from_IsUtf8 name utf8 }

pub name_line_is_shown : (named : List ℕ × ℕ) → IsNameShown named.0 → Fits64 named.1 → IsNameLine named
name_line_is_shown named name version = record { name = name; version = version }

pub page_is_shown : (page : PageShown) → IsNameShown page.name → IsMark page.mark → IsPageShown page
page_is_shown page name mark = record { name = name; mark = mark }

-- a detail with its escapes
pub detail_is_shown : (detail : List ℕ) → IsUtf8 detail → IsLineText (escaped detail)
detail_is_shown detail utf8 = record {
  utf8 = is_utf8-from_IsUtf8 (escaped detail) (utf8_escaped detail utf8);
  one = escaped_lacks_feed detail;
}

-- the lines of a text
line_texts : (lines : List (List ℕ)) → All IsUtf8 lines → All (Lacks 10) lines → All IsLineText lines
line_texts [] utf8 lacks = All-nil IsLineText
line_texts (text ∷ lines) utf8 lacks =
    All-cons IsLineText text lines
    (record {
      utf8 = is_utf8-from_IsUtf8 text (All-head IsUtf8 text lines utf8);
      one = All-head (Lacks 10) text lines lacks;
    })
    (line_texts lines (All-tail IsUtf8 text lines utf8) (All-tail (Lacks 10) text lines lacks))

pub text_is_shown : (bytes : List ℕ) (count : ℕ) → is_utf8 bytes ≡ true → count ≡ length (lines_of bytes)
    → count < 2 ^ 64 → IsShown (Lines (lines_of bytes))
text_is_shown bytes count utf8 counted few = (
  omega arith,
  line_texts (lines_of bytes) (utf8_lines bytes (IsUtf8-from_is_utf8 bytes utf8)) (lines_lack bytes),
)

-- What is shown of each of some things: of the first n, and of all

module _ {X Y : Type 0} (P : Y → Type 0) (shown : X → Y) (xs : List X) where
  abbrev First : ℕ → Type 0
  First n = All (λ x. P (shown x)) (take n xs)

  pub first_more : (n : ℕ) (x : X) → n < length xs → x ≡ get_or xs n x → First n → P (shown x) → First (n + 1)
  first_more n x less is first this =
      All-more (λ x. P (shown x)) xs n x less first (subst (λ x. P (shown x)) is this)

  pub first_all : (n : ℕ) → length xs ≤ n → First n → All P (map shown xs)
  first_all n past first =
      All-map P shown xs (subst (All (λ x. P (shown x))) (take_all n xs past) first)

-- what holds anyway holds if a call succeeds
pub on_ok_too : {T E P : Type 0} (result : Result T E) → P → OnOk result P
on_ok_too (Ok x) p = p
on_ok_too (Err e) p = tt
