-- Escapes are pieces: each byte of a text is one, of which a reader reads that byte again.
use Rattle.std.specs.Prelude.{◌≡◌, ◌==◌, ℕ, Bool, true, false, List, [], ◌∷◌}
use Rattle.std.specs.List.{flat_map}
use Rattle.std.proofs.Common.{refl, sym}
use Rattle.std.proofs.lemmas.Bool.{and_from, eqb-true}
use Rattle.dita_doc.specs.HtmlEscapes.{escaped, escaped_byte, escaped_value, escaped_value_byte}
use Rattle.html_laws.specs.Markup.{Piece, Itself, Ampersand, LessThan, GreaterThan, DoubleQuote, IsShown, is_text_piece, is_value_piece, meant_by, piece_bytes}

-- a piece that shows a byte
record ShowsByte (is_piece : Piece → Bool) (shown : List ℕ) (byte : ℕ) : Type 0 where
  piece : Piece
  valid : is_piece piece ≡ true
  bytes : shown ≡ piece_bytes piece
  meant : meant_by piece ≡ byte

-- of a text, by what the byte is
text_byte : (b : ℕ) (ampersand less greater : Bool) → (b == 38) ≡ ampersand → (b == 60) ≡ less → (b == 62) ≡ greater
    → ShowsByte is_text_piece (escaped_byte b) b
text_byte b true less greater a l g =
    record { piece = Ampersand; valid = refl; bytes = rw a refl; meant = sym (eqb-true b 38 a) }
text_byte b false true greater a l g =
    record { piece = LessThan; valid = refl; bytes = rw (a, l) refl; meant = sym (eqb-true b 60 l) }
text_byte b false false true a l g =
    record { piece = GreaterThan; valid = refl; bytes = rw (a, l, g) refl; meant = sym (eqb-true b 62 g) }
text_byte b false false false a l g =
    record { piece = Itself b; valid = rw (a, l, g) refl; bytes = rw (a, l, g) refl; meant = refl }

-- of a value
value_byte : (b : ℕ) (quote ampersand less greater : Bool) → (b == 34) ≡ quote → (b == 38) ≡ ampersand
    → (b == 60) ≡ less → (b == 62) ≡ greater → ShowsByte is_value_piece (escaped_value_byte b) b
value_byte b true ampersand less greater q a l g =
    record { piece = DoubleQuote; valid = refl; bytes = rw q refl; meant = sym (eqb-true b 34 q) }
value_byte b false true less greater q a l g =
    record { piece = Ampersand; valid = refl; bytes = rw (q, a) refl; meant = sym (eqb-true b 38 a) }
value_byte b false false true greater q a l g =
    record { piece = LessThan; valid = refl; bytes = rw (q, a, l) refl; meant = sym (eqb-true b 60 l) }
value_byte b false false false true q a l g =
    record { piece = GreaterThan; valid = refl; bytes = rw (q, a, l, g) refl; meant = sym (eqb-true b 62 g) }
value_byte b false false false false q a l g =
    record { piece = Itself b; valid = rw (q, a, l, g) refl; bytes = rw (q, a, l, g) refl; meant = refl }

-- byte by byte
shown_bytes : (is_piece : Piece → Bool) (show : ℕ → List ℕ) → ((b : ℕ) → ShowsByte is_piece (show b) b)
    → (text : List ℕ) → IsShown is_piece (flat_map show text) text
shown_bytes is_piece show each [] = ([], refl, refl, refl)
shown_bytes is_piece show each (b ∷ text) =
    let first = each b in
    let rest = shown_bytes is_piece show each text in (
      first.piece ∷ rest.0,
      and_from _ _ first.valid rest.1,
      rw (first.bytes, rest.2) refl,
      rw (first.meant, rest.3) refl,
    )

pub text_is_shown : (text : List ℕ) → IsShown is_text_piece (escaped text) text
text_is_shown text = shown_bytes is_text_piece escaped_byte (λ b. text_byte b _ _ _ refl refl refl) text

pub value_is_shown : (value : List ℕ) → IsShown is_value_piece (escaped_value value) value
value_is_shown value =
    shown_bytes is_value_piece escaped_value_byte (λ b. value_byte b _ _ _ _ refl refl refl refl) value
