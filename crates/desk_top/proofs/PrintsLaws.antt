-- Bodies and steps that can be printed, with how many bytes they have at most: lines that are put together, and bodies
-- and steps one behind the other.
use Rattle.std.specs.Prelude.{◌≡◌, ◌≤◌, ◌<◌, ◌+◌, ◌%◌, ◌^◌, ◌==◌, ◌&&◌, ◌++◌, ℕ, Bool, true, not, List, [], ◌∷◌, length, nat_le}
use Rattle.std.specs.Fmt.{decimal}
use Rattle.std.specs.List.{All, AllByRecursion, flat_map, list_all}
use Rattle.std.specs.Str.{IsUtf8}
use Rattle.std.proofs.Common.{refl, sym, ap, ◌∙◌, arith, get_or, length-append}
use Rattle.std.proofs.lemmas.Bool.{and_from, and_parts, leb-true, not-true}
use Rattle.std.proofs.lemmas.Bool.Decides.{nat_tests}
use Rattle.std.proofs.lemmas.Fmt.{decimal_by_steps, length-decimal-le}
use Rattle.std.proofs.lemmas.Grind.{flat_map-append}
use Rattle.std.proofs.lemmas.List.{append-nil}
use Rattle.std.proofs.lemmas.List.Elements.{All-append, All-cons, All-nil}
use Rattle.std.proofs.lemmas.List.Folds.{list_all-append}
use Rattle.std.proofs.lemmas.Str.{IsUtf8-nil, is_utf8-from_IsUtf8}
use Rattle.dita_doc.specs.Bytes.{line_feed}
use Rattle.dita_doc.specs.Cut.{Lacks}
use Rattle.dita_doc.specs.Lines.{IsLineText, line}
use Rattle.dita_doc.proofs.LackLaws.{lacks_cons}
use Rattle.dita_doc.proofs.Utf8Laws.{utf8_cons}
use Rattle.script_text.specs.Printed.{step_text, steps_text}
use Rattle.script_text.specs.Script.{Step}
use Rattle.script_laws.specs.Blocks.{IsBodyLine}
use Rattle.script_laws.specs.Printable.{CanPut, CanStep}

-- Words on a line

abbrev is_plain : ℕ → Bool
is_plain b = nat_le b 127 && not (b == line_feed)

-- ASCII on one line, of so many bytes at most
pub record IsPlain (most : ℕ) (words : List ℕ) : Type 0 where
  pub plain : list_all is_plain words ≡ true
  pub few : length words ≤ most

-- a text that is written out
pub written : (most : ℕ) (words : List ℕ) → list_all is_plain words ≡ true → nat_le (length words) most ≡ true
    → IsPlain most words
written most words plain few = record { plain = plain; few = leb-true (length words) most few }

pub plain_append : (m n : ℕ) (front back : List ℕ) → IsPlain m front → IsPlain n back
    → IsPlain (m + n) (front ++ back)
plain_append m n front back a b = record {
  plain = list_all-append is_plain front back ∙ and_from _ _ a.plain b.plain;
  few = omega (arith, length-append front back, a.few, b.few);
}

digit_plain : (n : ℕ) → n < 10 → list_all is_plain ((48 + n) ∷ []) ≡ true
digit_plain n small = grind (arith, nat_tests)

pub number_plain : (n : ℕ) → n < 10 ^ 9 → IsPlain 9 (decimal n)
number_plain n small = record {
  plain = decimal_by_steps (λ m digits. list_all is_plain digits ≡ true) digit_plain
      (λ m digits more front. list_all-append is_plain digits ((48 + m % 10) ∷ [])
      ∙ and_from _ _ front (digit_plain (m % 10) (omega arith))) n (omega (arith, small));
  few = length-decimal-le 9 n (omega arith) small (omega (arith, small));
}

plain_utf8 : (words : List ℕ) → list_all is_plain words ≡ true → IsUtf8 words
plain_utf8 [] plain = IsUtf8-nil
plain_utf8 (b ∷ words) plain =
    let parts = and_parts (is_plain b) (list_all is_plain words) plain in
    let low : b ≤ 127 = leb-true b 127 (and_parts (nat_le b 127) (not (b == line_feed)) parts.0).0 in
    utf8_cons b words (omega (arith, low)) (plain_utf8 words parts.1)

plain_lacks : (words : List ℕ) → list_all is_plain words ≡ true → Lacks line_feed words
plain_lacks [] plain = refl
plain_lacks (b ∷ words) plain =
    let parts = and_parts (is_plain b) (list_all is_plain words) plain in
    lacks_cons line_feed b words (not-true (b == line_feed) (and_parts (nat_le b 127) (not (b == line_feed)) parts.0).1)
    (plain_lacks words parts.1)

pub is_line_text : (most : ℕ) (words : List ℕ) → IsPlain most words → IsLineText words
is_line_text most words is = record {
  utf8 = is_utf8-from_IsUtf8 words (plain_utf8 words is.plain);
  one = plain_lacks words is.plain;
}

-- Bodies

-- lines of which none ends a body, of so many bytes at most
pub record IsBodyOf (most : ℕ) (body : List ℕ) : Type 0 where
  pub lines : List (List ℕ)
  pub each : All IsBodyLine lines
  pub is : body ≡ flat_map line lines
  pub few : length body ≤ most

pub can_put : (most : ℕ) (body : List ℕ) → IsBodyOf most body → CanPut body
can_put most body is = record { lines = is.lines; each = is.each; is = is.is }

pub no_lines : IsBodyOf 0 []
no_lines = record { lines = []; each = All-nil IsBodyLine; is = refl; few = omega arith }

pub body_append : (m n : ℕ) (front back : List ℕ) → IsBodyOf m front → IsBodyOf n back
    → IsBodyOf (m + n) (front ++ back)
body_append m n front back a b = record {
  lines = a.lines ++ b.lines;
  each = All-append IsBodyLine a.lines b.lines a.each b.each;
  is = (λ i. a.is i ++ b.is i) ∙ sym (flat_map-append line a.lines b.lines);
  few = omega (arith, length-append front back, a.few, b.few);
}

pub body_more : (m n : ℕ) (body : List ℕ) → IsBodyOf m body → m ≤ n → IsBodyOf n body
body_more m n body is more = record { lines = is.lines; each = is.each; is = is.is; few = omega (arith, is.few, more) }

-- a line that begins with another byte than `.`
pub one_line : (most b : ℕ) (words : List ℕ) → IsPlain most (b ∷ words) → (b ≡ 46 → ⊥)
    → IsBodyOf (most + 1) (line (b ∷ words))
one_line most b words is other = record {
  lines = (b ∷ words) ∷ [];
  each = All-cons IsBodyLine (b ∷ words) [] (record {
    on_line = is_line_text most (b ∷ words) is;
    other = λ same. other (ap (λ (bytes : List ℕ). get_or bytes 0 0) same);
  }) (All-nil IsBodyLine);
  is = sym (append-nil (line (b ∷ words)));
  few = omega (arith, length-append (b ∷ words) (line_feed ∷ []), is.few);
}

-- Steps

-- steps that can be printed, so many and of so many bytes at most
pub record ArePrinted (many most : ℕ) (steps : List Step) : Type 0 where
  pub each : AllByRecursion CanStep steps
  pub count : length steps ≤ many
  pub few : length (steps_text steps) ≤ most

pub none_printed : ArePrinted 0 0 []
none_printed = record { each = tt; count = omega arith; few = omega arith }

pub one_printed : (many most n : ℕ) (step : Step) (steps : List Step) → CanStep step → length (step_text step) ≤ n
    → ArePrinted many most steps → ArePrinted (many + 1) (n + most) (step ∷ steps)
one_printed many most n step steps can short are = record {
  each = (can, are.each);
  count = omega (arith, are.count);
  few = omega (arith, length-append (step_text step) (steps_text steps), short, are.few);
}

each_append : (front back : List Step) → AllByRecursion CanStep front → AllByRecursion CanStep back
    → AllByRecursion CanStep (front ++ back)
each_append [] back a b = b
each_append (step ∷ front) back a b = (a.0, each_append front back a.1 b)

pub printed_append : (m n a b : ℕ) (front back : List Step) → ArePrinted m a front → ArePrinted n b back
    → ArePrinted (m + n) (a + b) (front ++ back)
printed_append m n a b front back f g = record {
  each = each_append front back f.each g.each;
  count = omega (arith, length-append front back, f.count, g.count);
  few = omega (
    arith,
    ap length (flat_map-append step_text front back),
    length-append (steps_text front) (steps_text back),
    f.few,
    g.few,
  );
}
