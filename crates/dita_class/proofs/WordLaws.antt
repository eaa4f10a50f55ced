-- The words of a class value in UTF-8 are UTF-8.
use Rattle.std.specs.Prelude.{◌≡◌, ◌<◌, ℕ, Bool, true, false, List, [], ◌∷◌, Some}
use Rattle.std.specs.List.{All}
use Rattle.std.specs.Str.{IsUtf8}
use Rattle.std.proofs.Common.{refl, subst, arith}
use Rattle.std.proofs.lemmas.Bool.Decides.{nat_tests}
use Rattle.dita_doc.specs.PlainText.{is_blank_byte}
use Rattle.dita_doc.specs.ClassValue.{without_blanks, sign_of, words_of, IsSigned}
use Rattle.dita_doc.specs.declared.class.Sign.{Sign}
use Rattle.dita_doc.proofs.Utf8Laws.{utf8_behind, utf8_words}

blank_is_low : (b : ℕ) → is_blank_byte b ≡ true → b < 128
blank_is_low b e = grind (arith, nat_tests)

trimmed_from : (b : ℕ) (value : List ℕ) (blank : Bool) → is_blank_byte b ≡ blank → IsUtf8 (b ∷ value)
    → (IsUtf8 value → IsUtf8 (without_blanks value)) → IsUtf8 (without_blanks (b ∷ value))
trimmed_from b value true e utf8 more = rw e (more (utf8_behind b value (blank_is_low b e) utf8))
trimmed_from b value false e utf8 more = rw e utf8

utf8_trimmed : (value : List ℕ) → IsUtf8 value → IsUtf8 (without_blanks value)
utf8_trimmed [] utf8 = utf8
utf8_trimmed (b ∷ value) utf8 = trimmed_from b value (is_blank_byte b) refl utf8 (utf8_trimmed value)

sign_is_low : (b : ℕ) (sign : Sign) → sign_of b ≡ Some sign → b < 128
sign_is_low b sign e = grind (arith, nat_tests)

-- the words behind the sign
pub utf8_signed : (value : List ℕ) (sign : Sign) (rest : List ℕ) → IsUtf8 value → IsSigned value sign rest
    → All IsUtf8 (words_of rest)
utf8_signed value sign rest utf8 signed =
    let behind : IsUtf8 (signed.mark ∷ rest) = subst IsUtf8 signed.begins (utf8_trimmed value utf8) in
    utf8_words rest (utf8_behind signed.mark rest (sign_is_low signed.mark sign signed.is) behind)
