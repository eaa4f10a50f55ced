-- The words of refusals.
use Rattle.std.specs.Prelude.{◌≡◌, ◌<◌, ◌^◌, ◌&&◌, ℕ, Bool, true, false, List, [], ◌∷◌, ◌++◌, codes, is_some, bytes_eq, if◌then◌else◌}
use Rattle.std.specs.Fmt.{decimal, digits}
use Rattle.std.proofs.Common.{refl, sym, ap, ◌∙◌, arith}
use Rattle.std.proofs.lemmas.Bool.{and_parts}
use Rattle.dita_doc.specs.Bytes.{spaced_parts}
use Rattle.dita_doc.specs.Faults.{pyx_code_text}
use Rattle.dita_doc.proofs.Tests.{same_text}
use Rattle.transcript_text.specs.Transcript.{RefusalShown, RefusedFor, ConflictAt, IsAbsent, IsFull, IsRefusalShown, refusal_words}
use Rattle.transcript_text.specs.Words.{Words, number_of}
use Rattle.transcript_text.specs.Below.{is_refusal}
use Rattle.transcript_text.proofs.CodeLaws.{pyx_code_known, pyx_code_found, pyx_code_lacks}
use Rattle.transcript_text.proofs.HeadLaws.{number_word, small_from}
use Rattle.transcript_text.proofs.NumberLaws.{number64_is, number32_is, number_there}
use Rattle.transcript_text.proofs.TextLaws.{decimal_word}
use Rattle.transcript_text.proofs.WordLaws.{words_behind}

decimal_10000 : decimal 10000 ≡ codes "10000"
unfolding digits
decimal_10000 = refl

-- its words, one by one
abbrev pub words_of_refusal : RefusalShown → Words
words_of_refusal (RefusedFor code number) = codes "refused" ∷ pyx_code_text code ∷ decimal number ∷ []
words_of_refusal (ConflictAt version) = codes "conflict" ∷ decimal version ∷ []
words_of_refusal IsAbsent = codes "absent" ∷ []
words_of_refusal IsFull = codes "toomanynames" ∷ codes "10000" ∷ []

pub refusal_parts : (refusal : RefusalShown) → IsRefusalShown refusal
    → spaced_parts (refusal_words refusal) ≡ words_of_refusal refusal
refusal_parts (RefusedFor code number) less =
    ap (λ words. codes "refused" ∷ words)
    (words_behind (pyx_code_text code) (decimal number) (pyx_code_lacks 32 code (omega arith))
    ∙ ap (λ words. pyx_code_text code ∷ words) (decimal_word number (small_from number less)))
refusal_parts (ConflictAt version) small = ap (λ words. codes "conflict" ∷ words) (decimal_word version small)
refusal_parts IsAbsent valid = refl
refusal_parts IsFull valid = ap (λ (l : List ℕ). codes "toomanynames" ∷ spaced_parts l) decimal_10000

-- the words of a group that was stopped
pub stopped_parts : (number : ℕ) (refusal : RefusalShown) → number < 2 ^ 32 → IsRefusalShown refusal
    → spaced_parts (codes "stopped " ++ decimal number ++ codes " " ++ refusal_words refusal)
    ≡ codes "stopped" ∷ decimal number ∷ words_of_refusal refusal
stopped_parts number refusal less valid =
    ap (λ words. codes "stopped" ∷ words)
    (number_word number (refusal_words refusal) (small_from number less)
    ∙ ap (λ words. decimal number ∷ words) (refusal_parts refusal valid))

-- they are known
pub refusal_known : (refusal : RefusalShown) → IsRefusalShown refusal → is_refusal (words_of_refusal refusal) ≡ true
refusal_known (RefusedFor code number) less =
    ap (λ known. known && is_some (number_of 32 (decimal number))) (pyx_code_known code)
    ∙ ap is_some (number32_is number less)
refusal_known (ConflictAt version) small = ap is_some (number64_is version small)
refusal_known IsAbsent valid = refl
refusal_known IsFull valid = refl

-- and what is known are such words
abbrev HasRefusal : Words → Type 0
HasRefusal words = (refusal : RefusalShown) × IsRefusalShown refusal × (words_of_refusal refusal ≡ words)

three_words : (a b c x y z : List ℕ) → a ≡ x → b ≡ y → c ≡ z → a ∷ b ∷ c ∷ [] ≡ x ∷ y ∷ z ∷ []
three_words a b c x y z first second third = rw (first, second, third) refl

two_found : (word second : List ℕ) (test : Bool) → bytes_eq word (codes "conflict") ≡ test
    → (if test then is_some (number_of 64 second) else bytes_eq word (codes "toomanynames")
    && bytes_eq second (codes "10000")) ≡ true → HasRefusal (word ∷ second ∷ [])
two_found word second true is e =
    let n = number_there 64 second _ refl e in
    (ConflictAt n.0, n.1, rw (same_text word (codes "conflict") is, n.2) refl)
two_found word second false is e =
    let parts = and_parts _ _ e in
    (IsFull, tt, rw (same_text word (codes "toomanynames") parts.0, same_text second (codes "10000") parts.1) refl)

pub refusal_found : (words : Words) → is_refusal words ≡ true → HasRefusal words
refusal_found [] e = absurd (cc)
refusal_found (word ∷ []) e = (IsAbsent, tt, rw (same_text word (codes "absent") e) refl)
refusal_found (word ∷ second ∷ []) e = two_found word second (bytes_eq word (codes "conflict")) refl e
refusal_found (word ∷ second ∷ third ∷ []) e =
    let parts = and_parts _ _ e in
    let more = and_parts _ _ parts.1 in
    let code = pyx_code_found second more.0 in
    let n = number_there 32 third _ refl more.1 in (
      RefusedFor code.0 n.0,
      n.1,
      three_words _ _ _ _ _ _ (sym (same_text word (codes "refused") parts.0)) code.1 n.2,
    )
refusal_found (word ∷ second ∷ third ∷ fourth ∷ words) e = absurd (cc)
