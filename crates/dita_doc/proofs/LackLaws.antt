-- Bytes that texts lack, and where they are cut.
use Rattle.std.specs.Prelude.{◌≡◌, ◌+◌, ◌%◌, ◌<◌, ◌≤◌, ◌^◌, ◌==◌, ℕ, zero, suc, Bool, true, false, List, [], ◌∷◌, ◌++◌, take, drop, if◌then◌else◌}
use Rattle.std.specs.Fmt.{decimal}
use Rattle.std.specs.Int.{IsInRange}
use Rattle.std.specs.List.{list_all, list_any}
use Rattle.std.proofs.Common.{refl, ◌∙◌, arith}
use Rattle.std.proofs.lemmas.Bool.{or_parts, or_from, and_parts, leb-true}
use Rattle.std.proofs.lemmas.Bool.Decides.{nat_tests}
use Rattle.std.proofs.lemmas.Fmt.{decimal_by_steps}
use Rattle.std.proofs.lemmas.List.Folds.{list_any-append}
use Rattle.dita_doc.specs.Cut.{Lacks}
use Rattle.dita_doc.specs.Name.{is_name, is_name_byte}

pub no_equal : (b byte : ℕ) → (b ≡ byte → ⊥) → (b == byte) ≡ false
no_equal b byte other = grind (arith, nat_tests)

pub lacks_append : (byte : ℕ) (x y : List ℕ) → Lacks byte x → Lacks byte y → Lacks byte (x ++ y)
lacks_append byte x y first second = list_any-append (λ b. b == byte) x y ∙ or_from _ _ first second

pub lacks_cons : (byte b : ℕ) (x : List ℕ) → (b == byte) ≡ false → Lacks byte x → Lacks byte (b ∷ x)
lacks_cons byte b x first second = or_from _ _ first second

pub lacks_take : (byte n : ℕ) (bytes : List ℕ) → Lacks byte bytes → Lacks byte (take n bytes)
lacks_take byte zero bytes e = refl
lacks_take byte (suc n) [] e = refl
lacks_take byte (suc n) (b ∷ bytes) e =
    let parts = or_parts (b == byte) (list_any (λ c. c == byte) bytes) e in
    or_from _ _ parts.0 (lacks_take byte n bytes parts.1)

pub lacks_drop : (byte n : ℕ) (bytes : List ℕ) → Lacks byte bytes → Lacks byte (drop n bytes)
lacks_drop byte zero bytes e = e
lacks_drop byte (suc n) [] e = refl
lacks_drop byte (suc n) (b ∷ bytes) e = lacks_drop byte n bytes
    (or_parts (b == byte) (list_any (λ c. c == byte) bytes) e).1

pub lacks_if : (byte : ℕ) (test : Bool) (x y : List ℕ) → Lacks byte x → Lacks byte y
    → Lacks byte (if test then x else y)
lacks_if byte true x y first second = first
lacks_if byte false x y first second = second

-- what a whole lacks, its end does
pub lacks_end : (byte : ℕ) (x y : List ℕ) → Lacks byte (x ++ y) → Lacks byte y
lacks_end byte [] y e = e
lacks_end byte (b ∷ x) y e = lacks_end byte x y (or_parts (b == byte) _ e).1

digit_lacks : (byte b : ℕ) → (IsInRange 48 57 byte → ⊥) → 48 ≤ b → b ≤ 57 → Lacks byte (b ∷ [])
digit_lacks byte b other low high = or_from _ _ (no_equal b byte (λ same. other (omega arith, omega arith))) refl

-- a number has digits alone
pub lacks_decimal : (byte n : ℕ) → (IsInRange 48 57 byte → ⊥) → n < 2 ^ 64 → Lacks byte (decimal n)
lacks_decimal byte n other small = decimal_by_steps (λ m ds. Lacks byte ds)
    (λ m less. let low : 48 + m ≤ 57 = omega arith in digit_lacks byte (48 + m) other (omega arith) low)
    (λ m ds more rest. let low : 48 + m % 10 ≤ 57 = omega arith in lacks_append byte ds _ rest
    (digit_lacks byte (48 + m % 10) other (omega arith) low)) n small

-- a name has no byte below 33
name_bytes_lack : (byte : ℕ) (name : List ℕ) → byte < 33 → list_all is_name_byte name ≡ true → Lacks byte name
name_bytes_lack byte [] low e = refl
name_bytes_lack byte (b ∷ name) low e =
    let parts = and_parts (is_name_byte b) (list_all is_name_byte name) e in
    let high : 33 ≤ b = leb-true _ _ (and_parts _ _ parts.0).0 in
    let other : (b == byte) ≡ false = grind (arith, nat_tests) in
    or_from _ _ other (name_bytes_lack byte name low parts.1)

pub lacks_name : (byte : ℕ) (name : List ℕ) → byte < 33 → is_name name ≡ true → Lacks byte name
lacks_name byte name low e = name_bytes_lack byte name low (and_parts _ _ (and_parts _ _ (and_parts _ _ e).0).0).1

-- a text that has the byte does not lack it
pub has_byte : (byte : ℕ) (x y : List ℕ) → Lacks byte (x ++ byte ∷ y) → ⊥
has_byte byte [] y e =
    let same : (byte == byte) ≡ true = grind (arith, nat_tests) in let parts =
    or_parts (byte == byte) _ e in absurd (cc)
has_byte byte (b ∷ x) y e = has_byte byte x y (or_parts (b == byte) _ e).1

-- a text is cut at its first such byte in one way
pub cut_once : (byte : ℕ) (f g k l : List ℕ) → Lacks byte f → Lacks byte g → f ++ byte ∷ k ≡ g ++ byte ∷ l
    → (f ≡ g) × (k ≡ l)
cut_once byte [] [] k l first second e = (refl, cc)
cut_once byte [] (b ∷ g) k l first second e =
    absurd (let same : b ≡ byte = cc in let is : (b == byte) ≡ true = grind (arith, nat_tests) in let parts = or_parts
    (b == byte) _ second in cc)
cut_once byte (b ∷ f) [] k l first second e =
    absurd (let same : b ≡ byte = cc in let is : (b == byte) ≡ true = grind (arith, nat_tests) in let parts = or_parts
    (b == byte) _ first in cc)
cut_once byte (b ∷ f) (c ∷ g) k l first second e =
    let head : b ≡ c = cc in
    let tail : f ++ byte ∷ k ≡ g ++ byte ∷ l = cc in
    let rest = cut_once byte f g k l (or_parts (b == byte) _ first).1 (or_parts (c == byte) _ second).1 tail in
    let same : f ≡ g = rest.0 in
    (cc, rest.1)

-- and at its last
pub cut_last : (byte : ℕ) (f g k l : List ℕ) → Lacks byte k → Lacks byte l → f ++ byte ∷ k ≡ g ++ byte ∷ l
    → (f ≡ g) × (k ≡ l)
cut_last byte [] [] k l first second e = (refl, cc)
cut_last byte [] (b ∷ g) k l first second e =
    let is : k ≡ g ++ byte ∷ l = cc in absurd (has_byte byte g l (rw is at first))
cut_last byte (b ∷ f) [] k l first second e =
    let is : l ≡ f ++ byte ∷ k = cc in absurd (has_byte byte f k (rw is at second))
cut_last byte (b ∷ f) (c ∷ g) k l first second e =
    let head : b ≡ c = cc in
    let tail : f ++ byte ∷ k ≡ g ++ byte ∷ l = cc in
    let rest = cut_last byte f g k l first second tail in
    let same : f ≡ g = rest.0 in
    (cc, rest.1)
