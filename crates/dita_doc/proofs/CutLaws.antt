-- A list, cut at the first byte of a kind.
use Rattle.std.specs.Prelude.{◌≡◌, ◌+◌, ◌-◌, ◌<◌, ◌≤◌, ◌==◌, ℕ, suc, Bool, true, false, List, [], ◌∷◌, ◌++◌, Option, Some, None, length, take, drop, cond, MatchOption}
use native.Mathlib.Numerals.{unary_clauses}
use Rattle.std.specs.List.{before_first, list_any, position_or_len, slice_range}
use Rattle.std.proofs.Common.{refl, sym, subst, arith, ltb, get_or, ap, ◌∙◌}
use Rattle.std.proofs.lemmas.Bool.{ltb-true, ltb-false, eqb-true, or_from, or_parts}
use Rattle.std.proofs.lemmas.List.{take_all, take_rest, take_at, drop_at, drop-drop}
use Rattle.std.proofs.lemmas.List.Sums.{split_at_first, passes_at_first}
use Rattle.dita_doc.specs.Cut.{Lacks, IsCutAt}

-- where the byte stands first, or the length
abbrev pub place : ℕ → List ℕ → ℕ
place byte bytes = position_or_len (λ b. b == byte) bytes

-- `take` computes at `suc`, and not at `1 +`
pub take_one_more : (n b : ℕ) (bytes : List ℕ) → take (1 + n) (b ∷ bytes) ≡ b ∷ take n bytes
take_one_more n b bytes = let e : 1 + n ≡ suc n = omega arith in rw e refl

-- the same one byte further in front, by whether that is one
lacks_from : (byte b : ℕ) (bytes : List ℕ) (same : Bool) → (b == byte) ≡ same
    → Lacks byte (take (place byte bytes) bytes) → Lacks byte (take (place byte (b ∷ bytes)) (b ∷ bytes))
lacks_from byte b bytes true e rest = rw e refl
lacks_from byte b bytes false e rest = rw (e, take_one_more (place byte bytes) b bytes) (or_from (b == byte) _ e rest)

-- none stands before the first
lacks_before : (byte : ℕ) (bytes : List ℕ) → Lacks byte (take (place byte bytes) bytes)
lacks_before byte [] = refl
lacks_before byte (b ∷ bytes) = lacks_from byte b bytes (b == byte) refl (lacks_before byte bytes)

-- where there is one, the list is cut there
cut_there : (byte : ℕ) (bytes : List ℕ) (at : ℕ) → at ≡ place byte bytes → at < length bytes
    → IsCutAt byte bytes (take at bytes) (take (length bytes - (at + 1)) (drop (at + 1) bytes))
cut_there byte bytes at e less =
    let P : ℕ → Type 0 = λ n. IsCutAt byte bytes (take n bytes) (take (length bytes - (n + 1)) (drop (n + 1) bytes)) in
    let below : place byte bytes < length bytes = omega arith in
    let is : get_or bytes (place byte bytes) 0 ≡ byte = eqb-true _ _ (passes_at_first (λ b. b == byte) bytes 0 below) in
    let parts = split_at_first (λ b. b == byte) bytes 0 below in
    subst P (sym e) (record {
      whole = rw (take_rest bytes (place byte bytes + 1)) (rw is at parts);
      first =
          lacks_before byte bytes;
    })

-- where there is none, the list lacks it
lacks_all : (byte : ℕ) (bytes : List ℕ) → length bytes ≤ place byte bytes → Lacks byte bytes
lacks_all byte bytes e =
    let P : List ℕ → Type 0 = λ front. Lacks byte front in
    subst P (take_all (place byte bytes) bytes (omega arith)) (lacks_before byte bytes)

-- what `position` answers says where the list is cut
abbrev pub IsCutBy : ℕ → List ℕ → Option ℕ → Type 0
IsCutBy byte bytes found = MatchOption found (Lacks byte bytes)
    (λ at. IsCutAt byte bytes (take at bytes) (take (length bytes - (at + 1)) (drop (at + 1) bytes)))

-- the two answers
cut_found : (byte : ℕ) (bytes : List ℕ) (small : Bool) → ltb (place byte bytes) (length bytes) ≡ small
    → IsCutBy byte bytes (cond small (Some (place byte bytes)) None)
cut_found byte bytes true e = cut_there byte bytes (place byte bytes) refl (ltb-true _ _ e)
cut_found byte bytes false e = lacks_all byte bytes (ltb-false _ _ e)

-- and so for what `position` answered
pub cut_at : (byte : ℕ) (bytes : List ℕ) (found : Option ℕ)
    → found ≡ cond (ltb (place byte bytes) (length bytes)) (Some (place byte bytes)) None → IsCutBy byte bytes found
cut_at byte bytes found e = subst (IsCutBy byte bytes) (sym e)
    (cut_found byte bytes (ltb (place byte bytes) (length bytes)) refl)

-- a list that is cut is cut at the front's length
pub cut_again : (byte : ℕ) (bytes front back taken left : List ℕ) → bytes ≡ front ++ byte ∷ back → Lacks byte front
    → taken ≡ slice_range bytes 0 (length front) → left ≡ drop (length front + 1) bytes → IsCutAt byte bytes taken left
cut_again byte bytes front back taken left whole first is then =
    let start : slice_range (front ++ byte ∷ back) 0 (length front) ≡ take (length front) (front ++ byte ∷ back) =
    simp unary_clauses refl in
    let same : taken ≡ front = is ∙ ap (λ (all : List ℕ). slice_range all 0 (length front)) whole ∙ start
    ∙ take_at front (byte ∷ back) (length front) refl in
    let rest : left ≡ back = then ∙ ap (drop (length front + 1)) whole
    ∙ sym (drop-drop 1 (length front) (front ++ byte ∷ back))
    ∙ ap (drop 1) (drop_at front (byte ∷ back) (length front) refl) in
    record { whole = rw (same, rest) whole; first = rw same first }

-- no byte ends it
pub front_alone : (ends : ℕ → Bool) (value : List ℕ) → list_any ends value ≡ false → before_first ends value ≡ value
front_alone ends [] e = refl
front_alone ends (b ∷ value) e =
    let parts = or_parts (ends b) (list_any ends value) e in
    rw (parts.0, take_one_more (position_or_len ends value) b value, front_alone ends value parts.1) refl
