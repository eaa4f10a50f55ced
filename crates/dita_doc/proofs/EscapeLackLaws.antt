-- Escapes of PYX: unescaping gives back what was escaped, and bytes that are lacking stay so.
use Rattle.std.specs.Prelude.{◌≡◌, ◌==◌, ℕ, Bool, true, false, List, [], ◌∷◌, ◌++◌}
use Rattle.std.specs.List.{list_any}
use Rattle.std.proofs.Common.{refl, sym, ◌∙◌, ap}
use Rattle.std.proofs.lemmas.Bool.{or_parts, or_from, eqb-true}
use Rattle.dita_doc.specs.Cut.{Lacks}
use Rattle.dita_doc.specs.PyxEscapes.{unescaped, unescaped_after, escaped, escaped_byte}
use Rattle.dita_doc.proofs.LackLaws.{lacks_append, lacks_if}

-- one byte, by what it is
unescaped_byte : (b : ℕ) (rest : List ℕ) (feed tab slash : Bool) → (b == 10) ≡ feed → (b == 9) ≡ tab
    → (b == 92) ≡ slash → unescaped_after false (escaped_byte b ++ rest) ≡ b ∷ unescaped_after false rest
unescaped_byte b rest true tab slash f t s =
    rw f (ap (λ (c : ℕ). c ∷ unescaped_after false rest) (sym (eqb-true b 10 f)))
unescaped_byte b rest false true slash f t s =
    rw (f, t) (ap (λ (c : ℕ). c ∷ unescaped_after false rest) (sym (eqb-true b 9 t)))
unescaped_byte b rest false false true f t s =
    rw (f, t, s) (ap (λ (c : ℕ). c ∷ unescaped_after false rest) (sym (eqb-true b 92 s)))
unescaped_byte b rest false false false f t s = rw (f, t, s, s) refl

pub unescaped_escaped : (bytes : List ℕ) → unescaped (escaped bytes) ≡ bytes
unescaped_escaped [] = refl
unescaped_escaped (b ∷ bytes) = unescaped_byte b (escaped bytes) _ _ _ refl refl refl
    ∙ ap (λ (l : List ℕ). b ∷ l) (unescaped_escaped bytes)

-- no CR comes from an escape
unescaped_lacks : (bytes : List ℕ) → Lacks 13 bytes
    → Lacks 13 (unescaped_after false bytes) × Lacks 13 (unescaped_after true bytes)
unescaped_lacks [] e = (refl, refl)
unescaped_lacks (b ∷ bytes) e =
    let parts = or_parts (b == 13) (list_any (λ c. c == 13) bytes) e in
    let rest = unescaped_lacks bytes parts.1 in
    let kept : Lacks 13 (b ∷ unescaped_after false bytes) = or_from _ _ parts.0 rest.0 in (
      lacks_if 13 (b == 92) (unescaped_after true bytes) (b ∷ unescaped_after false bytes) rest.1 kept,
      lacks_if 13 (b == 110) _ _ rest.0 (lacks_if 13 (b == 116) _ _ rest.0 (lacks_if 13 (b == 92) _ _ rest.0 kept)),
    )

pub lacks_unescaped : (bytes : List ℕ) → Lacks 13 bytes → Lacks 13 (unescaped bytes)
lacks_unescaped bytes e = (unescaped_lacks bytes e).0

-- no LF is left
escaped_byte_feed : (b : ℕ) (feed : Bool) → (b == 10) ≡ feed → Lacks 10 (escaped_byte b)
escaped_byte_feed b true e = rw e refl
escaped_byte_feed b false e = rw e (lacks_if 10 (b == 9) _ _ refl (lacks_if 10 (b == 92) _ _ refl (or_from _ _ e refl)))

pub escaped_lacks_feed : (bytes : List ℕ) → Lacks 10 (escaped bytes)
escaped_lacks_feed [] = refl
escaped_lacks_feed (b ∷ bytes) = lacks_append 10 (escaped_byte b) (escaped bytes) (escaped_byte_feed b _ refl)
    (escaped_lacks_feed bytes)

-- and no CR is made
pub escaped_lacks_return : (bytes : List ℕ) → Lacks 13 bytes → Lacks 13 (escaped bytes)
escaped_lacks_return [] e = refl
escaped_lacks_return (b ∷ bytes) e =
    let parts = or_parts (b == 13) (list_any (λ c. c == 13) bytes) e in
    let first = lacks_if 13 (b == 10) (92 ∷ 110 ∷ []) _ refl
    (lacks_if 13 (b == 9) (92 ∷ 116 ∷ []) _ refl
    (lacks_if 13 (b == 92) (92 ∷ 92 ∷ []) (b ∷ []) refl (or_from (b == 13) false parts.0 refl))) in
    lacks_append 13 (escaped_byte b) (escaped bytes) first (escaped_lacks_return bytes parts.1)
