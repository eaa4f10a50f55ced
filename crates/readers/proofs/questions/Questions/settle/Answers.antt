use Rattle.std.proofs.Common.{◌≡◌, ◌<◌, ◌-◌, ℕ, List, [], ◌∷◌, ◌++◌, length, drop, sym, ap, ◌∙◌, arith, reverse}
use Rattle.std.proofs.Math.ListN.{set}
use Rattle.std.proofs.Math.Seq.{set-append_seam}
use Rattle.std.proofs.lemmas.List.{length-append, reverse-append, reverse-reverse}
use Rattle.readers.proofs.questions.Questions.settle.Goals as goal

-- the last of a list written over, seen from its end
last_written : {X : Type 0} (xs seen : List X) (at : ℕ) (x : X) → reverse xs ≡ seen → 0 < length seen
    → at ≡ length xs - 1 → reverse (set xs at x) ≡ x ∷ drop 1 seen
last_written xs [] at x view some is = absurd (omega arith)
last_written xs (y ∷ rest) at x view some is =
    let all : xs ≡ reverse rest ++ y ∷ [] = sym (reverse-reverse xs) ∙ ap reverse view
    ∙ reverse-append (y ∷ []) rest
    in
    let here : at ≡ length (reverse rest) = is
    ∙ omega (arith, ap length all, length-append (reverse rest) (y ∷ []))
    in
    ap (λ n. reverse (set xs n x)) here ∙ ap (λ ys. reverse (set ys (length (reverse rest)) x)) all
    ∙ ap reverse (set-append_seam (reverse rest) y [] x) ∙ reverse-append (reverse rest) (x ∷ [])
    ∙ ap (λ ys. x ∷ ys) (reverse-reverse rest)

pub returns : goal.returns
returns c = last_written c.self.inside.oldest_first.items c.args.self.now (c.len-last.result - 1) c.args.note
    c.self.view_is c.requires (omega (arith, c.len-last.ensures, c.self.inside.oldest_first.ok.0))
