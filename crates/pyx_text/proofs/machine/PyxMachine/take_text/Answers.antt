use Rattle.std.proofs.Common.{◌≡◌, ℕ, List, refl, ◌∷◌, ◌⊎◌, inl, inr, ap, ◌∙◌, sym, subst, arith}
use Rattle.std.proofs.lemmas.Bool.Decides.{nat_tests}
use Rattle.dita_doc.specs.PyxLine.{Says, Passes, line_by_bytes, line_by_byte}
use Rattle.dita_doc.specs.PyxEscapes.{unescaped}
use Rattle.dita_doc.specs.PyxEvent.{fault_of, after}
use Rattle.pyx_text.specs.Machine.{HasRead, StepsTo}
use Rattle.pyx_text.proofs.machine.PyxMachine.take_text.Goals as goal

says_text : (line rest : List ℕ) (first : ℕ) → line ≡ first ∷ rest → (first ≡ 45) ⊎ (first ≡ 91)
    → line_by_bytes line ≡ Says (unescaped rest)
says_text line rest first is (inl hyphen) = ap line_by_bytes (is ∙ ap (λ b. b ∷ rest) hyphen)
says_text line rest first is (inr bracket) = ap line_by_bytes (is ∙ ap (λ b. b ∷ rest) bracket)

pub returns-in-45 : goal.returns-in-45
returns-in-45 c before read =
    let machine = c.says.new.self in
    let number = c.args.number in
    let said = says_text c.args.line.now c.in-Some.rest.now c.in-Some.first c.in-Some.ensures.some c.in-45.is in
    subst (λ line. StepsTo c.says.result (fault_of before line) (HasRead machine (after number before line)))
    (sym said) (c.says.ensures number before read)

pub returns-in-63-2 : goal.returns-in-63-2
returns-in-63-2 c before read =
    let passes : line_by_byte c.in-Some.first c.in-Some.rest.now ≡ Passes = grind (arith, nat_tests) in
    let said : line_by_bytes c.args.line.now ≡ Passes = ap line_by_bytes c.in-Some.ensures.some ∙ passes in
    rw said (refl, read)
