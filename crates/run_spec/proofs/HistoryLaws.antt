-- The answers to steps in order are one history.
use Rattle.std.proofs.Common.{◌≡◌, ◌+◌, ℕ, zero, suc, List, [], ◌∷◌, Some, length, take, map, refl, ap, ◌∙◌, arith}
use Rattle.std.specs.List.{slice_get}
use Rattle.std.proofs.lemmas.Option.{none-some, same_Some}
use Rattle.dita_doc.specs.Desk.{State, next}
use Rattle.dita_doc.specs.History.{AreLegal, replay}
use Rattle.script_text.specs.Script.{Step}
use Rattle.run_spec.specs.Answers.{answer_at, answers_from, entry_of}

-- an answer to each step
pub length-answers_from : (state : State) (place : ℕ) (steps : List Step)
    → length (answers_from state place steps) ≡ length steps
length-answers_from state place [] = refl
length-answers_from state place (step ∷ steps) =
    ap (λ n. suc n) (length-answers_from (next state place step.request) (place + 1) steps)

-- each reply is the desk's at its place
pub legal_answers : (state : State) (place : ℕ) (steps : List Step)
    → AreLegal state place (map entry_of (answers_from state place steps))
legal_answers state place [] = tt
legal_answers state place (step ∷ steps) = (refl, legal_answers (next state place step.request) (place + 1) steps)

-- each step is answered over what is stored at its place
pub each_answer : (state : State) (place n : ℕ) (steps : List Step) (step : Step) → slice_get steps n ≡ Some step
    → slice_get (answers_from state place steps) n
    ≡ Some (answer_at (replay state place (take n (map entry_of (answers_from state place steps)))) (place + n)
    (place + n + 1) step)
each_answer state place n [] step is = absurd (none-some step is)
each_answer state place zero (first ∷ steps) step is =
    ap (λ s. Some (answer_at state place (place + 1) s)) (same_Some first step is)
    ∙ ap (λ k. Some (answer_at state k (k + 1) step)) {x = place} {y = place + 0} (omega arith)
each_answer state place (suc n) (first ∷ steps) step is =
    let later = next state place first.request in
    each_answer later (place + 1) n steps step is
    ∙ ap (λ k. Some
    (answer_at (replay later (place + 1) (take n (map entry_of (answers_from later (place + 1) steps)))) k
    (k + 1) step)) {x = place + 1 + n} {y = place + suc n} (omega arith)
