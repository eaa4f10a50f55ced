-- The history of a script of one session: its requests stand in it in order, so it is that of the answers on one
-- thread.
use Rattle.std.proofs.Common.{◌≡◌, ◌+◌, ◌<◌, ◌≤◌, ℕ, zero, suc, List, [], ◌∷◌, Some, All, length, map, slice_get, refl, sym, ap, ◌∙◌, subst, arith}
use Rattle.std.proofs.lemmas.Option.{none-some, same_Some, slice_get_within}
use Rattle.dita_doc.specs.Desk.{State, next, reply}
use Rattle.dita_doc.specs.History.{AreLegal, Entry}
use Rattle.run_spec.specs.Answers.{answer_at, answers_from, entry_of, history_of}
use Rattle.run_spec.specs.HistoryTold.{step_of}
use Rattle.script_text.specs.Script.{Step}
use Rattle.desk_top.specs.OneHistory.{IsBehind, IsOneHistory, step_in}
use Rattle.desk_top.proofs.PlaceLaws.{all_at, pair_at}

abbrev pub AreOfSession : ℕ → List Step → Type 0
AreOfSession session steps = All (λ (step : Step). step.session ≡ session) steps

-- Numbers that rise

-- each number is greater than the one before it, the first greater than this one
abbrev Rise : ℕ → List Entry → Type 0
Rise low [] = Unit {0}
Rise low (entry ∷ log) = (low < entry.number) × Rise entry.number log

abbrev AreUpTo : ℕ → List Entry → Type 0
AreUpTo top log = (n : ℕ) (entry : Entry) → slice_get log n ≡ Some entry → entry.number ≤ top

-- there are no more of them than numbers above the lowest and up to the highest
rise_few : (low top : ℕ) (log : List Entry) → low ≤ top → Rise low log → AreUpTo top log → low + length log ≤ top
rise_few low top [] below rise up = omega (arith, below)
rise_few low top (entry ∷ log) below rise up =
    omega (
      arith,
      rise.0,
      rise_few entry.number top log (up 0 entry refl) rise.1 (λ n e at. up (suc n) e at),
    )

-- so, if there are as many, each is the one behind the one before it
rise_next : (low : ℕ) (entry : Entry) (log : List Entry) → Rise low (entry ∷ log)
    → AreUpTo (low + length (entry ∷ log)) (entry ∷ log) → entry.number ≡ low + 1
rise_next low entry log rise up =
    omega (
      arith,
      rise.0,
      rise_few entry.number (low + length (entry ∷ log)) log (up 0 entry refl) rise.1 (λ n e at. up (suc n) e at),
    )

rise_by_one : (low : ℕ) (log : List Entry) → Rise low log → AreUpTo (low + length log) log → (n : ℕ) (entry : Entry)
    → slice_get log n ≡ Some entry → entry.number ≡ low + n + 1
rise_by_one low [] rise up n entry at = absurd (none-some entry at)
rise_by_one low (first ∷ log) rise up zero entry at =
    ap (λ (e : Entry). e.number) (sym (same_Some first entry at)) ∙ rise_next low first log rise up ∙ omega arith
rise_by_one low (first ∷ log) rise up (suc n) entry at =
    let next : first.number ≡ low + 1 = rise_next low first log rise up in
    rise_by_one first.number log rise.1
    (λ k e is. omega (arith, up (suc k) e is, next)) n entry at
    ∙ omega (arith, next)

-- the numbers of entries that stand one behind the other rise
rises : (low : ℕ) (log : List Entry)
    → ((n : ℕ) (entry : Entry) → slice_get log n ≡ Some entry → low < entry.number)
    → ((i j : ℕ) (x y : Entry) → i < j → slice_get log i ≡ Some x → slice_get log j ≡ Some y → x.number < y.number)
    → Rise low log
rises low [] above order = tt
rises low (entry ∷ log) above order = (
  above 0 entry refl,
  rises entry.number log (λ n e at. order 0 (suc n) entry e (omega arith) refl at)
      (λ i j x y before first second. order (suc i) (suc j) x y (omega (arith, before)) first second),
)

-- Numbers of a script

record IsOfScript (steps : List Step) (one number : ℕ) (step : Step) : Type 0 where
  pub above : 0 < number
  pub up : number ≤ length steps
  pub session : step.session ≡ one

of_script : (steps : List Step) (one number : ℕ) (step : Step) → AreOfSession one steps
    → step_of steps number ≡ Some step → IsOfScript steps one number step
of_script steps one zero step same is = absurd (none-some step is)
of_script steps one (suc place) step same is = record {
  above = omega arith;
  up = omega (arith, slice_get_within steps place step is);
  session = all_at (λ (s : Step). s.session ≡ one) steps place step same is;
}

number_at : (steps : List Step) (log : List Entry) (session : ℕ) → AreOfSession session steps
    → IsOneHistory steps log → (n : ℕ) (entry : Entry) → slice_get log n ≡ Some entry → entry.number ≡ n + 1
number_at steps log session same one n entry at =
    let of : (k : ℕ) (e : Entry) → slice_get log k ≡ Some e → IsOfScript steps session e.number (step_in e) =
    λ k e is. of_script steps session e.number (step_in e) same
    (all_at (λ (x : Entry). step_of steps x.number ≡ Some (step_in x)) log k e one.named is) in
    let rise : Rise 0 log = rises 0 log (λ k e is. (of k e is).above)
    (λ i j x y before first second. pair_at IsBehind log i j x y one.order before first second
    ((of i x first).session ∙ sym (of j y second).session)) in
    rise_by_one 0 log rise (λ k e is. omega (arith, (of k e is).up, one.count)) n entry at ∙ omega arith

-- The answers

answers_as : (state : State) (place : ℕ) (entry : Entry) (step : Step) → entry.number ≡ place + 1
    → step_in entry ≡ step → entry.reply ≡ reply state place entry.request
    → entry ≡ (answer_at state place (place + 1) step).entry
answers_as state place entry step number same answered =
    let numbered : entry ≡ record {
      session = entry.session;
      number = place + 1;
      request = entry.request;
      reply = entry.reply;
    } = ap (λ n. record {
      session = entry.session;
      number = n;
      request = entry.request;
      reply = entry.reply;
    }) number in
    let replied : record {
      session = entry.session;
      number = place + 1;
      request = entry.request;
      reply = entry.reply;
    } ≡ (answer_at state place (place + 1) (step_in entry)).entry = ap (λ r. record {
      session = entry.session;
      number = place + 1;
      request = entry.request;
      reply = r;
    }) answered in
    numbered ∙ replied ∙ ap (λ (s : Step). (answer_at state place (place + 1) s).entry) same

are_answers : (state : State) (place : ℕ) (steps : List Step) (log : List Entry) → length log ≡ length steps
    → ((n : ℕ) (entry : Entry) → slice_get log n ≡ Some entry
    → (entry.number ≡ place + n + 1) × (slice_get steps n ≡ Some (step_in entry)))
    → AreLegal state place log → log ≡ map entry_of (answers_from state place steps)
are_answers state place [] [] count each legal = refl
are_answers state place [] (entry ∷ log) count each legal = absurd (omega (arith, count))
are_answers state place (step ∷ steps) [] count each legal = absurd (omega (arith, count))
are_answers state place (step ∷ steps) (entry ∷ log) count each legal =
    let first = each 0 entry refl in
    let same : step_in entry ≡ step = sym (same_Some step (step_in entry) first.1) in
    let this : entry ≡ (answer_at state place (place + 1) step).entry =
    answers_as state place entry step (first.0 ∙ omega arith) same legal.0 in
    let rest : AreLegal (next state place step.request) (place + 1) log =
    subst (λ (s : Step). AreLegal (next state place s.request) (place + 1) log) same legal.1 in
    ap (λ (e : Entry). e ∷ log) this
    ∙ ap (λ (more : List Entry). (answer_at state place (place + 1) step).entry ∷ more)
    (are_answers (next state place step.request) (place + 1) steps log (omega (arith, count))
    (λ n e at. (let is = each (suc n) e at in (is.0 ∙ omega arith, is.1))) rest)

-- each entry has the number of its place, and the request of this number
in_order : (steps : List Step) (log : List Entry) (session : ℕ) → AreOfSession session steps → IsOneHistory steps log
    → (n : ℕ) (entry : Entry) → slice_get log n ≡ Some entry
    → (entry.number ≡ 0 + n + 1) × (slice_get steps n ≡ Some (step_in entry))
in_order steps log session same one n entry at =
    let number : entry.number ≡ suc n = number_at steps log session same one n entry at ∙ omega arith in
    let named = all_at (λ (x : Entry). step_of steps x.number ≡ Some (step_in x)) log n entry one.named at in
    (number ∙ omega arith, sym (ap (step_of steps) number) ∙ named)

pub one_session : (steps : List Step) (log : List Entry) (session : ℕ) → AreOfSession session steps
    → IsOneHistory steps log → log ≡ history_of steps
one_session steps log session same one =
    are_answers [] 0 steps log one.count (in_order steps log session same one) one.legal
