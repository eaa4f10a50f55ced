-- The history that a transcript tells: each entry stands in it, its replies are the desk's, and what is stored at a
-- place is what the entries before it have stored.
use Rattle.std.proofs.Common.{◌≡◌, ◌+◌, ℕ, suc, List, [], ◌∷◌, ◌++◌, Option, Some, None, All, length, map, option_map, refl, ap, arith}
use Rattle.std.specs.Option.{option_to_list}
use Rattle.std.proofs.lemmas.List.Elements.{All-tail}
use Rattle.std.proofs.lemmas.Option.{none-some}
use Rattle.dita_doc.specs.Desk.{State, next}
use Rattle.dita_doc.specs.History.{AreLegal}
use Rattle.script_text.specs.Script.{Step}
use Rattle.transcript_text.specs.Transcript.{EntryShown}
use Rattle.run_spec.specs.Faithful.{IsOfSession}
use Rattle.run_spec.specs.HistoryTold.{Moment, entry_told, moment_with, moments_from, next_with, step_of}

-- an entry whose request was found, and those behind it
abbrev pub behind : List Step → State → ℕ → EntryShown → List EntryShown → Option Step → List Moment
behind steps state place entry entries found =
    option_to_list (option_map (moment_with state place entry) found)
    ++ moments_from steps (next_with state place found) (place + 1) entries

abbrev pub HasSession : EntryShown → Option Step → Type 0
HasSession entry found = option_map (λ (step : Step). step.session) found ≡ Some entry.session

-- Legal

abbrev TellsLegal : List Step → List EntryShown → Type 0
TellsLegal steps entries = (state : State) (place : ℕ)
    → AreLegal state place (map entry_told (moments_from steps state place entries))

legal_behind : (steps : List Step) (state : State) (place : ℕ) (entry : EntryShown) (entries : List EntryShown)
    (found : Option Step) → HasSession entry found → TellsLegal steps entries
    → AreLegal state place (map entry_told (behind steps state place entry entries found))
legal_behind steps state place entry entries None of rest = absurd (none-some entry.session of)
legal_behind steps state place entry entries (Some step) of rest =
    (refl, rest (next state place step.request) (place + 1))

pub legal_told : (steps : List Step) (entries : List EntryShown) → All (IsOfSession steps) entries
    → TellsLegal steps entries
legal_told steps [] of state place = tt
legal_told steps (entry ∷ entries) of state place =
    legal_behind steps state place entry entries (step_of steps entry.number) (of 0 entry (omega arith))
    (legal_told steps entries (All-tail (IsOfSession steps) entry entries of))

-- As many

abbrev TellsEach : List Step → List EntryShown → Type 0
TellsEach steps entries = (state : State) (place : ℕ) → length (moments_from steps state place entries) ≡ length entries

each_behind : (steps : List Step) (state : State) (place : ℕ) (entry : EntryShown) (entries : List EntryShown)
    (found : Option Step) → HasSession entry found → TellsEach steps entries
    → length (behind steps state place entry entries found) ≡ length (entry ∷ entries)
each_behind steps state place entry entries None of rest = absurd (none-some entry.session of)
each_behind steps state place entry entries (Some step) of rest =
    ap (λ n. suc n) (rest (next state place step.request) (place + 1))

pub each_told : (steps : List Step) (entries : List EntryShown) → All (IsOfSession steps) entries
    → TellsEach steps entries
each_told steps [] of state place = refl
each_told steps (entry ∷ entries) of state place =
    each_behind steps state place entry entries (step_of steps entry.number) (of 0 entry (omega arith))
    (each_told steps entries (All-tail (IsOfSession steps) entry entries of))
