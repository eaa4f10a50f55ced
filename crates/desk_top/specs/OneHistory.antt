-- The history of a script (own): each request of the script stands in it once, by its number, and is of its session. In
-- one session the later entry has the greater number. Each reply is that of the desk on one thread at its place.
use Rattle.std.specs.Prelude.{◌≡◌, ◌<◌, ◌==◌, ℕ, List, Some, All, AllPairs, count_by, length}
use Rattle.dita_doc.specs.History.{Entry, IsLegal}
use Rattle.run_spec.specs.HistoryTold.{step_of}
use Rattle.script_text.specs.Script.{Step}

abbrev pub step_in : Entry → Step
step_in entry = record { session = entry.session; request = entry.request }

-- in one session the later entry has the greater number
abbrev pub IsBehind : Entry → Entry → Type 0
IsBehind earlier later = earlier.session ≡ later.session → earlier.number < later.number

pub record IsOneHistory (steps : List Step) (log : List Entry) : Type 0 where
  pub legal : IsLegal log
  pub count : length log ≡ length steps
  pub named : All (λ (entry : Entry). step_of steps entry.number ≡ Some (step_in entry)) log
  pub once : (number : ℕ) (step : Step) → step_of steps number ≡ Some step
      → count_by (λ (entry : Entry). entry.number == number) log ≡ 1
  pub order : AllPairs IsBehind log
