-- What is stored at each place of the history that a faithful transcript tells.
use Rattle.std.proofs.Common.{◌≡◌, ◌+◌, ℕ, zero, suc, List, [], ◌∷◌, Option, Some, None, All, map, slice_get, take, sym, ap, ◌∙◌, arith}
use Rattle.std.proofs.lemmas.List.{length-map}
use Rattle.std.proofs.lemmas.List.Elements.{All-tail}
use Rattle.std.proofs.lemmas.Option.{none-some, same_Some}
use Rattle.dita_doc.specs.Desk.{State, next}
use Rattle.dita_doc.specs.History.{replay}
use Rattle.script_text.specs.Script.{Step}
use Rattle.transcript_text.specs.Transcript.{EntryShown}
use Rattle.run_spec.specs.Faithful.{IsFaithful, IsOfSession}
use Rattle.run_spec.specs.HistoryTold.{Moment, entry_told, moment_with, moments_from, moments_of, step_of}
use Rattle.run_spec.specs.Language.{dita}
use Rattle.run_spec.proofs.ToldLaws.{behind, HasSession, each_told, legal_told}
use Rattle.faithful_laws.specs.OneHistory.{Steps, TellsOneHistory}

-- a moment is over what the entries before it have stored, and at its place
abbrev IsOver : State → ℕ → List Moment → Type 0
IsOver state place moments = (n : ℕ) (moment : Moment) → slice_get moments n ≡ Some moment
    → moment.state ≡ replay state place (take n (map entry_told moments))

abbrev TellsStored : List Step → List EntryShown → Type 0
TellsStored steps entries = (state : State) (place : ℕ) → IsOver state place (moments_from steps state place entries)

stored_behind : (steps : List Step) (state : State) (place : ℕ) (entry : EntryShown) (entries : List EntryShown)
    (found : Option Step) → HasSession entry found → TellsStored steps entries
    → IsOver state place (behind steps state place entry entries found)
stored_behind steps state place entry entries None of rest n moment is = absurd (none-some entry.session of)
stored_behind steps state place entry entries (Some step) of rest zero moment is =
    sym (ap (λ (one : Moment). one.state) (same_Some (moment_with state place entry step) moment is))
stored_behind steps state place entry entries (Some step) of rest (suc n) moment is =
    rest (next state place step.request) (place + 1) n moment is

stored_told : (steps : List Step) (entries : List EntryShown) → All (IsOfSession steps) entries
    → TellsStored steps entries
stored_told steps [] of state place n moment is = absurd (none-some moment is)
stored_told steps (entry ∷ entries) of state place n moment is =
    stored_behind steps state place entry entries (step_of steps entry.number) (of 0 entry (omega arith))
    (stored_told steps entries (All-tail (IsOfSession steps) entry entries of)) n moment is

pub tells_one : (steps : Steps) (text : List ℕ) (is : IsFaithful dita steps text)
    → TellsOneHistory steps is.transcript.entries
tells_one steps text is =
    let entries : List EntryShown = is.transcript.entries in
    record {
      legal = legal_told steps entries is.requests.sessions [] 0;
      each = length-map (moments_of steps entries) entry_told ∙ each_told steps entries is.requests.sessions [] 0
          ∙ is.entries.count;
      stored = stored_told steps entries is.requests.sessions [] 0;
    }
