-- A faithful text is read as its own transcript, and its numbers make its history.
use Rattle.std.proofs.Common.{◌≡◌, ◌+◌, ℕ, List, [], ◌∷◌, Option, Some, None, Result, Ok, All, drop, map, refl, sym, ap, subst, ◌∙◌, arith}
use Rattle.std.specs.List.{slice_get}
use Rattle.std.proofs.lemmas.List.Elements.{All-tail}
use Rattle.std.proofs.lemmas.Option.{none-some, same_Some}
use Rattle.dita_doc.specs.Desk.{State, next, reply}
use Rattle.script_text.specs.Script.{Step}
use Rattle.transcript_text.specs.Told.{told}
use Rattle.transcript_text.specs.Transcript as shown
use Rattle.transcript_text.specs.Transcript.{EntryShown}
use Rattle.transcript_laws.proofs.OnceLaws.{one_transcript}
use Rattle.run_spec.specs.Faithful.{IsFaithful, IsFaithfulTo, IsOfSession}
use Rattle.run_spec.specs.HistoryTold.{Moment, entry_told, history_told, step_of}
use Rattle.run_spec.specs.Language.{dita}
use Rattle.run_spec.proofs.ToldLaws.{HasSession, behind}
use Rattle.faithful_laws.specs.OneHistory.{Steps, numbers}
use Rattle.faithful_laws.specs.ReadBack.{IsReadAs}
use Rattle.faithful_laws.proofs.OrderLaws.{told_from}

-- Reading

pub read_as : (steps : Steps) (text : List ℕ) (is : IsFaithful dita steps text) → IsReadAs text is.transcript
read_as steps text is =
    let own : shown.Transcript = is.transcript in
    record {
      read = (own, is.entries.form, is.entries.is, refl);
      alone = λ transcript read. read.3
          ∙ ap told (one_transcript read.0 own read.1 is.entries.form (sym read.2 ∙ is.entries.is));
      faultless = λ number bad. bad.none own is.entries.form (sym is.entries.is);
    }

pub same_transcript : (steps others : Steps) (text : List ℕ) (first : IsFaithful dita steps text)
    (second : IsFaithful dita others text) → first.transcript ≡ second.transcript
same_transcript steps others text first second =
    one_transcript first.transcript second.transcript first.entries.form second.entries.form
    (sym first.entries.is ∙ second.entries.is)

pub same_history : (steps : Steps) (text : List ℕ) (first second : IsFaithful dita steps text)
    → history_told steps first.transcript.entries ≡ history_told steps second.transcript.entries
same_history steps text first second =
    ap (λ (one : shown.Transcript). history_told steps one.entries) (same_transcript steps steps text first second)

same_Ok : {X E : Type 0} (one other : X) → ◌≡◌ {A = Result X E} (Ok one) (Ok other) → one ≡ other
same_Ok one other is = cc

pub bytes_have_one : (script text : List ℕ) (first second : IsFaithfulTo script text)
    → history_told first.steps first.faithful.transcript.entries
    ≡ history_told second.steps second.faithful.transcript.entries
bytes_have_one script text first second =
    let steps : first.steps ≡ second.steps = same_Ok first.steps second.steps (sym first.are ∙ second.are) in
    let transcript =
    same_transcript first.steps second.steps text first.faithful second.faithful in
    λ i. history_told (steps i) (transcript i).entries

-- The numbers make the history

-- entries with these numbers tell the same as these, from any state and place on
abbrev TellAlike : List Step → List EntryShown → List EntryShown → Type 0
TellAlike steps entries others = (state : State) (place : ℕ)
    → told_from steps state place entries ≡ told_from steps state place others

alike_behind : (steps : List Step) (state : State) (place : ℕ) (entry other : EntryShown)
    (entries others : List EntryShown) (found : Option Step) → entry.number ≡ other.number → HasSession entry found
    → HasSession other found → TellAlike steps entries others
    → map entry_told (behind steps state place entry entries found)
    ≡ map entry_told (behind steps state place other others found)
alike_behind steps state place entry other entries others None number of too rest = absurd (none-some entry.session of)
alike_behind steps state place entry other entries others (Some step) number of too rest =
    let session : entry.session ≡ other.session = sym (same_Some step.session entry.session of)
    ∙ same_Some step.session other.session too in
    let one : Moment = record { place = place; state = state; step = step; entry = entry } in
    let two : Moment = record { place = place; state = state; step = step; entry = other } in
    let head : entry_told one ≡ entry_told two = λ i. record {
      session = session i;
      number = number i;
      request = step.request;
      reply = reply state place step.request;
    } in
    let tail = rest (next state place step.request) (place + 1) in
    λ i. head i ∷ tail i

numbers_tell : (steps : List Step) (entries others : List EntryShown) → All (IsOfSession steps) entries
    → All (IsOfSession steps) others → numbers entries ≡ numbers others → TellAlike steps entries others
numbers_tell steps [] [] of too same state place = refl
numbers_tell steps [] (other ∷ others) of too same state place =
    let fewer : [] ≡ other.number ∷ numbers others = same in absurd cc
numbers_tell steps (entry ∷ entries) [] of too same state place =
    let fewer : entry.number ∷ numbers entries ≡ [] = same in absurd cc
numbers_tell steps (entry ∷ entries) (other ∷ others) of too same state place =
    let number : entry.number ≡ other.number =
    same_Some entry.number other.number (ap (λ (list : List ℕ). slice_get list 0) same) in
    alike_behind steps state place entry other entries others (step_of steps entry.number) number
    (of 0 entry (omega arith))
    (subst (λ (n : ℕ). HasSession other (step_of steps n)) (sym number) (too 0 other (omega arith)))
    (numbers_tell steps entries others (All-tail (IsOfSession steps) entry entries of)
    (All-tail (IsOfSession steps) other others too) (ap (λ (list : List ℕ). drop 1 list) same))
    ∙ ap (λ (n : ℕ). map entry_told (behind steps state place other others (step_of steps n))) number

pub numbers_make : (steps : Steps) (text other : List ℕ) (first : IsFaithful dita steps text)
    (second : IsFaithful dita steps other) → numbers first.transcript.entries ≡ numbers second.transcript.entries
    → history_told steps first.transcript.entries ≡ history_told steps second.transcript.entries
numbers_make steps text other first second same =
    numbers_tell steps first.transcript.entries second.transcript.entries first.requests.sessions
    second.requests.sessions same [] 0
