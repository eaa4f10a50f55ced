-- What the transcript of a finished run tells of its requests.
use Rattle.std.specs.Prelude.{◌≡◌, ◌+◌, ℕ, List, Some, length}
use Rattle.std.specs.List.{slice_get}
use Rattle.dita_doc.specs.History.{IsLegal, sources}
use Rattle.run_spec.specs.Answers.{answer_at, answers_to, transcript_of, history_of}
use Rattle.script_text.specs.Script.{Step}
use Rattle.transcript_text.specs.Read.{IsRead}
use Rattle.transcript_text.specs.Told.{told}
use Rattle.transcript_text.specs.Transcript.{IsTranscript, transcript_text}
use Rattle.transcript_text.specs.declared.transcript.Transcript.{Transcript}

abbrev pub Steps : Type 0
Steps = List Step

-- The answers to some steps are one history: each reply is the desk's at its place, and each step is answered over what
-- is stored there, a build too. The transcript has one entry for each step.
pub record IsOneHistory (steps : Steps) : Type 0 where
  pub legal : IsLegal (history_of steps)
  pub each : (n : ℕ) (step : Step) → slice_get steps n ≡ Some step
      → slice_get (answers_to steps) n ≡ Some (answer_at (sources (history_of steps) n) n (n + 1) step)
  pub shown : length (transcript_of (answers_to steps)).entries ≡ length steps

-- The text of the answers is in the form of transcripts, and what is read of it is what the answers' transcript tells.
pub record IsTold (steps : Steps) : Type 0 where
  pub form : IsTranscript (transcript_of (answers_to steps))
  pub read : (transcript : Transcript) → IsRead transcript (transcript_text (transcript_of (answers_to steps)))
      → transcript ≡ told (transcript_of (answers_to steps))
