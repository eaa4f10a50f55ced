-- What a run over a source that tells its bytes comes to.
use Rattle.std.specs.Prelude.{◌≡◌, ◌⊎◌, Bool, [], List, Some, Ok}
use Rattle.std.specs.Io.KnownBytes.{Appends}
use Rattle.dita_doc.specs.Bytes.{Bytes}
use Rattle.dita_outside.specs.Pages.{Pages, TakesPages}
use Rattle.run_spec.specs.Answers.{answers_to, pages_of_answers, transcript_of}
use Rattle.run_spec.specs.CleanRun.{run_over}
use Rattle.run_spec.specs.declared.status.Status.{Status}
use Rattle.run_spec.specs.declared.status.Status.TheVariants as statuses
use Rattle.script_text.specs.Script.{Step, script_of}
use Rattle.transcript_text.specs.Transcript.{transcript_text}
use Rattle.desk_top.specs.Outside.{Change}
use Rattle.desk_laws.specs.OneHistory.{IsTold, IsOneHistory}

-- the run answered what it read
abbrev pub IsAnswered : Status → Type 0
IsAnswered status = (status ≡ statuses.Done) ⊎ (status ≡ statuses.Script)

-- It ended as all bytes of the source say, however many there are: with their status, all their pages and their whole
-- output.
pub record EndsAsAll (with_terms : Bool) (held : Bytes) (sink : Change Bytes) (outlet : Change Pages) (status : Status)
    : Type 0 where
  pub ends : status ≡ (run_over with_terms held).status
  pub pages : TakesPages outlet.before outlet.after (run_over with_terms held).pages
  pub output : Appends sink.before sink.after (run_over with_terms held).output

-- It is done: the source was read to its end, what it held is a script, the outlet and the sink took the pages and the
-- transcript of the answers to its steps, and that transcript tells one history.
pub record IsDone (with_terms : Bool) (held : Bytes) (source sink : Change Bytes) (outlet : Change Pages) : Type 0 where
  pub ended : source.after ≡ Some []
  pub steps : List Step
  pub script : script_of held ≡ Ok steps
  pub pages : TakesPages outlet.before outlet.after (pages_of_answers with_terms (answers_to steps))
  pub output : Appends sink.before sink.after (transcript_text (transcript_of (answers_to steps)))
  pub told : IsTold steps
  pub history : IsOneHistory steps
