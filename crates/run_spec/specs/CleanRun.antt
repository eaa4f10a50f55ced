-- What a run over some bytes on one thread ends with: a status, the pages and the output. In the mode `clean` the pages are
-- those of the builds; in the mode `terms` each build has its page of terms behind its own.
use Rattle.std.specs.Prelude.{ℕ, Bool, true, false, List, [], Result, Ok, Err}
use Rattle.build_spec.specs.Built.{Page}
use Rattle.script_text.specs.Faults.{rejection_line}
use Rattle.script_text.specs.Script.{Step, script_of}
use Rattle.script_text.specs.declared.fault.ScriptFault.{ScriptFault}
use Rattle.transcript_text.specs.Transcript.{IsTranscript, transcript_text}
use Rattle.run_spec.specs.Answers.{Answer, answers_to, transcript_of, pages_of_answers}
use Rattle.run_spec.specs.declared.status.Status.{Status}
use Rattle.run_spec.specs.declared.status.Status.TheVariants as statuses

pub record CleanRun : Type 0 where
  pub status : Status
  pub pages : List Page
  pub output : List ℕ

-- the bytes read at most: one more than a script has
abbrev pub read_limit : ℕ
read_limit = 67108865

abbrev pub run_answered : Bool → List Answer → CleanRun
run_answered with_terms answers = record {
  status = statuses.Done;
  pages = pages_of_answers with_terms answers;
  output = transcript_text (transcript_of answers);
}

-- a script is answered request by request, from a desk with nothing stored; other bytes are rejected
abbrev pub run_of : Bool → Result (List Step) ScriptFault → CleanRun
run_of with_terms (Ok steps) = run_answered with_terms (answers_to steps)
run_of with_terms (Err fault) = record { status = statuses.Script; pages = []; output = rejection_line fault }

-- the transcript of a script that is answered is in the form of transcripts
abbrev pub HasForm : Result (List Step) ScriptFault → Type 0
HasForm (Ok steps) = IsTranscript (transcript_of (answers_to steps))
HasForm (Err fault) = Unit {0}

unfoldable pub run_over : Bool → List ℕ → CleanRun
run_over with_terms input = run_of with_terms (script_of input)

abbrev pub clean_run : List ℕ → CleanRun
clean_run input = run_over false input

abbrev pub terms_run : List ℕ → CleanRun
terms_run input = run_over true input
