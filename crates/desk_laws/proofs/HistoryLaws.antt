-- The answers to some steps are one history, and their transcript tells it.
use Rattle.std.specs.Prelude.{◌+◌, [], Some}
use Rattle.std.proofs.Common.{ap, sym, ◌∙◌, arith}
use Rattle.dita_doc.specs.History.{sources}
use Rattle.run_spec.specs.Answers.{answer_at, answers_to, transcript_of, history_of}
use Rattle.run_spec.proofs.HistoryLaws.{legal_answers, each_answer}
use Rattle.run_spec.proofs.ShownLaws.{length-answers_shown}
use Rattle.transcript_laws.proofs.OnceLaws.{one_transcript}
use Rattle.transcript_text.specs.Told.{told}
use Rattle.transcript_text.specs.Transcript.{IsTranscript}
use Rattle.desk_laws.specs.OneHistory.{Steps, IsOneHistory, IsTold}

pub one_history : (steps : Steps) → IsOneHistory steps
one_history steps = record {
  legal = legal_answers [] 0 steps;
  each = λ n step is. each_answer [] 0 n steps step is
      ∙ ap (λ k. Some (answer_at (sources (history_of steps) n) k (k + 1) step)) {x = 0 + n} (omega arith);
  shown = length-answers_shown 0 [] 0 steps;
}

pub told_once : (steps : Steps) → IsTranscript (transcript_of (answers_to steps)) → IsTold steps
told_once steps form = record {
  form = form;
  read = λ transcript read. read.3
      ∙ ap told (one_transcript read.0 (transcript_of (answers_to steps)) read.1 form (sym read.2));
}
