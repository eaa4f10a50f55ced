-- How the runs of the modes `gen` and `trial` end, by their status, over what their sink tells. `gen` writes the script
-- of a number and of a count of topics. `trial` runs this script as one session, and writes one line with its counts.
use Rattle.std.specs.Prelude.{◌++◌, ℕ, List, Option, Some, None, codes, length, map, sum_by}
use Rattle.std.specs.Fmt.{decimal}
use Rattle.build_spec.specs.Built.{BuildOutcome, Done, Stopped, TooLarge}
use Rattle.dita_doc.specs.Lines.{line}
use Rattle.doc_gen.specs.Project.{project, project_steps}
use Rattle.run_spec.specs.Answers.{Answer, answers_to, pages_built}
use Rattle.run_spec.specs.Written.{EndsWriting, Sunk}
use Rattle.run_spec.specs.declared.status.Status.{Status}
use Rattle.script_text.specs.Script.{Step}

-- The counts

abbrev pub builds_in : Option BuildOutcome → ℕ
builds_in None = 0
builds_in (Some built) = 1

abbrev pub faults_in : Option BuildOutcome → ℕ
faults_in None = 0
faults_in (Some (Done pages faults)) = length faults
faults_in (Some (Stopped stop)) = 0
faults_in (Some (TooLarge total)) = 0

abbrev pub count_of : (Option BuildOutcome → ℕ) → List Answer → ℕ
count_of counts answers = sum_by (λ (answer : Answer). counts answer.built) answers

-- the line of a trial: how many requests were answered, how many of them are builds, and the pages and the faults of
-- all builds
abbrev pub trial_line : ℕ → ℕ → List Answer → List ℕ
trial_line number topics answers = line (codes "trial " ++ decimal number ++ codes " " ++ decimal topics
    ++ codes " entries " ++ decimal (length answers)
    ++ codes " builds " ++ decimal (count_of builds_in answers)
    ++ codes " pages " ++ decimal (count_of (λ built. length (pages_built built)) answers)
    ++ codes " faults " ++ decimal (count_of faults_in answers))

-- The runs

abbrev pub in_one_session : Step → Step
in_one_session step = record { session = 1; request = step.request }

-- the requests of the generator's script, all of session 1
abbrev pub trial_steps : ℕ → ℕ → List Step
trial_steps number topics = map in_one_session (project_steps number topics)

-- what a trial writes: its counts are those of the answers on one thread
unfoldable pub trial_text : ℕ → ℕ → List ℕ
trial_text number topics = trial_line number topics (answers_to (trial_steps number topics))

abbrev pub EndsGen : ℕ → ℕ → Sunk → Sunk → Status → Type 0
EndsGen number topics old new status = EndsWriting (project number topics) old new status

abbrev pub EndsTrial : ℕ → ℕ → Sunk → Sunk → Status → Type 0
EndsTrial number topics old new status = EndsWriting (trial_text number topics) old new status
