-- The line of a trial: the counts of what was answered in one session are those of the answers on one thread.
use Rattle.std.proofs.Common.{◌≡◌, ◌≤◌, ◌++◌, ℕ, List, [], ◌∷◌, Some, Result, Ok, Err, codes, length, map, sum_by, refl, sym, ap, ◌∙◌, subst, arith}
use Rattle.std.specs.Fmt.{decimal}
use Rattle.std.proofs.lemmas.List.Elements.{All-cons, All-nil}
use Rattle.std.proofs.lemmas.List.Sums.{sum_by-cons}
use Rattle.dita_doc.specs.Bytes.{Bytes, line_feed}
use Rattle.dita_doc.specs.History.{Entry}
use Rattle.dita_doc.specs.declared.request.Request.{Request}
use Rattle.desk_work.specs.Build.{outcome_seen}
use Rattle.doc_gen.specs.Project.{project, project_steps}
use Rattle.run_spec.proofs.HistoryLaws.{length-answers_from}
use Rattle.run_spec.specs.Answers.{answers_to, history_of, pages_built}
use Rattle.run_spec.specs.EndsTrial.{builds_in, count_of, faults_in, in_one_session, trial_line, trial_steps, trial_text}
use Rattle.script_text.specs.Read.{step_seen, steps_seen}
use Rattle.script_text.specs.Script.{Step, script_of}
use Rattle.script_text.specs.declared.fault.ScriptFault.{ScriptFault}
use Rattle.desk_top.specs.Counts.{counts_line, faults_given, pages_given}
use Rattle.desk_top.specs.OneHistory.{IsOneHistory}
use Rattle.desk_top.specs.Served.{IsServed}
use Rattle.desk_top.specs.declared.callers.BuiltAt.{BuiltAt}
use Rattle.desk_top.proofs.CountLaws.{counts_same}
use Rattle.desk_top.proofs.GeneratedReadLaws.{project_read}
use Rattle.desk_top.proofs.OneSessionLaws.{AreOfSession, one_session}

-- The line

joined : (front a b c d e f g : Bytes)
    → front ++ (a ++ b ++ c ++ d ++ e ++ f ++ g) ≡ front ++ a ++ b ++ c ++ d ++ e ++ f ++ g
joined [] a b c d e f g = refl
joined (first ∷ front) a b c d e f g = ap (λ (rest : Bytes). first ∷ rest) (joined front a b c d e f g)

counts_joined : (number topics entries builds pages faults : ℕ) → counts_line number topics entries builds pages faults
    ≡ codes "trial " ++ decimal number ++ codes " " ++ decimal topics ++ codes " entries " ++ decimal entries
    ++ codes " builds " ++ decimal builds ++ codes " pages " ++ decimal pages ++ codes " faults " ++ decimal faults
    ++ line_feed ∷ []
counts_joined number topics entries builds pages faults =
    joined (codes "trial " ++ decimal number ++ codes " " ++ decimal topics ++ codes " entries " ++ decimal entries)
    (codes " builds ") (decimal builds) (codes " pages ") (decimal pages) (codes " faults ") (decimal faults)
    (line_feed ∷ [])

-- The counts

count_ones : (built : List BuiltAt)
    → sum_by (λ (one : BuiltAt). builds_in (Some (outcome_seen one.outcome))) built ≡ length built
count_ones [] = refl
count_ones (one ∷ built) =
    omega (
      arith,
      sum_by-cons (λ (b : BuiltAt). builds_in (Some (outcome_seen b.outcome))) one built,
      count_ones built,
    )

-- the line of what one session was answered
pub session_told : (number topics : ℕ) (steps : List Step) (log : List Entry) (built : List BuiltAt)
    → AreOfSession 1 steps → IsOneHistory steps log → IsServed log built
    → counts_line number topics (length log) (length built) (sum_by pages_given built) (sum_by faults_given built)
    ≡ trial_line number topics (answers_to steps)
session_told number topics steps log built same one served =
    let all : IsServed (history_of steps) built =
    subst (λ (l : List Entry). IsServed l built) (one_session steps log 1 same one) served in
    let entries : length log ≡ length (answers_to steps) = one.count ∙ sym (length-answers_from [] 0 steps) in
    let builds : length built ≡ count_of builds_in (answers_to steps) =
    sym (counts_same builds_in refl steps built all ∙ count_ones built) in
    let pages : sum_by pages_given built ≡ count_of (λ given. length (pages_built given)) (answers_to steps) =
    sym (counts_same (λ given. length (pages_built given)) refl steps built all) in
    let faults : sum_by faults_given built ≡ count_of faults_in (answers_to steps) =
    sym (counts_same faults_in refl steps built all) in
    let same_line : counts_line number topics (length log) (length built) (sum_by pages_given built)
    (sum_by faults_given built) ≡ counts_line number topics (length (answers_to steps))
    (count_of builds_in (answers_to steps)) (count_of (λ given. length (pages_built given)) (answers_to steps))
    (count_of faults_in (answers_to steps)) =
    (λ i. counts_line number topics (entries i) (builds i) (pages i) (faults i)) in
    same_line
    ∙ counts_joined number topics (length (answers_to steps)) (count_of builds_in (answers_to steps))
    (count_of (λ given. length (pages_built given)) (answers_to steps)) (count_of faults_in (answers_to steps))

-- all of one session
of_one : (steps : List Step) → AreOfSession 1 (map in_one_session steps)
of_one [] = All-nil (λ (step : Step). step.session ≡ 1)
of_one (step ∷ steps) = All-cons (λ (s : Step). s.session ≡ 1) (in_one_session step) (map in_one_session steps) refl
    (of_one steps)

-- the line of a trial
pub trial_told : (number topics : ℕ) (steps : List Step) (log : List Entry) (built : List BuiltAt)
    (entries builds pages faults : ℕ) (text : Bytes) → steps ≡ trial_steps number topics → IsOneHistory steps log
    → IsServed log built → entries ≡ length log → builds ≡ length built → pages ≡ sum_by pages_given built
    → faults ≡ sum_by faults_given built → text ≡ counts_line number topics entries builds pages faults
    → text ≡ trial_text number topics
unfolding trial_text
trial_told number topics steps log built entries builds pages faults text are one served e b p f is =
    let same : AreOfSession 1 steps = subst (AreOfSession 1) (sym are) (of_one (project_steps number topics)) in
    is ∙ (λ i. counts_line number topics (e i) (b i) (p i) (f i))
    ∙ session_told number topics steps log built same one served
    ∙ ap (λ (all : List Step). trial_line number topics (answers_to all)) are

-- Requests that are put into one session, one after the other

moves : (done rest : List (ℕ × Request)) (session : ℕ) (request : Request)
    → steps_seen (done ++ (1, request) ∷ []) ++ map in_one_session (steps_seen rest)
    ≡ steps_seen done ++ map in_one_session (steps_seen ((session, request) ∷ rest))
moves [] rest session request = refl
moves (first ∷ done) rest session request =
    ap (λ (steps : List Step). step_seen first ∷ steps) (moves done rest session request)

pub one_moved : (done more left rest : List (ℕ × Request)) (all : List Step) (session : ℕ) (request : Request)
    → more ≡ done ++ (1, request) ∷ [] → left ≡ (session, request) ∷ rest
    → steps_seen done ++ map in_one_session (steps_seen left) ≡ all
    → steps_seen more ++ map in_one_session (steps_seen rest) ≡ all
one_moved done more left rest all session request grown took told =
    ap (λ (same : List (ℕ × Request)). steps_seen same ++ map in_one_session (steps_seen rest)) grown
    ∙ moves done rest session request
    ∙ ap (λ (some : List (ℕ × Request)). steps_seen done ++ map in_one_session (steps_seen some)) (sym took)
    ∙ told

-- What is read of the project's script, in one session

abbrev steps_in : Result (List Step) ScriptFault → List Step
steps_in (Ok steps) = steps
steps_in (Err fault) = []

pub read_is : (number topics : ℕ) (text : Bytes) (steps same : List Step) → 1 ≤ topics → topics ≤ 4000
    → text ≡ project number topics → script_of text ≡ Ok steps → same ≡ map in_one_session steps
    → same ≡ trial_steps number topics
read_is number topics text steps same some few is read one =
    let are : steps ≡ project_steps number topics =
    ap steps_in (sym read ∙ ap script_of is ∙ project_read number topics some few) in
    one ∙ ap (map in_one_session) are
