-- What a trial counts (own): the requests of its history, the builds, and the pages and the faults of all builds.
use Rattle.std.specs.Prelude.{◌++◌, ℕ, Some, codes, length}
use Rattle.std.specs.Fmt.{decimal}
use Rattle.dita_doc.specs.Bytes.{Bytes}
use Rattle.dita_doc.specs.Lines.{line}
use Rattle.desk_work.specs.Build.{outcome_seen}
use Rattle.desk_work.specs.declared.built.Outcome.{Outcome}
use Rattle.run_spec.specs.Answers.{pages_built}
use Rattle.run_spec.specs.EndsTrial.{faults_in}
use Rattle.desk_top.specs.declared.callers.BuiltAt.{BuiltAt}

-- how many pages and faults a build gave
abbrev pub pages_of : Outcome → ℕ
pages_of outcome = length (pages_built (Some (outcome_seen outcome)))

abbrev pub faults_of : Outcome → ℕ
faults_of outcome = faults_in (Some (outcome_seen outcome))

abbrev pub pages_given : BuiltAt → ℕ
pages_given built = pages_of built.outcome

abbrev pub faults_given : BuiltAt → ℕ
faults_given built = faults_of built.outcome

-- the line of a trial with these counts, in two pieces
abbrev pub counts_front : (number topics entries : ℕ) → Bytes
counts_front number topics entries =
    codes "trial " ++ decimal number ++ codes " " ++ decimal topics ++ codes " entries " ++ decimal entries

abbrev pub counts_back : (builds pages faults : ℕ) → Bytes
counts_back builds pages faults =
    line (codes " builds " ++ decimal builds ++ codes " pages " ++ decimal pages ++ codes " faults " ++ decimal faults)

abbrev pub counts_line : (number topics entries builds pages faults : ℕ) → Bytes
counts_line number topics entries builds pages faults =
    counts_front number topics entries ++ counts_back builds pages faults
