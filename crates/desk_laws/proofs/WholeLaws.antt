-- A run over a source that tells its bytes is the run over all of them.
use Rattle.std.specs.Prelude.{◌≡◌, ◌+◌, ◌<◌, ◌≤◌, ◌⊎◌, ℕ, Bool, true, false, List, [], ◌++◌, Option, Some, None, Result, Ok, Err, length, take, nat_lt}
use Rattle.std.specs.Io.KnownBytes.{Appends}
use Rattle.std.proofs.Common.{refl, sym, ◌∙◌, ap, subst, arith, append-nil, length-append, length-take, take-take, take_at, take_all, inl, inr}
use Rattle.std.proofs.lemmas.Bool.{ltb-true, ltb-false}
use Rattle.std.proofs.lemmas.Bool.Decides.{nat_tests}
use Rattle.dita_doc.specs.Bytes.{Bytes}
use Rattle.dita_doc.specs.Lines.{lines_of}
use Rattle.dita_outside.specs.Pages.{Pages, TakesPages}
use Rattle.run_spec.specs.CleanRun.{HasForm, run_of, run_over, read_limit}
use Rattle.run_spec.specs.declared.status.Status.{Status}
use Rattle.run_spec.specs.declared.status.Status.TheVariants as statuses
use Rattle.script_text.specs.Script.{Step, script_line, steps_from, script_limit, script_of}
use Rattle.script_text.specs.declared.fault.ScriptFault.{ScriptFault}
use Rattle.script_text.proofs.ScriptLaws.{script_short}
use Rattle.desk_top.specs.Ends.{AnswersWhole, EndsRun}
use Rattle.desk_top.specs.Outside.{Change}
use Rattle.run_spec.specs.Reads.{Reads}
use Rattle.desk_laws.specs.SureRun.{IsSure, NoneFailed}
use Rattle.desk_laws.specs.WholeRun.{EndsAsAll, IsAnswered, IsDone}
use Rattle.desk_laws.proofs.HistoryLaws.{told_once, one_history}

-- The bytes behind the first one too many

same_long : (limit : ℕ) (bytes : Bytes) → nat_lt limit (length (take (limit + 1) bytes)) ≡ nat_lt limit (length bytes)
same_long limit bytes = grind (arith, nat_tests, length-take)

cut_steps : (limit : ℕ) (bytes : Bytes)
    → steps_from script_line (nat_lt limit (length (take (limit + 1) bytes))) 0 0 None
    (lines_of (take (limit + 1) (take (limit + 1) bytes)))
    ≡ steps_from script_line (nat_lt limit (length bytes)) 0 0 None (lines_of (take (limit + 1) bytes))
cut_steps limit bytes =
    ap (λ long. steps_from script_line long 0 0 None (lines_of (take (limit + 1) (take (limit + 1) bytes))))
    (same_long limit bytes)
    ∙ ap (λ text. steps_from script_line (nat_lt limit (length bytes)) 0 0 None (lines_of text))
    (take-take (limit + 1) (limit + 1) bytes (omega arith))

pub cut_script : (bytes : Bytes) → script_of (take (script_limit + 1) bytes) ≡ script_of bytes
unfolding script_of
cut_script bytes = cut_steps script_limit bytes

pub cut_run : (with_terms : Bool) (bytes : Bytes)
    → run_over with_terms (take read_limit bytes) ≡ run_over with_terms bytes
unfolding run_over
cut_run with_terms bytes = ap (run_of with_terms) (cut_script bytes)

-- What was read

front_by : (limit : ℕ) (held input left : Bytes) (less : Bool) → held ≡ input ++ left → length input ≤ limit
    → (length input < limit → left ≡ []) → nat_lt (length input) limit ≡ less → input ≡ take limit held
front_by limit held input left true whole within ended l =
    let none : left ≡ [] = ended (ltb-true _ _ l) in
    let all : held ≡ input = rw none at whole ∙ append-nil input in
    rw all (sym (take_all limit input within))
front_by limit held input left false whole within ended l =
    let full = ltb-false (length input) limit l in
    let count : length input ≡ limit = omega arith in
    rw whole (sym (take_at input left limit count))

pub front_read : (held input : Bytes) (new : Option Bytes) → Reads read_limit (Some held) new input
    → input ≡ take read_limit held
front_read held input None read = absurd read.gave
front_read held input (Some left) read = front_by read_limit held input left _ read.gave read.within read.whole refl

pub same_run : (with_terms : Bool) (source : Change Bytes) (held input : Bytes) → source.before ≡ Some held
    → Reads read_limit source.before source.after input → run_over with_terms input ≡ run_over with_terms held
same_run with_terms source held input tells read =
    let front =
    front_read held input source.after (subst (λ left. Reads read_limit left source.after input) tells read) in
    ap (run_over with_terms) front ∙ cut_run with_terms held

-- a run that answered a source ended as all of its bytes say
pub answered_whole : (with_terms : Bool) (source sink : Change Bytes) (outlet : Change Pages) (held : Bytes)
    (status : Status) → source.before ≡ Some held → AnswersWhole with_terms status source sink outlet
    → EndsAsAll with_terms held sink outlet status
answered_whole with_terms source sink outlet held status tells run =
    let same = same_run with_terms source held run.input tells run.read in
    record {
      ends = sym run.is ∙ ap (λ own. own.status) same;
      pages = subst (TakesPages outlet.before outlet.after) (ap (λ own. own.pages) same) run.pages;
      output = subst (Appends sink.before sink.after) (ap (λ own. own.output) same) run.output;
    }

-- A run that is done

done_steps : (with_terms : Bool) (found : Result (List Step) ScriptFault) → statuses.Done ≡ (run_of with_terms found).status
    → (steps : List Step) × (found ≡ Ok steps)
done_steps with_terms (Ok steps) e = (steps, refl)
done_steps with_terms (Err fault) e = absurd cc

-- a script is read to the end of its source
pub record IsReadWhole (held input : Bytes) (new : Option Bytes) : Type 0 where
  pub ended : new ≡ Some []
  pub all : input ≡ held

pub read_whole : (limit : ℕ) (held input : Bytes) (new : Option Bytes) → Reads (limit + 1) (Some held) new input
    → length held ≤ limit → IsReadWhole held input new
read_whole limit held input None read short = absurd read.gave
read_whole limit held input (Some left) read short =
    let whole : held ≡ input ++ left = read.gave in
    let size : length held ≡ length input + length left = ap length whole ∙ length-append input left in
    let none : left ≡ [] = read.whole (omega arith) in
    record { ended = ap Some none; all = sym (rw none at whole ∙ append-nil input) }

pub done_whole : (with_terms : Bool) (source sink : Change Bytes) (outlet : Change Pages) (held : Bytes)
    → source.before ≡ Some held → AnswersWhole with_terms statuses.Done source sink outlet
    → IsDone with_terms held source sink outlet
unfolding run_over
done_whole with_terms source sink outlet held tells run =
    let all = answered_whole with_terms source sink outlet held statuses.Done tells run in
    let found = done_steps with_terms (script_of held) all.ends in
    let answers = ap (run_of with_terms) found.1 in
    let read = read_whole script_limit held run.input source.after
    (subst (λ left. Reads read_limit left source.after run.input) tells run.read) (script_short held found.0 found.1) in
    let form = subst HasForm (ap script_of read.all ∙ found.1) run.form in
    record {
      ended = read.ended;
      steps = found.0;
      script = found.1;
      pages = subst (TakesPages outlet.before outlet.after) (ap (λ own. own.pages) answers) all.pages;
      output = subst (Appends sink.before sink.after) (ap (λ own. own.output) answers) all.output;
      told = told_once found.0 form;
      history = one_history found.0;
    }

-- By the status

pub answered_all : (with_terms : Bool) (source sink : Change Bytes) (outlet : Change Pages) (status : Status)
    (held : Bytes) → IsAnswered status → source.before ≡ Some held → EndsRun with_terms source sink outlet status
    → EndsAsAll with_terms held sink outlet status
answered_all with_terms source sink outlet status held (inl is) tells ends =
    rw is (answered_whole with_terms source sink outlet held statuses.Done tells (rw is at ends))
answered_all with_terms source sink outlet status held (inr is) tells ends =
    rw is (answered_whole with_terms source sink outlet held statuses.Script tells (rw is at ends))

pub sure_status : (with_terms : Bool) (source sink : Change Bytes) (outlet : Change Pages) (status : Status)
    → NoneFailed source sink outlet → EndsRun with_terms source sink outlet status → IsSure status
sure_status with_terms source sink outlet statuses.Done none ends = tt
sure_status with_terms source sink outlet statuses.Script none ends = tt
sure_status with_terms source sink outlet statuses.NoMemory none ends = tt
sure_status with_terms source sink outlet statuses.ReadFault none ends = none.of_source ends.0
sure_status with_terms source sink outlet statuses.OutletFault none ends = none.of_outlet ends.rose
sure_status with_terms source sink outlet statuses.WriteFault none ends = none.of_sink ends.rose
sure_status with_terms source sink outlet statuses.Words none ends = ends
sure_status with_terms source sink outlet statuses.Port none ends = ends

pub sure_whole : (with_terms : Bool) (source sink : Change Bytes) (outlet : Change Pages) (status : Status)
    (held : Bytes) → NoneFailed source sink outlet → source.before ≡ Some held
    → EndsRun with_terms source sink outlet status
    → (status ≡ statuses.NoMemory) ⊎ EndsAsAll with_terms held sink outlet status
sure_whole with_terms source sink outlet statuses.Done held none tells ends =
    inr (answered_whole with_terms source sink outlet held statuses.Done tells ends)
sure_whole with_terms source sink outlet statuses.Script held none tells ends =
    inr (answered_whole with_terms source sink outlet held statuses.Script tells ends)
sure_whole with_terms source sink outlet statuses.NoMemory held none tells ends = inl refl
sure_whole with_terms source sink outlet statuses.ReadFault held none tells ends = absurd (none.of_source ends.0)
sure_whole with_terms source sink outlet statuses.OutletFault held none tells ends = absurd (none.of_outlet ends.rose)
sure_whole with_terms source sink outlet statuses.WriteFault held none tells ends = absurd (none.of_sink ends.rose)
sure_whole with_terms source sink outlet statuses.Words held none tells ends = absurd ends
sure_whole with_terms source sink outlet statuses.Port held none tells ends = absurd ends
