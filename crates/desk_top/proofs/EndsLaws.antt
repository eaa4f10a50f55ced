-- How a run ends, from what was read, put and written.
use Rattle.std.proofs.Common.{◌≡◌, Bool, List, [], Option, Result, Ok, Err, refl, ap, sym, ◌∙◌, subst, inl, inr, append-nil}
use Rattle.std.specs.Io.KnownBytes.{Appends}
use Rattle.dita_doc.specs.Bytes.{Bytes}
use Rattle.dita_outside.specs.Pages.{Pages, TakesPages}
use Rattle.run_spec.specs.Answers.{answers_to}
use Rattle.run_spec.specs.CleanRun.{HasForm, run_answered, run_of, run_over, read_limit}
use Rattle.run_spec.specs.declared.status.Status.{Status}
use Rattle.run_spec.specs.declared.status.Status.TheVariants as statuses
use Rattle.script_text.specs.Faults.{rejection_line}
use Rattle.script_text.specs.Script.{Step, script_of}
use Rattle.script_text.specs.declared.fault.ScriptFault.{ScriptFault}
use Rattle.desk_top.specs.Ends.{EndsRun, FailsToWrite, NoneRose, StopsShort, WritesLast}
use Rattle.desk_top.specs.Outside.{Change}
use Rattle.run_spec.specs.Reads.{Reads}
use Rattle.desk_top.proofs.TakesLaws.{takes_none}

-- all was put and written: the run ends as it says
ends_whole : (with_terms : Bool) (source sink : Change Bytes) (outlet : Change Pages) (input : Bytes)
    → Reads read_limit source.before source.after input → HasForm (script_of input)
    → TakesPages outlet.before outlet.after (run_over with_terms input).pages
    → Appends sink.before sink.after (run_over with_terms input).output → NoneRose source sink outlet
    → (found : Result (List Step) ScriptFault) → script_of input ≡ found
    → EndsRun with_terms source sink outlet (run_of with_terms found).status
unfolding run_over
ends_whole with_terms source sink outlet input read form put written none (Err fault) e = record {
  input = input;
  read = read;
  is = ap (λ f. (run_of with_terms f).status) e;
  form = form;
  pages = put;
  output = written;
  sound = none;
}
ends_whole with_terms source sink outlet input read form put written none (Ok steps) e = record {
  input = input;
  read = read;
  is = ap (λ f. (run_of with_terms f).status) e;
  form = form;
  pages = put;
  output = written;
  sound = none;
}

-- all was put, and the output was written or not
pub ends_written : (with_terms : Bool) (source sink : Change Bytes) (outlet : Change Pages) (input output : Bytes)
    (status result : Status) → Reads read_limit source.before source.after input
    → (run_over with_terms input).status ≡ status → (run_over with_terms input).output ≡ output
    → HasForm (script_of input) → TakesPages outlet.before outlet.after (run_over with_terms input).pages
    → source.faults_after ≡ source.faults_before → outlet.faults_after ≡ outlet.faults_before
    → WritesLast sink.before sink.after sink.faults_before sink.faults_after output status result
    → EndsRun with_terms source sink outlet result
unfolding run_over
ends_written with_terms source sink outlet input output status result read is told form put read_same put_same (inl w) =
    let none : NoneRose source sink outlet =
    record { of_source = read_same; of_sink = w.2; of_outlet = put_same } in
    rw (w.1, ← is)
    (ends_whole with_terms source sink outlet input read form put (rw (← told) at w.0) none (script_of input) refl)
ends_written with_terms source sink outlet input output status result read is told form put read_same put_same
    (inr (front, inl w)) =
    let ends : FailsToWrite with_terms source sink outlet = record {
      rose = w.0;
      input = input;
      read = read;
      pages = put;
      output = rw (← told) at front;
    } in
    rw w.1 ends
ends_written with_terms source sink outlet input output status result read is told form put read_same put_same
    (inr (front, inr e)) =
    let ends : StopsShort with_terms source sink outlet = record {
      input = input;
      read = read;
      pages = ((run_over with_terms input).pages, [], sym (append-nil (run_over with_terms input).pages), put);
      output = rw (← told) at front;
    } in
    rw e (inr ends)

-- What a run over these bytes is

-- a script that is rejected
pub rejected_run : (with_terms : Bool) (input text : Bytes) (fault : ScriptFault) → script_of input ≡ Err fault
    → text ≡ rejection_line fault
    → ((run_over with_terms input).status ≡ statuses.Script) × ((run_over with_terms input).output ≡ text)
unfolding run_over
rejected_run with_terms input text fault e told = (
  ap (λ (read : Result (List Step) ScriptFault). (run_of with_terms read).status) e,
  ap (λ (read : Result (List Step) ScriptFault). (run_of with_terms read).output) e ∙ sym told,
)

-- it has no pages
pub rejected_pages : (with_terms : Bool) (input : Bytes) (fault : ScriptFault) (a : Option Pages)
    → script_of input ≡ Err fault → TakesPages a a (run_over with_terms input).pages
unfolding run_over
rejected_pages with_terms input fault a e =
    subst (λ (read : Result (List Step) ScriptFault). TakesPages a a (run_of with_terms read).pages)
    (sym e) (takes_none a)

-- one that is answered
pub answered_run : (with_terms : Bool) (input text : Bytes) (steps : List Step) → script_of input ≡ Ok steps
    → text ≡ (run_answered with_terms (answers_to steps)).output
    → ((run_over with_terms input).status ≡ statuses.Done) × ((run_over with_terms input).output ≡ text)
unfolding run_over
answered_run with_terms input text steps e told = (
  ap (λ (read : Result (List Step) ScriptFault). (run_of with_terms read).status) e,
  ap (λ (read : Result (List Step) ScriptFault). (run_of with_terms read).output) e ∙ sym told,
)

pub answered_pages : (with_terms : Bool) (input : Bytes) (steps : List Step) → script_of input ≡ Ok steps
    → (run_over with_terms input).pages ≡ (run_answered with_terms (answers_to steps)).pages
unfolding run_over
answered_pages with_terms input steps e =
    ap (λ (read : Result (List Step) ScriptFault). (run_of with_terms read).pages) e
