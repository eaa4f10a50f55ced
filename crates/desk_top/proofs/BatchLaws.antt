-- How a run of many threads ends, from what was read and written.
use Rattle.std.proofs.Common.{◌≡◌, List, Result, Ok, Err, sym, refl, subst, inl, inr}
use Rattle.dita_doc.specs.Bytes.{Bytes}
use Rattle.run_spec.specs.CleanRun.{read_limit}
use Rattle.run_spec.specs.EndsBatch.{AnswersBatch, BatchOver, EndsBatch, IsBatchOf, Streams}
use Rattle.run_spec.specs.Reads.{Reads}
use Rattle.run_spec.specs.declared.status.Status.{Status}
use Rattle.script_text.specs.Script.{Step, script_of}
use Rattle.script_text.specs.declared.fault.ScriptFault.{ScriptFault}
use Rattle.desk_top.specs.Ends.{WritesLast}

-- the output was written whole: the run ends as its output is told
whole : (old new : Streams) (found : Result (List Step) ScriptFault) (status : Status) (output : Bytes)
    → IsBatchOf found status output → AnswersBatch old new status → EndsBatch old new status
whole old new (Ok steps) status output is =
    subst (λ (s : Status). AnswersBatch old new s → EndsBatch old new s) (sym is.0) (λ run. run)
whole old new (Err fault) status output is =
    subst (λ (s : Status). AnswersBatch old new s → EndsBatch old new s) (sym is.0) (λ run. run)

-- the output was written, or its beginning
pub batch_written : (old new : Streams) (input output : Bytes) (status result : Status)
    → Reads read_limit old.left new.left input → IsBatchOf (script_of input) status output
    → new.read_faults ≡ old.read_faults
    → WritesLast old.taken new.taken old.write_faults new.write_faults output status result → EndsBatch old new result
batch_written old new input output status result read is same (inl w) =
    let run : BatchOver old new = record { input = input; read = read; status = status; output = output; is = is } in
    subst (λ (s : Status). EndsBatch old new s) (sym w.1)
    (whole old new (script_of input) status output is
    (record { run = run; same = refl; output = w.0; source = same; sink = w.2 }))
batch_written old new input output status result read is same (inr (front, inl w)) =
    let run : BatchOver old new = record { input = input; read = read; status = status; output = output; is = is } in
    subst (λ (s : Status). EndsBatch old new s) (sym w.1) (w.0, (run, front))
batch_written old new input output status result read is same (inr (front, inr e)) =
    let run : BatchOver old new = record { input = input; read = read; status = status; output = output; is = is } in
    subst (λ (s : Status). EndsBatch old new s) (sym e) (inr (run, front))
