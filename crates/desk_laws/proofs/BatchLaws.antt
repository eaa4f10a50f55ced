-- A batch over a source that tells its bytes is the batch over all of them.
use Rattle.std.specs.Prelude.{◌≡◌, ◌⊎◌, List, Result, Ok, Err, Some}
use Rattle.std.proofs.Common.{refl, sym, ◌∙◌, ap, subst, inl, inr}
use Rattle.dita_doc.specs.Bytes.{Bytes}
use Rattle.run_spec.specs.CleanRun.{read_limit}
use Rattle.run_spec.specs.EndsBatch.{AnswersBatch, BatchOver, EndsBatch, IsBatchOf, Streams}
use Rattle.run_spec.specs.Faithful.{IsFaithful}
use Rattle.run_spec.specs.Language.{dita}
use Rattle.run_spec.specs.Reads.{Reads}
use Rattle.run_spec.specs.declared.status.Status.{Status}
use Rattle.run_spec.specs.declared.status.Status.TheVariants as statuses
use Rattle.script_text.proofs.ScriptLaws.{script_short}
use Rattle.script_text.specs.Script.{Step, script_limit, script_of}
use Rattle.script_text.specs.declared.fault.ScriptFault.{ScriptFault}
use Rattle.desk_laws.specs.SureRun.{IsSure}
use Rattle.desk_laws.specs.WholeBatch.{IsDoneBatch, NeitherFailed}
use Rattle.desk_laws.proofs.WholeLaws.{cut_script, front_read, read_whole}

-- a batch that is done has a script, and a faithful transcript of it
done_by : (found : Result (List Step) ScriptFault) (status : Status) (output : Bytes) → IsBatchOf found status output
    → status ≡ statuses.Done → (steps : List Step) × (found ≡ Ok steps) × IsFaithful dita steps output
done_by (Ok steps) status output is done = (steps, refl, is.1)
done_by (Err fault) status output is done =
    let other : statuses.Done ≡ statuses.Script = sym done ∙ is.0 in absurd cc

-- over a script a batch has no other status
only_done : (found : Result (List Step) ScriptFault) (steps : List Step) (status : Status) (output : Bytes)
    → IsBatchOf found status output → found ≡ Ok steps → status ≡ statuses.Done
only_done found steps status output is e = (subst (λ own. IsBatchOf own status output) e is).0

module _ (old new : Streams) (held : Bytes) (tells : old.left ≡ Some held) where
  read_of_held : (run : BatchOver old new) → Reads read_limit (Some held) new.left run.input
  read_of_held run = subst (λ left. Reads read_limit left new.left run.input) tells run.read

  same_script : (run : BatchOver old new) → script_of run.input ≡ script_of held
  same_script run = ap script_of (front_read held run.input new.left (read_of_held run)) ∙ cut_script held

  pub done_batch : EndsBatch old new statuses.Done → IsDoneBatch held old new
  done_batch ends =
      let by = done_by (script_of ends.run.input) ends.run.status ends.run.output ends.run.is ends.same in
      let script : script_of held ≡ Ok by.0 = sym (same_script ends.run) ∙ by.1 in
      record {
        ended = (read_whole script_limit held ends.run.input new.left (read_of_held ends.run)
            (script_short held by.0 script)).ended;
        text = ends.run.output;
        output = ends.output;
        faithful = record { steps = by.0; are = script; faithful = by.2 };
      }

  pub sure_done : (steps : List Step) (status : Status) → script_of held ≡ Ok steps → NeitherFailed old new
      → EndsBatch old new status → (status ≡ statuses.NoMemory) ⊎ IsDoneBatch held old new
  sure_done steps statuses.Done script none ends = inr (done_batch ends)
  sure_done steps statuses.Script script none ends =
      let done = only_done (script_of ends.run.input) steps ends.run.status ends.run.output ends.run.is
      (same_script ends.run ∙ script) in
      let other : statuses.Script ≡ statuses.Done = sym ends.same ∙ done in absurd cc
  sure_done steps statuses.NoMemory script none ends = inl refl
  sure_done steps statuses.ReadFault script none ends = absurd (none.of_source ends.0)
  sure_done steps statuses.WriteFault script none ends = absurd (none.of_sink ends.0)
  sure_done steps statuses.OutletFault script none ends = absurd ends
  sure_done steps statuses.Words script none ends = absurd ends
  sure_done steps statuses.Port script none ends = absurd ends

pub sure_status : (old new : Streams) (status : Status) → NeitherFailed old new → EndsBatch old new status → IsSure status
sure_status old new statuses.Done none ends = tt
sure_status old new statuses.Script none ends = tt
sure_status old new statuses.NoMemory none ends = tt
sure_status old new statuses.ReadFault none ends = none.of_source ends.0
sure_status old new statuses.WriteFault none ends = none.of_sink ends.0
sure_status old new statuses.OutletFault none ends = ends
sure_status old new statuses.Words none ends = ends
sure_status old new statuses.Port none ends = ends
