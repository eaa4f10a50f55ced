-- What a sink took of a text that was written to it: all of it, or its beginning.
use Rattle.std.specs.Prelude.{◌≡◌, ℕ, Option}
use Rattle.std.specs.Io.KnownBytes.{Appends}
use Rattle.dita_doc.specs.Bytes.{Bytes}
use Rattle.dita_outside.specs.Cause.{Rose}
use Rattle.dita_outside.specs.Taken.{AppendsFront}
use Rattle.run_spec.specs.declared.status.Status.{Status}
use Rattle.run_spec.specs.declared.status.Status.TheVariants as statuses

-- what a sink tells at one moment: the bytes that it took, if it tells them, and its count of faults
pub record Sunk : Type 0 where
  pub taken : Option Bytes
  pub faults : ℕ

-- The end of a run that takes a sink alone, and writes this text: the sink took it and nothing else, and did not fail;
-- or it failed, or memory ran out, and it took the beginning of the text.
abbrev pub EndsWriting : Bytes → Sunk → Sunk → Status → Type 0
EndsWriting text old new statuses.Done = Appends old.taken new.taken text × (new.faults ≡ old.faults)
EndsWriting text old new statuses.WriteFault = AppendsFront old.taken new.taken text × Rose old.faults new.faults
EndsWriting text old new statuses.NoMemory = AppendsFront old.taken new.taken text
EndsWriting text old new statuses.Words = ⊥
EndsWriting text old new statuses.ReadFault = ⊥
EndsWriting text old new statuses.Script = ⊥
EndsWriting text old new statuses.OutletFault = ⊥
EndsWriting text old new statuses.Port = ⊥
