-- How a run ends that takes a sink alone.
use Rattle.std.proofs.Common.{◌≡◌, [], Option, Some, None, refl, sym, inl, inr, append-nil}
use Rattle.std.specs.Io.KnownBytes.{Appends}
use Rattle.dita_doc.specs.Bytes.{Bytes}
use Rattle.run_spec.specs.Written.{EndsWriting, Sunk}
use Rattle.run_spec.specs.declared.status.Status.{Status}
use Rattle.run_spec.specs.declared.status.Status.TheVariants as statuses
use Rattle.desk_top.specs.Ends.{WritesLast}

-- a sink that stayed as it was took nothing
appends_none : (a : Option Bytes) → Appends a a []
appends_none None = tt
appends_none (Some a) = sym (append-nil a)

-- memory ran out before anything was written
pub nothing_written : (text : Bytes) (old : Sunk) → EndsWriting text old old statuses.NoMemory
nothing_written text old = ([], text, refl, appends_none old.taken)

-- the text was written last, or its beginning
pub text_written : (text output : Bytes) (old new : Sunk) (result : Status) → output ≡ text
    → WritesLast old.taken new.taken old.faults new.faults output statuses.Done result
    → EndsWriting text old new result
text_written text output old new result is (inl w) = rw (w.1, ← is) (w.0, w.2)
text_written text output old new result is (inr (front, inl w)) = rw (w.1, ← is) (front, w.0)
text_written text output old new result is (inr (front, inr e)) = rw (e, ← is) front
