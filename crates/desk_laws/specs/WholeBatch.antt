-- What a batch over a source that tells its bytes comes to.
use Rattle.std.specs.Prelude.{◌≡◌, Some, []}
use Rattle.std.specs.Io.KnownBytes.{Appends}
use Rattle.dita_doc.specs.Bytes.{Bytes}
use Rattle.dita_outside.specs.Cause.{Rose}
use Rattle.run_spec.specs.EndsBatch.{Streams}
use Rattle.run_spec.specs.Faithful.{IsFaithfulTo}

-- It is done: the source was read to its end, what it held is a script, and the sink took a faithful transcript of it and
-- nothing else.
pub record IsDoneBatch (held : Bytes) (old new : Streams) : Type 0 where
  pub ended : new.left ≡ Some []
  pub text : Bytes
  pub output : Appends old.taken new.taken text
  pub faithful : IsFaithfulTo held text

-- no count rose, and none stands at the last value of a counter
pub record NeitherFailed (old new : Streams) : Type 0 where
  pub of_source : Rose old.read_faults new.read_faults → ⊥
  pub of_sink : Rose old.write_faults new.write_faults → ⊥
