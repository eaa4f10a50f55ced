-- What was read of a source: at most so many bytes, and all of them if there are fewer.
use Rattle.std.specs.Prelude.{◌≤◌, ◌<◌, ℕ, Option, length}
use Rattle.std.specs.Io.KnownBytes.{Consumes, IsAtEnd}
use Rattle.dita_doc.specs.Bytes.{Bytes}

pub record Reads (limit : ℕ) (old new : Option Bytes) (input : Bytes) : Type 0 where
  pub gave : Consumes old new input
  pub within : length input ≤ limit
  pub whole : length input < limit → IsAtEnd new
