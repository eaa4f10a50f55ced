-- What a sink took of bytes that were written to it: all of them (`Appends`), or their beginning.
use Rattle.std.specs.Prelude.{◌≡◌, ◌++◌, Option}
use Rattle.std.specs.Io.KnownBytes.{Appends}
use Rattle.dita_doc.specs.Bytes.{Bytes}

-- the sink took the beginning of the bytes, perhaps nothing of it and perhaps all
abbrev pub AppendsFront : Option Bytes → Option Bytes → Bytes → Type 0
AppendsFront old new bytes = (front back : Bytes) × (bytes ≡ front ++ back) × Appends old new front
