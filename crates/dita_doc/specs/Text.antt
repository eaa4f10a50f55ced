-- Where the bytes of a text lie: in the text itself, or in memory of their own.
use Rattle.std.specs.Prelude.{ℕ, List}
use Rattle.std.specs.String.{string_bytes}
use Rattle.dita_doc.specs.declared.text.Content.{Content}
use Rattle.dita_doc.specs.declared.text.Content.TheVariants as contents

abbrev pub content_bytes : Content → List ℕ
content_bytes (contents.Short alloc short) = short.bytes
content_bytes (contents.Long long) = string_bytes long
