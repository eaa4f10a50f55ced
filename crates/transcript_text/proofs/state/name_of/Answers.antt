use Rattle.std.proofs.lemmas.Str.{IsUtf8-from_is_utf8}
use Rattle.transcript_text.proofs.state.name_of.Goals as goal

pub from_bytes-requires : goal.from_bytes-requires
from_bytes-requires c = IsUtf8-from_is_utf8 c.args.bytes.now c.requires.utf8
