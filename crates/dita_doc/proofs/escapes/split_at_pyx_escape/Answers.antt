use Rattle.std.proofs.lemmas.List.{take_rest}
use Rattle.dita_doc.specs.PyxEscapes.{escaped_byte}
use Rattle.dita_doc.proofs.EscapeLaws.{escape_at, escaped_by_bytes}
use Rattle.dita_doc.proofs.escapes.split_at_pyx_escape.Goals as goal

pub returns-in-Some-clause-whole : goal.returns-in-Some-clause-whole
returns-in-Some-clause-whole c =
    let bytes = c.args.bytes.now in
    let cut = escape_at escaped_byte bytes c.loop-at.at _ c.loop-at-test.true c.in-Some.ensures c.loop-at.invariant in
    rw (take_rest, escaped_by_bytes bytes, escaped_by_bytes) cut
