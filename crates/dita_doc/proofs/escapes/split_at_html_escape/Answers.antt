use native.Mathlib.Numerals.{unary_clauses}
use Rattle.std.proofs.lemmas.Str.{IsCharBoundary-after_ascii}
use Rattle.dita_doc.specs.HtmlEscapes.{escaped_byte}
use Rattle.dita_doc.proofs.EscapeLaws.{escape_at}
use Rattle.dita_doc.proofs.escapes.split_at_html_escape.Goals as goal

pub range_from-requires : goal.range_from-requires
range_from-requires c some =
    let less = rw c.as_bytes-byte-items.ensures.value at c.loop-at-test.true in
    let low = rw c.as_bytes-byte-items.ensures.value at c.in-Some.ensures.ascii in
    IsCharBoundary-after_ascii c.args.text.now c.loop-at.at c.utf8.text less low

pub returns-in-Some-clause-whole : goal.returns-in-Some-clause-whole
returns-in-Some-clause-whole c =
    let less = rw c.as_bytes-byte-items.ensures.value at c.loop-at-test.true in
    let escape = rw c.as_bytes-byte-items.ensures.value at c.in-Some.ensures.escape in
    let cut = escape_at escaped_byte c.args.text.now c.loop-at.at _ less escape c.loop-at.invariant in
    rw (c.range.ensures.value, c.range_from.ensures.value) (simp unary_clauses (simp unary_clauses at cut))
