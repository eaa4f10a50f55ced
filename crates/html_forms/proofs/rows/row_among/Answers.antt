use Rattle.std.proofs.Common.{None, Some}
use Rattle.dita_doc.specs.ClassValue.{words_of}
use Rattle.html_forms.specs.Shown.{row_among, row_found, row_shown_of}
use Rattle.html_spec.specs.Blocks.{row_of}
use Rattle.html_forms.proofs.RowLaws.{row_last, row_more}
use Rattle.html_forms.proofs.rows.row_among.Goals as goal

pub loop-word-preserved-in-Some-row_named : goal.loop-word-preserved-in-Some-row_named
loop-word-preserved-in-Some-row_named c =
    row_more row_of (row_among (words_of c.args.tokens.now)) (words_of c.loop-word.rest.now)
    (words_of c.in-Some.more.now) c.in-Some.word.now (Some (row_shown_of c.in-Some-row_named.row))
    (row_found c.loop-word.last) c.loop-word.invariant c.in-Some.ensures.words c.in-Some-row_named.ensures

pub loop-word-preserved : goal.loop-word-preserved
loop-word-preserved c =
    row_more row_of (row_among (words_of c.args.tokens.now)) (words_of c.loop-word.rest.now)
    (words_of c.in-Some.more.now) c.in-Some.word.now None
    (row_found c.loop-word.last) c.loop-word.invariant c.in-Some.ensures.words c.in_default-row_named.ensures

pub returns : goal.returns
returns c =
    row_last row_of (row_among (words_of c.args.tokens.now)) (words_of c.loop-word.rest.now)
    (row_found c.loop-word.last) c.loop-word.invariant c.in_default.ensures
