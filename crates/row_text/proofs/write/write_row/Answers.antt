use Rattle.std.proofs.Common.{◌≡◌, ◌++◌, ◌∙◌, [], ap, codes, subst}
use Rattle.std.specs.Fmt.{decimal}
use Rattle.dita_doc.specs.Lines.{line}
use Rattle.facts.specs.Rows.{row_data}
use Rattle.facts.specs.declared.fact.Fact.{Fact}
use Rattle.row_text.specs.RowWritten.{bytes_of, front_text, index_of}
use Rattle.row_text.proofs.RowLaws.{row_formed, row_whole, row_written}
use Rattle.transcript_text.specs.Transcript.{Fits32, IsNameShown, IsValShown}
use Rattle.row_text.proofs.write.write_row.Goals as goal

pub returns-clause-text : goal.returns-clause-text
returns-clause-text c =
    let serial = c.args.row.now.serial in
    let front = subst (λ (fact : Fact). c.append_front.new.out ≡ [] ++ front_text serial fact.key) c.deref-2.ensures
    (subst (λ old. c.append_front.new.out ≡ old ++ front_text serial c.deref-2.result.now.key) c.new-out.ensures
    c.in_ok-append_front.ensures.text) in
    let count = subst (λ (fact : Fact). c.append_count.new.out
    ≡ c.append_front.new.out ++ line (decimal (index_of fact.key.part) ++ codes " " ++ decimal c.count_lines.result))
    c.deref-3.ensures c.in_ok-append_count.ensures.text in
    row_written (row_data c.args.row.now) _ _ _ c.bytes_of-bytes.result.now c.count_lines.result front count
    c.in_ok-append_lines.ensures c.count_lines.ensures (c.bytes_of-bytes.ensures ∙ ap bytes_of c.deref.ensures)

pub returns-clause-form : goal.returns-clause-form
returns-clause-form c = λ utf8.
    row_formed (row_data c.args.row.now) c.bytes_of-bytes.result.now c.count_lines.result
    c.in_ok-append_front.ensures.serial
    (subst (λ (fact : Fact). IsNameShown fact.key.map) c.deref-2.ensures c.in_ok-append_front.ensures.map)
    (subst (λ (fact : Fact). IsValShown fact.key.val) c.deref-2.ensures c.in_ok-append_front.ensures.val)
    (subst (λ (fact : Fact). Fits32 (index_of fact.key.part)) c.deref-3.ensures c.in_ok-append_count.ensures.index)
    c.count_lines.ensures c.in_ok-append_count.ensures.count
    (c.bytes_of-bytes.ensures ∙ ap bytes_of c.deref.ensures) utf8

pub returns-clause-whole : goal.returns-clause-whole
returns-clause-whole c = row_whole (row_data c.args.row.now) c.requires.page
