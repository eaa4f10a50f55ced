use Rattle.std.proofs.Common.{◌<◌, ◌^◌, arith, sym, subst}
use Rattle.std.proofs.lemmas.Grind.{common_steps}
use Rattle.std.proofs.lemmas.List.{length-map}
use Rattle.dita_doc.specs.Seen.{read_seen}
use Rattle.transcript_text.specs.Transcript.{IsNameLine}
use Rattle.transcript_text.proofs.WrittenForm.{first_more, first_all}
use Rattle.transcript_text.proofs.write.append_names.Goals as goal

pub loop-read-preserved : goal.loop-read-preserved
loop-read-preserved c = record {
  text = grind (arith, common_steps);
  form = first_more IsNameLine read_seen c.args.names.now c.loop-read.read-index c.read-item.result (omega arith)
      c.read-item.is c.loop-read.invariant.form c.in_ok-append_name.ensures.form;
}

pub returns-clause-form : goal.returns-clause-form
returns-clause-form c = (
  subst (λ n. n < 2 ^ 64) (sym (length-map c.args.names.now read_seen)) c.in_ok-append_number.ensures.fits,
  first_all IsNameLine read_seen c.args.names.now c.loop-read.read-index (omega arith) c.loop-read.invariant.form,
)
