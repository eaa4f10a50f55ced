use Rattle.std.proofs.Common.{arith}
use Rattle.transcript_text.proofs.WrittenForm.{name_is_shown, detail_is_shown}
use Rattle.transcript_text.proofs.write.keeps_to_form.Goals as goal

pub returns : goal.returns
returns c = record {
  name = name_is_shown c.args.fault.now.name c.as_bytes.ensures.name c.as_bytes.ensures.utf8;
  line = omega arith;
  detail = detail_is_shown c.args.fault.now.detail c.as_bytes-2.ensures.utf8;
}
