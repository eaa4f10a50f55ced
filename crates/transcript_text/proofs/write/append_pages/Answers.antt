use Rattle.std.proofs.Common.{arith}
use Rattle.std.proofs.lemmas.Grind.{common_steps}
use Rattle.transcript_text.specs.Transcript.{IsPageShown}
use Rattle.transcript_text.specs.Written.{page_shown}
use Rattle.transcript_text.proofs.WrittenForm.{first_more, first_all}
use Rattle.transcript_text.proofs.write.append_pages.Goals as goal

pub loop-page-preserved : goal.loop-page-preserved
loop-page-preserved c = record {
  text = grind (arith, common_steps);
  form = first_more IsPageShown page_shown c.args.pages.now c.loop-page.page-index c.page-item.result
      (omega arith) c.page-item.is c.loop-page.invariant.form c.in_ok-append_page.ensures.form;
}

pub returns-clause-form : goal.returns-clause-form
returns-clause-form c =
    first_all IsPageShown page_shown c.args.pages.now c.loop-page.page-index (omega arith)
    c.loop-page.invariant.form
