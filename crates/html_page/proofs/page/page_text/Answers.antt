use Rattle.std.proofs.Common.{◌∙◌}
use Rattle.std.proofs.lemmas.Result.{IfOk-weaker}
use Rattle.html_page.proofs.PageLaws.{text_written}
use Rattle.html_page.proofs.page.page_text.Goals as goal

pub returns : goal.returns
returns c =
    IfOk-weaker c.joined.result _ _ (λ page is. text_written page _ _ c.args.body.now _ _ _ is
    (c.as_bytes.ensures.value ∙ c.in_ok-before.ensures)
    (c.as_bytes-2.ensures.value ∙ c.in_ok-behind.ensures)) c.joined.ensures
