use Rattle.std.proofs.Common.{Err}
use Rattle.std.proofs.lemmas.Result.{err_from_is_err_and}
use Rattle.desk_work.proofs.DeliverLaws.{cause_from, put_front, puts_front}
use Rattle.desk_work.proofs.deliver.put_all.Goals as goal

pub returns-in_err-put_page-clause-pages : goal.returns-in_err-put_page-clause-pages
returns-in_err-put_page-clause-pages g c =
    puts_front _ _ _ _ c.from_residual.result c.from_residual.ensures.1
    (put_front c.loop-page.page-index c.args.pages.now _ _ _ c.loop-page.invariant.taken c.in_err-put_page.ensures.page)

pub returns-in_err-put_page-clause-cause : goal.returns-in_err-put_page-clause-cause
returns-in_err-put_page-clause-cause g c =
    let p = err_from_is_err_and c.from_residual.result c.from_residual.ensures.1 in
    rw (p.1, p.2) (cause_from _ _ _ (Err c.in_err-put_page.field-0.0) c.loop-page.invariant.counted
    c.in_err-put_page.ensures.cause)
