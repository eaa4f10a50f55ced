use Rattle.std.proofs.Common.{◌∙◌, ◌++◌, [], ◌∷◌, All, subst, sym}
use Rattle.std.proofs.lemmas.List.Elements.{All-push}
use Rattle.desk_session.proofs.Lists.{map_more, take_one}
use Rattle.desk_session.specs.Asking.{HasHtml, page_marked}
use Rattle.desk_session.proofs.answer.marks_of.Goals as goal

pub loop-page-preserved : goal.loop-page-preserved
loop-page-preserved c =
    let pages = c.args.pages.now in
    let index = c.loop-page.page-index in
    let page = c.page-item.result in
    record {
      marks = c.in_ok-push.ensures
          ∙ (λ i. c.loop-page.invariant.marks i ++ c.in_ok-mark_of.ensures.mark i ∷ [])
          ∙ sym (map_more page_marked pages index page c.loop-page-test.true c.page-item.is);
      have = subst (All HasHtml) (sym (take_one pages index page c.loop-page-test.true c.page-item.is))
          (All-push HasHtml _ page c.loop-page.invariant.have c.in_ok-mark_of.ensures.has);
    }
