use Rattle.std.proofs.Common.{sym, ap, ◌∙◌}
use Rattle.map_spec.specs.Titles.{title_in}
use Rattle.readers.proofs.DocumentLaws.{asks_after}
use Rattle.readers.proofs.FoundedLaws.{stays_after, stays_one}
use Rattle.readers.proofs.GrowthLaws.{agrees_before, grows_trans, told_answer}
use Rattle.clean_build.proofs.TermLaws.{all_titles, document_among, next_title}
use Rattle.clean_build.proofs.terms.titles_of.Goals as goal

pub loop-page-preserved : goal.loop-page-preserved
loop-page-preserved g c =
    let pages = c.args.pages.now in
    let at = c.loop-page.page-index in
    let page = c.page-item.result in
    let among = document_among pages at page c.loop-page-test.true c.page-item.is in record {
      known = λ world agrees.
          next_title world pages at page _ _ _ c.loop-page-test.true c.page-item.is
          (c.loop-page.invariant.known world (agrees_before world _ _ c.in_ok-title.ensures.grows agrees))
          c.in_ok-push.ensures (sym (told_answer world _ _ _ c.in_ok-title.ensures.told agrees)
          ∙ ap (title_in world page.id.doc) c.new-no_topic.ensures);
      stand = c.in_ok-title.ensures.stand ∙ c.loop-page.invariant.stand;
      founded = stays_after _ _ _ _ c.loop-page.invariant.grows c.loop-page.invariant.founded
          (stays_one page.id.doc _ _ _ among c.in_ok-title.ensures.founded);
      asks = asks_after _ _ _ _ _ c.loop-page.invariant.grows c.loop-page.invariant.asks c.in_ok-title.ensures.asks;
      grows = grows_trans _ _ _ c.loop-page.invariant.grows c.in_ok-title.ensures.grows;
    }

pub returns-clause-known : goal.returns-clause-known
returns-clause-known g c = λ world agrees. all_titles world c.args.pages.now c.loop-page.page-index c.loop-page.titles
    c.loop-page-test.false (c.loop-page.invariant.known world agrees)

pub returns-in_err-title-clause-founded : goal.returns-in_err-title-clause-founded
returns-in_err-title-clause-founded g c =
    stays_after _ _ _ _ c.loop-page.invariant.grows c.loop-page.invariant.founded
    (stays_one c.page-item.result.id.doc _ _ _ (document_among c.args.pages.now c.loop-page.page-index c.page-item.result
    c.loop-page-test.true c.page-item.is) c.title.ensures.founded)

pub returns-in_err-push-clause-founded : goal.returns-in_err-push-clause-founded
returns-in_err-push-clause-founded g c =
    stays_after _ _ _ _ c.loop-page.invariant.grows c.loop-page.invariant.founded
    (stays_one c.page-item.result.id.doc _ _ _ (document_among c.args.pages.now c.loop-page.page-index c.page-item.result
    c.loop-page-test.true c.page-item.is) c.title.ensures.founded)

pub returns-clause-founded : goal.returns-clause-founded
returns-clause-founded g c = c.loop-page.invariant.founded

pub returns-in_err-title-clause-asks : goal.returns-in_err-title-clause-asks
returns-in_err-title-clause-asks g c =
    asks_after _ _ _ _ _ c.loop-page.invariant.grows c.loop-page.invariant.asks c.title.ensures.asks

pub returns-in_err-push-clause-asks : goal.returns-in_err-push-clause-asks
returns-in_err-push-clause-asks g c =
    asks_after _ _ _ _ _ c.loop-page.invariant.grows c.loop-page.invariant.asks c.title.ensures.asks

pub returns-clause-asks : goal.returns-clause-asks
returns-clause-asks g c = c.loop-page.invariant.asks

pub returns-in_err-title-clause-grows : goal.returns-in_err-title-clause-grows
returns-in_err-title-clause-grows g c = grows_trans _ _ _ c.loop-page.invariant.grows c.title.ensures.grows

pub returns-in_err-push-clause-grows : goal.returns-in_err-push-clause-grows
returns-in_err-push-clause-grows g c = grows_trans _ _ _ c.loop-page.invariant.grows c.title.ensures.grows

pub returns-clause-grows : goal.returns-clause-grows
returns-clause-grows g c = c.loop-page.invariant.grows

pub returns-in_err-title-clause-stand : goal.returns-in_err-title-clause-stand
returns-in_err-title-clause-stand g c = c.title.ensures.stand ∙ c.loop-page.invariant.stand

pub returns-in_err-push-clause-stand : goal.returns-in_err-push-clause-stand
returns-in_err-push-clause-stand g c = c.title.ensures.stand ∙ c.loop-page.invariant.stand
