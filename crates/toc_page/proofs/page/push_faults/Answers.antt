use Rattle.std.proofs.Common.{◌∙◌, ap, refl, sym}
use Rattle.dita_doc.specs.declared.content.PushList.{PushList}
use Rattle.readers.proofs.DocumentLaws.{asks_after, asks_told}
use Rattle.readers.proofs.FoundedLaws.{document_among, stays_after, stays_one, stays_told}
use Rattle.readers.proofs.GrowthLaws.{agrees_before, grows_one, grows_trans, told_answer}
use Rattle.readers.specs.Setting.{Stand}
use Rattle.toc_page.specs.Made.{faults_in}
use Rattle.toc_page.proofs.FaultLaws.{faults_more}
use Rattle.toc_page.proofs.AskedLaws.{push_asked}
use Rattle.toc_page.proofs.page.push_faults.Goals as goal

pub loop-document-preserved : goal.loop-document-preserved
loop-document-preserved g c = record {
  known = λ world agrees.
      (let asked = told_answer world _ _ _ c.in_ok-pushes.ensures.told agrees in
      let name = c.document-item.result in
      faults_more (faults_in world (g.A.Reader.stand c.args.asker.now).setting.documents) c.args.documents.now
      c.loop-document.document-index name c.loop-document.faults c.append_faults.new.out c.in_ok-pushes.pushes.faults
      c.loop-document-test.true c.document-item.is
      (c.loop-document.invariant.known world (agrees_before world _ _ c.in_ok-pushes.ensures.grows agrees))
      c.in_ok-append_faults.ensures
      (sym (ap (λ (l : PushList). l.faults) asked)
      ∙ ap (λ (s : Stand). faults_in world s.setting.documents name) c.loop-document.invariant.stand));
  stand = c.in_ok-pushes.ensures.stand ∙ c.loop-document.invariant.stand;
  founded = stays_after _ _ _ _ c.loop-document.invariant.grows c.loop-document.invariant.founded
      (stays_one c.document-item.result c.args.documents.now _ _
      (document_among c.args.documents.now c.loop-document.document-index c.document-item.result
      c.loop-document-test.true c.document-item.is)
      (stays_told _ _ _ _ refl c.in_ok-pushes.ensures.told));
  asks = asks_after _ _ _ _ _ c.loop-document.invariant.grows c.loop-document.invariant.asks
      (asks_told _ _ _ _ _ refl c.in_ok-pushes.ensures.told);
  only = push_asked c.args.documents.now _ c.document-item.result _ _ _ _
      (document_among c.args.documents.now c.loop-document.document-index c.document-item.result
      c.loop-document-test.true c.document-item.is)
      c.loop-document.invariant.only c.in_ok-pushes.ensures.told;
  grows = grows_trans _ _ _ c.loop-document.invariant.grows (grows_one _ _ _ c.in_ok-pushes.ensures.told);
}

pub returns-in_err-append_faults-clause-asks : goal.returns-in_err-append_faults-clause-asks
returns-in_err-append_faults-clause-asks g c = asks_after _ _ _ _ _ c.loop-document.invariant.grows c.loop-document.invariant.asks
    (asks_told _ _ _ _ _ refl c.in_ok-pushes.ensures.told)

pub returns-in_err-append_faults-clause-grows : goal.returns-in_err-append_faults-clause-grows
returns-in_err-append_faults-clause-grows g c = grows_trans _ _ _ c.loop-document.invariant.grows (grows_one _ _ _ c.in_ok-pushes.ensures.told)

pub returns-in_err-append_faults-clause-founded : goal.returns-in_err-append_faults-clause-founded
returns-in_err-append_faults-clause-founded g c = stays_after _ _ _ _ c.loop-document.invariant.grows c.loop-document.invariant.founded
    (stays_one c.document-item.result c.args.documents.now _ _
    (document_among c.args.documents.now c.loop-document.document-index c.document-item.result
    c.loop-document-test.true c.document-item.is)
    (stays_told _ _ _ _ refl c.in_ok-pushes.ensures.told))

pub returns-in_err-append_faults-clause-stand : goal.returns-in_err-append_faults-clause-stand
returns-in_err-append_faults-clause-stand g c = c.in_ok-pushes.ensures.stand ∙ c.loop-document.invariant.stand

pub returns-clause-stand : goal.returns-clause-stand
returns-clause-stand g c = c.loop-document.invariant.stand

pub returns-clause-founded : goal.returns-clause-founded
returns-clause-founded g c = c.loop-document.invariant.founded

pub returns-clause-asks : goal.returns-clause-asks
returns-clause-asks g c = c.loop-document.invariant.asks

pub returns-clause-grows : goal.returns-clause-grows
returns-clause-grows g c = c.loop-document.invariant.grows

pub returns-clause-only : goal.returns-clause-only
returns-clause-only g c = c.loop-document.invariant.only
