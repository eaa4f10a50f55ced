use Rattle.std.proofs.Common.{◌∙◌, refl, take}
use Rattle.readers.proofs.DocumentLaws.{asks_after, asks_same}
use Rattle.readers.proofs.FoundedLaws.{document_among, none_allowed, stays_after, stays_one, stays_same}
use Rattle.readers.proofs.GrowthLaws.{agrees_before, grows_same, grows_trans}
use Rattle.conref_push.specs.Aimed.{push_targets}
use Rattle.conref_push.proofs.AimLaws.{asks_item}
use Rattle.conref_push.proofs.AllowedLaws.{allowed_all, allowed_next}
use Rattle.conref_push.proofs.GatherLaws.{gathered_next, gathered_none, gathered_table}
use Rattle.conref_push.proofs.table.PushTable.of.Goals as goal

pub loop-name-init : goal.loop-name-init
loop-name-init g c = record {
  known = λ world agrees. gathered_none world c.new-targets.result c.empty-table.result c.new-targets.ensures.docs
      c.new-targets.ensures.replaced c.empty-table.ensures.entries c.empty-table.ensures.faults;
  allowed = λ roots founded. none_allowed roots _;
  stand = refl;
  founded = stays_same _ _ _ refl;
  asks = asks_same push_targets _ _ _ refl;
  grows = grows_same _;
}

pub loop-name-preserved : goal.loop-name-preserved
loop-name-preserved g c =
    let documents = c.args.documents.now in
    let at = c.loop-name.name-index in
    let among = document_among documents at c.name-item.result c.loop-name-test.true c.name-item.is in
    record {
      known = λ world agrees.
          gathered_next world documents at c.name-item.result c.put_document.new.targets c.put_document.new.self
          c.loop-name-test.true c.name-item.is
          (c.in_ok-put_document.ensures.known world (take at documents) agrees
          (c.loop-name.invariant.known world (agrees_before world _ _ c.in_ok-put_document.ensures.grows agrees)));
      allowed = λ roots founded. allowed_next roots _ _ documents at c.name-item.result c.loop-name-test.true
          c.name-item.is c.in_ok-put_document.ensures.grows (c.loop-name.invariant.allowed roots)
          (c.in_ok-put_document.ensures.allowed roots) founded;
      stand = c.in_ok-put_document.ensures.stand ∙ c.loop-name.invariant.stand;
      founded = stays_after documents _ _ _ c.loop-name.invariant.grows c.loop-name.invariant.founded
          (stays_one c.name-item.result documents _ _ among c.in_ok-put_document.ensures.founded);
      asks = asks_after push_targets documents _ _ _ c.loop-name.invariant.grows c.loop-name.invariant.asks
          (asks_item documents c.name-item.result _ _ among c.in_ok-put_document.ensures.asks);
      grows = grows_trans _ _ _ c.loop-name.invariant.grows c.in_ok-put_document.ensures.grows;
    }

pub returns-in_err-put_document-clause-founded : goal.returns-in_err-put_document-clause-founded
returns-in_err-put_document-clause-founded g c =
    let documents = c.args.documents.now in
    stays_after documents _ _ _ c.loop-name.invariant.grows c.loop-name.invariant.founded
    (stays_one c.name-item.result documents _ _
    (document_among documents c.loop-name.name-index c.name-item.result c.loop-name-test.true c.name-item.is)
    c.in_err-put_document.ensures.founded)

pub returns-in_err-put_document-clause-asks : goal.returns-in_err-put_document-clause-asks
returns-in_err-put_document-clause-asks g c =
    let documents = c.args.documents.now in
    asks_after push_targets documents _ _ _ c.loop-name.invariant.grows c.loop-name.invariant.asks
    (asks_item documents c.name-item.result _ _
    (document_among documents c.loop-name.name-index c.name-item.result c.loop-name-test.true c.name-item.is)
    c.in_err-put_document.ensures.asks)

pub returns-clause-known : goal.returns-clause-known
returns-clause-known g c = λ world agrees.
    gathered_table world c.args.documents.now c.loop-name.name-index c.loop-name.targets c.loop-name.table
    c.loop-name-test.false (c.loop-name.invariant.known world agrees)

pub returns-clause-allowed : goal.returns-clause-allowed
returns-clause-allowed g c = λ roots founded.
    allowed_all roots _ c.args.documents.now c.loop-name.name-index c.loop-name-test.false
    (c.loop-name.invariant.allowed roots founded)

pub returns-in_err-put_document-clause-stand : goal.returns-in_err-put_document-clause-stand
returns-in_err-put_document-clause-stand g c = c.in_err-put_document.ensures.stand ∙ c.loop-name.invariant.stand

pub returns-in_err-put_document-clause-grows : goal.returns-in_err-put_document-clause-grows
returns-in_err-put_document-clause-grows g c =
    grows_trans _ _ _ c.loop-name.invariant.grows c.in_err-put_document.ensures.grows

pub returns-clause-stand : goal.returns-clause-stand
returns-clause-stand g c = c.loop-name.invariant.stand

pub returns-clause-founded : goal.returns-clause-founded
returns-clause-founded g c = c.loop-name.invariant.founded

pub returns-clause-asks : goal.returns-clause-asks
returns-clause-asks g c = c.loop-name.invariant.asks

pub returns-clause-grows : goal.returns-clause-grows
returns-clause-grows g c = c.loop-name.invariant.grows
