use Rattle.std.proofs.Common.{◌∙◌, refl, take}
use Rattle.readers.proofs.DocumentLaws.{asks_after, asks_one, asks_same}
use Rattle.readers.proofs.FoundedLaws.{stays_after, stays_one, stays_same}
use Rattle.readers.proofs.GrowthLaws.{agrees_before, grows_same, grows_trans}
use Rattle.readers.proofs.OnlyLaws.{only_after, only_one, only_same}
use Rattle.readers.specs.Documents.{nothing}
use Rattle.readers.specs.Only.{is_document_of}
use Rattle.conref_push.specs.Into.{froms}
use Rattle.conref_push.proofs.AskedLaws.{given_none}
use Rattle.conref_push.proofs.SourceLaws.{from_among, sources_all, sources_none, sources_step}
use Rattle.conref_push.proofs.sources.PushSources.of.Goals as goal

pub loop-push-init : goal.loop-push-init
loop-push-init g c = record {
  known = λ world agrees. sources_none world (record { docs = c.new.result }) c.new.ensures.empty;
  given = given_none _ (record { docs = c.new.result }) c.new.ensures.empty;
  stand = refl;
  founded = stays_same _ _ _ refl;
  asks = asks_same nothing _ _ _ refl;
  only = only_same _ _ _ refl;
  grows = grows_same _;
}

pub loop-push-preserved : goal.loop-push-preserved
loop-push-preserved g c =
    let pushes = c.args.pushes.now in
    let at = c.loop-push.push-index in
    let one = c.push-item.result in
    let among = from_among pushes at one c.loop-push-test.true c.push-item.is in
    record {
      known = λ world agrees. sources_step world pushes at one c.ask.new.self c.loop-push-test.true c.push-item.is
          (c.in_ok-ask.ensures.known world (froms (take at pushes)) agrees
          (c.loop-push.invariant.known world (agrees_before world _ _ c.in_ok-ask.ensures.grows agrees)));
      given = c.in_ok-ask.ensures.given c.loop-push.invariant.given;
      stand = c.in_ok-ask.ensures.stand ∙ c.loop-push.invariant.stand;
      founded = stays_after (froms pushes) _ _ _ c.loop-push.invariant.grows c.loop-push.invariant.founded
          (stays_one one.from (froms pushes) _ _ among c.in_ok-ask.ensures.founded);
      asks = asks_after nothing (froms pushes) _ _ _ c.loop-push.invariant.grows c.loop-push.invariant.asks
          (asks_one nothing one.from (froms pushes) _ _ among c.in_ok-ask.ensures.asks);
      only = only_after (is_document_of (froms pushes)) _ _ _ c.loop-push.invariant.only
          (only_one one.from (froms pushes) _ _ among c.in_ok-ask.ensures.only);
      grows = grows_trans _ _ _ c.loop-push.invariant.grows c.in_ok-ask.ensures.grows;
    }

pub returns-in_err-ask-clause-founded : goal.returns-in_err-ask-clause-founded
returns-in_err-ask-clause-founded g c =
    let pushes = c.args.pushes.now in
    let one = c.push-item.result in
    stays_after (froms pushes) _ _ _ c.loop-push.invariant.grows c.loop-push.invariant.founded
    (stays_one one.from (froms pushes) _ _
    (from_among pushes c.loop-push.push-index one c.loop-push-test.true c.push-item.is) c.in_err-ask.ensures.founded)

pub returns-in_err-ask-clause-asks : goal.returns-in_err-ask-clause-asks
returns-in_err-ask-clause-asks g c =
    let pushes = c.args.pushes.now in
    let one = c.push-item.result in
    asks_after nothing (froms pushes) _ _ _ c.loop-push.invariant.grows c.loop-push.invariant.asks
    (asks_one nothing one.from (froms pushes) _ _
    (from_among pushes c.loop-push.push-index one c.loop-push-test.true c.push-item.is) c.in_err-ask.ensures.asks)

pub returns-clause-known : goal.returns-clause-known
returns-clause-known g c = λ world agrees.
    sources_all world c.args.pushes.now c.loop-push.push-index c.loop-push.sources c.loop-push-test.false
    (c.loop-push.invariant.known world agrees)

pub returns-in_err-ask-clause-stand : goal.returns-in_err-ask-clause-stand
returns-in_err-ask-clause-stand g c = c.in_err-ask.ensures.stand ∙ c.loop-push.invariant.stand

pub returns-in_err-ask-clause-grows : goal.returns-in_err-ask-clause-grows
returns-in_err-ask-clause-grows g c = grows_trans _ _ _ c.loop-push.invariant.grows c.in_err-ask.ensures.grows

pub returns-clause-given : goal.returns-clause-given
returns-clause-given g c = c.loop-push.invariant.given

pub returns-clause-stand : goal.returns-clause-stand
returns-clause-stand g c = c.loop-push.invariant.stand

pub returns-clause-founded : goal.returns-clause-founded
returns-clause-founded g c = c.loop-push.invariant.founded

pub returns-clause-asks : goal.returns-clause-asks
returns-clause-asks g c = c.loop-push.invariant.asks

pub returns-clause-grows : goal.returns-clause-grows
returns-clause-grows g c = c.loop-push.invariant.grows

pub returns-clause-only : goal.returns-clause-only
returns-clause-only g c = c.loop-push.invariant.only
