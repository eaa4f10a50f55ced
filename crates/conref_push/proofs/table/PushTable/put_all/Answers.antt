use Rattle.std.proofs.Common.{◌∙◌, ap, map, refl, take}
use Rattle.dita_doc.specs.Tree.{tree_of}
use Rattle.map_spec.specs.Written.{written_in}
use Rattle.map_spec.specs.Places.{all_standing}
use Rattle.readers.proofs.DocumentLaws.{asks_after, asks_same}
use Rattle.readers.proofs.FoundedLaws.{stays_after, stays_same}
use Rattle.readers.proofs.GrowthLaws.{agrees_before, grows_same, grows_trans}
use Rattle.readers.specs.Documents.{nothing}
use Rattle.conref_push.specs.Aimed.{aims_among}
use Rattle.conref_push.specs.Gathered.{acting_with, sights_in}
use Rattle.conref_push.specs.Sight.{sight_of, with_all_seen}
use Rattle.conref_push.proofs.AimLaws.{asks_seen, stays_seen}
use Rattle.conref_push.proofs.GatherLaws.{gathered_acts, gathered_all, gathered_quiet, gathered_step}
use Rattle.conref_push.proofs.table.PushTable.put_all.Goals as goal

pub returns-then-not-has_conaction_in-clause-known : goal.returns-then-not-has_conaction_in-clause-known
returns-then-not-has_conaction_in-clause-known g c = λ world all acting agrees gathered.
    let name = c.args.name.now in
    gathered_quiet world all acting name (written_in name (tree_of c.args.doc.now.nodes)) c.args.targets.now
    c.args.self.now (c.if-not-has_conaction_in.ensures name) gathered

pub loop-pushing-init : goal.loop-pushing-init
loop-pushing-init g c = record {
  known = λ world all acting agrees gathered.
      (let name = c.args.name.now in
      gathered_acts world all acting name (written_in name (tree_of c.args.doc.now.nodes)) c.args.targets.now
      c.args.self.now (record { entries = c.set_acts.new.self; faults = c.args.self.now.faults })
      (c.if-not-has_conaction_in.ensures name) c.in_ok-set_acts.ensures refl gathered);
  stand = refl;
  founded = stays_same _ _ _ refl;
  asks = asks_same nothing _ _ _ refl;
  grows = grows_same _;
}

pub loop-pushing-preserved : goal.loop-pushing-preserved
loop-pushing-preserved g c =
    let name = c.args.name.now in
    let nodes = written_in name (tree_of c.args.doc.now.nodes) in
    let items = c.deref-pushing-items.result.now in
    let at = c.loop-pushing.pushing-index in
    let seen = ap (map (sight_of name)) c.deref-pushing-items.ensures.value ∙ c.in_ok-all.ensures name in
    record {
      known = λ world all acting agrees gathered.
          gathered_step world all (acting_with acting name nodes) name items at c.pushing-item.result
          c.put_one.new.targets c.put_one.new.self c.loop-pushing-test.true c.pushing-item.is
          (c.in_ok-put_one.ensures.known world (with_all_seen world all (map (sight_of name) (take at items)))
          (acting_with acting name nodes) agrees
          (c.loop-pushing.invariant.known world all acting
          (agrees_before world _ _ c.in_ok-put_one.ensures.grows agrees) gathered));
      stand = c.in_ok-put_one.ensures.stand ∙ c.loop-pushing.invariant.stand;
      founded = stays_after (aims_among (all_standing nodes)) _ _ _ c.loop-pushing.invariant.grows
          c.loop-pushing.invariant.founded
          (stays_seen name (all_standing nodes) items at c.pushing-item.result seen c.loop-pushing-test.true
          c.pushing-item.is _ _ c.in_ok-put_one.ensures.founded);
      asks = asks_after nothing (aims_among (all_standing nodes)) _ _ _ c.loop-pushing.invariant.grows
          c.loop-pushing.invariant.asks
          (asks_seen name (all_standing nodes) items at c.pushing-item.result seen c.loop-pushing-test.true
          c.pushing-item.is _ _ c.in_ok-put_one.ensures.asks);
      grows = grows_trans _ _ _ c.loop-pushing.invariant.grows c.in_ok-put_one.ensures.grows;
    }

pub returns-in_err-put_one-clause-founded : goal.returns-in_err-put_one-clause-founded
returns-in_err-put_one-clause-founded g c =
    let name = c.args.name.now in
    let nodes = written_in name (tree_of c.args.doc.now.nodes) in
    let items = c.deref-pushing-items.result.now in
    let seen = ap (map (sight_of name)) c.deref-pushing-items.ensures.value ∙ c.in_ok-all.ensures name in
    stays_after (aims_among (all_standing nodes)) _ _ _ c.loop-pushing.invariant.grows
    c.loop-pushing.invariant.founded
    (stays_seen name (all_standing nodes) items c.loop-pushing.pushing-index c.pushing-item.result seen
    c.loop-pushing-test.true c.pushing-item.is _ _ c.in_err-put_one.ensures.founded)

pub returns-in_err-put_one-clause-asks : goal.returns-in_err-put_one-clause-asks
returns-in_err-put_one-clause-asks g c =
    let name = c.args.name.now in
    let nodes = written_in name (tree_of c.args.doc.now.nodes) in
    let items = c.deref-pushing-items.result.now in
    let seen = ap (map (sight_of name)) c.deref-pushing-items.ensures.value ∙ c.in_ok-all.ensures name in
    asks_after nothing (aims_among (all_standing nodes)) _ _ _ c.loop-pushing.invariant.grows
    c.loop-pushing.invariant.asks
    (asks_seen name (all_standing nodes) items c.loop-pushing.pushing-index c.pushing-item.result seen
    c.loop-pushing-test.true c.pushing-item.is _ _ c.in_err-put_one.ensures.asks)

pub returns-in_err-put_one-clause-stand : goal.returns-in_err-put_one-clause-stand
returns-in_err-put_one-clause-stand g c = c.in_err-put_one.ensures.stand ∙ c.loop-pushing.invariant.stand

pub returns-in_err-put_one-clause-grows : goal.returns-in_err-put_one-clause-grows
returns-in_err-put_one-clause-grows g c =
    grows_trans _ _ _ c.loop-pushing.invariant.grows c.in_err-put_one.ensures.grows

pub returns-clause-known : goal.returns-clause-known
returns-clause-known g c = λ world all acting agrees gathered.
    let name = c.args.name.now in
    let nodes = written_in name (tree_of c.args.doc.now.nodes) in
    let items = c.deref-pushing-items.result.now in
    let seen = ap (map (sight_of name)) c.deref-pushing-items.ensures.value ∙ c.in_ok-all.ensures name in
    gathered_all world all (acting_with acting name nodes) name items c.loop-pushing.pushing-index (sights_in nodes)
    c.loop-pushing.targets c.loop-pushing.self c.loop-pushing-test.false seen
    (c.loop-pushing.invariant.known world all acting agrees gathered)

pub returns-clause-stand : goal.returns-clause-stand
returns-clause-stand g c = c.loop-pushing.invariant.stand

pub returns-clause-founded : goal.returns-clause-founded
returns-clause-founded g c = c.loop-pushing.invariant.founded

pub returns-clause-asks : goal.returns-clause-asks
returns-clause-asks g c = c.loop-pushing.invariant.asks

pub returns-clause-grows : goal.returns-clause-grows
returns-clause-grows g c = c.loop-pushing.invariant.grows
