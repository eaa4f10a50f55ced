use Rattle.std.proofs.Common.{◌≡◌, ◌∙◌, ap, arith, length, subst, sym}
use Rattle.dita_doc.proofs.Lists.{get_read}
use Rattle.readers.proofs.DocumentLaws.{asks_after, asks_none}
use Rattle.readers.proofs.GrowthLaws.{agrees_before, grows_same, grows_trans}
use Rattle.readers.specs.Setting.{Stand}
use Rattle.plan_nodes.proofs.GivenLaws.{told_later}
use Rattle.plan_nodes.proofs.WorldLaws.{values_over}
use Rattle.page_names.specs.Uses.{AreReady, AreUses}
use Rattle.page_names.proofs.GivenUseLaws.{given_home, known_founded}
use Rattle.page_names.proofs.UseLaws.{told_there}
use Rattle.page_names.proofs.uses.Uses.of.Goals as goal

pub loop-at-init : goal.loop-at-init
loop-at-init g c = record {
  uses = λ world agrees ready. c.new-uses.ensures world c.args.nodes.now;
  stand = c.in_ok-homes.ensures.stand;
  founded = λ same. c.in_ok-homes.ensures.founded;
  asks = c.in_ok-homes.ensures.asks;
  grows = c.in_ok-homes.ensures.grows;
  later = grows_same _;
}

pub loop-at-preserved : goal.loop-at-preserved
loop-at-preserved g c = record {
  uses = λ world agrees ready.
      (let nodes = c.args.nodes.now in
      let at = c.loop-at.at in
      let here = agrees_before world _ _ c.in_ok-add_node.ensures.grows agrees in
      let there = get_read nodes at c.index-nodes-at.result c.loop-at-test.true c.index-nodes-at.is in
      c.in_ok-add_node.ensures.known world nodes agrees
      (subst (λ (stand : Stand). AreReady stand.setting.nodes world nodes) (sym c.loop-at.invariant.stand) ready)
      (c.in_ok-homes.ensures.known world (agrees_before world _ _ c.loop-at.invariant.later here)) there
      (told_there nodes at c.deref.result.now c.in_ok-inside.inside.items c.is_within-is_in_table.result
      c.loop-at-test.true (c.in_ok-inside.ensures ready.before) c.deref.ensures.value c.is_within-is_in_table.ensures)
      (c.loop-at.invariant.uses world here ready));
  stand = c.in_ok-add_node.ensures.stand ∙ c.loop-at.invariant.stand;
  founded = λ same.
      (let there = get_read c.args.nodes.now c.loop-at.at c.index-nodes-at.result c.loop-at-test.true
      c.index-nodes-at.is in
      known_founded _ c.args.nodes.now _ _ _ (ap (λ (stand : Stand). stand.setting.nodes) c.loop-at.invariant.stand
      ∙ same)
      c.loop-at.invariant.grows (c.loop-at.invariant.founded same)
      (c.in_ok-add_node.ensures.founded
      (given_home _ c.in_ok-homes.homes c.loop-at.at _ c.args.nodes.now c.index-nodes-at.result
      (told_later _ _ _ c.loop-at.invariant.later c.in_ok-homes.ensures.given) c.in_ok-homes.ensures.value there)));
  asks = asks_after _ _ _ _ _ c.loop-at.invariant.grows c.loop-at.invariant.asks (asks_none _ _ _ _ c.in_ok-add_node.ensures.asks);
  grows = grows_trans _ _ _ c.loop-at.invariant.grows c.in_ok-add_node.ensures.grows;
  later = grows_trans _ _ _ c.loop-at.invariant.later c.in_ok-add_node.ensures.grows;
}

pub returns-clause-known : goal.returns-clause-known
returns-clause-known g c = λ ready world agrees.
    let all : c.loop-at.at ≡ length c.args.nodes.now = omega arith in
    let nodes = c.args.nodes.now in
    let own = (g.K.Reader.stand c.args.asker.now).world in
    let before = agrees_before world _ _ c.loop-at.invariant.later agrees in
    let same = sym c.in_ok-homes.ensures.value ∙ c.in_ok-homes.ensures.known world before in
    subst (λ count. AreUses world nodes count c.loop-at.uses) all
    (c.loop-at.invariant.uses world agrees (record {
      keys = ready.keys;
      before = ready.before;
      values = values_over own world nodes same ready.values;
      scopes = ready.scopes;
    }))

pub returns-in_err-add_node-clause-founded : goal.returns-in_err-add_node-clause-founded
returns-in_err-add_node-clause-founded g c = λ same.
    let there = get_read c.args.nodes.now c.loop-at.at c.index-nodes-at.result c.loop-at-test.true
    c.index-nodes-at.is in
    known_founded _ c.args.nodes.now _ _ _ (ap (λ (stand : Stand). stand.setting.nodes) c.loop-at.invariant.stand
    ∙ same)
    c.loop-at.invariant.grows (c.loop-at.invariant.founded same)
    (c.in_err-add_node.ensures.founded
    (given_home _ c.in_ok-homes.homes c.loop-at.at _ c.args.nodes.now c.index-nodes-at.result
    (told_later _ _ _ c.loop-at.invariant.later c.in_ok-homes.ensures.given) c.in_ok-homes.ensures.value there))

pub returns-in_err-homes-clause-stand : goal.returns-in_err-homes-clause-stand
returns-in_err-homes-clause-stand g c = c.in_err-homes.ensures.stand

pub returns-in_err-homes-clause-asks : goal.returns-in_err-homes-clause-asks
returns-in_err-homes-clause-asks g c = c.in_err-homes.ensures.asks

pub returns-in_err-homes-clause-grows : goal.returns-in_err-homes-clause-grows
returns-in_err-homes-clause-grows g c = c.in_err-homes.ensures.grows

pub returns-in_err-homes-clause-founded : goal.returns-in_err-homes-clause-founded
returns-in_err-homes-clause-founded g c = λ same. c.in_err-homes.ensures.founded

pub returns-in_err-inside-clause-stand : goal.returns-in_err-inside-clause-stand
returns-in_err-inside-clause-stand g c = c.in_ok-homes.ensures.stand

pub returns-in_err-inside-clause-asks : goal.returns-in_err-inside-clause-asks
returns-in_err-inside-clause-asks g c = c.in_ok-homes.ensures.asks

pub returns-in_err-inside-clause-grows : goal.returns-in_err-inside-clause-grows
returns-in_err-inside-clause-grows g c = c.in_ok-homes.ensures.grows

pub returns-in_err-inside-clause-founded : goal.returns-in_err-inside-clause-founded
returns-in_err-inside-clause-founded g c = λ same. c.in_ok-homes.ensures.founded

pub returns-in_err-add_node-clause-stand : goal.returns-in_err-add_node-clause-stand
returns-in_err-add_node-clause-stand g c = c.in_err-add_node.ensures.stand ∙ c.loop-at.invariant.stand

pub returns-in_err-add_node-clause-asks : goal.returns-in_err-add_node-clause-asks
returns-in_err-add_node-clause-asks g c =
    asks_after _ _ _ _ _ c.loop-at.invariant.grows c.loop-at.invariant.asks (asks_none _ _ _ _ c.in_err-add_node.ensures.asks)

pub returns-in_err-add_node-clause-grows : goal.returns-in_err-add_node-clause-grows
returns-in_err-add_node-clause-grows g c = grows_trans _ _ _ c.loop-at.invariant.grows c.in_err-add_node.ensures.grows

pub returns-clause-stand : goal.returns-clause-stand
returns-clause-stand g c = c.loop-at.invariant.stand

pub returns-clause-founded : goal.returns-clause-founded
returns-clause-founded g c = c.loop-at.invariant.founded

pub returns-clause-asks : goal.returns-clause-asks
returns-clause-asks g c = c.loop-at.invariant.asks

pub returns-clause-grows : goal.returns-clause-grows
returns-clause-grows g c = c.loop-at.invariant.grows
