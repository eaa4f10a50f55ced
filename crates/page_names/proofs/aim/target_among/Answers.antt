use Rattle.std.proofs.Common.{◌∙◌, ap, sym}
use Rattle.std.specs.Prelude.{codes}
use Rattle.plan_nodes.proofs.WorldLaws.{values_over}
use Rattle.readers.proofs.DocumentLaws.{asks_after, asks_none}
use Rattle.readers.proofs.GrowthLaws.{agrees_before, grows_trans}
use Rattle.readers.specs.Setting.{Stand}
use Rattle.page_names.proofs.GivenUseLaws.{known_founded}
use Rattle.page_names.proofs.AimLaws.{attributes_aim, leads_alone, value_there}
use Rattle.page_names.proofs.aim.target_among.Goals as goal

pub returns-clause-known : goal.returns-clause-known
returns-clause-known g c = λ keys values scopes there world agrees.
    let nodes = c.args.nodes.now in
    let at = c.args.at in
    let node = c.args.node.now in
    let own = (g.K.Reader.stand c.args.asker.now).world in
    let homes = c.in_ok-homes.ensures.known world (agrees_before world _ _ c.target_of.ensures.grows agrees) in
    let carried = values_over own world nodes (sym c.in_ok-homes.ensures.value ∙ homes) values in
    leads_alone _ _ c.target_of.result c.new-faults.result c.target_of.new.faults
    (attributes_aim world nodes at node _ _
    (value_there world nodes at node c.in_ok-homes.homes (codes "keyref") _ homes there c.value-keyref.ensures)
    (value_there world nodes at node c.in_ok-homes.homes (codes "href") _ homes there c.value-href.ensures))
    (c.target_of.ensures.known world nodes at agrees
    (ap (λ (stand : Stand). stand.setting.nodes) c.in_ok-homes.ensures.stand ∙ keys)
    (record { values = carried.each at node there; scope = scopes.each at node there }))

pub returns-in_err-homes-clause-founded : goal.returns-in_err-homes-clause-founded
returns-in_err-homes-clause-founded g c = λ keys. c.in_err-homes.ensures.founded

pub returns-clause-founded : goal.returns-clause-founded
returns-clause-founded g c = λ keys.
    known_founded _ c.args.nodes.now _ _ _
    (ap (λ (stand : Stand). stand.setting.nodes) c.in_ok-homes.ensures.stand ∙ keys) c.in_ok-homes.ensures.grows
    c.in_ok-homes.ensures.founded c.target_of.ensures.founded

pub returns-in_err-homes-clause-stand : goal.returns-in_err-homes-clause-stand
returns-in_err-homes-clause-stand g c = c.of.ensures.stand

pub returns-in_err-homes-clause-asks : goal.returns-in_err-homes-clause-asks
returns-in_err-homes-clause-asks g c = c.of.ensures.asks

pub returns-in_err-homes-clause-grows : goal.returns-in_err-homes-clause-grows
returns-in_err-homes-clause-grows g c = c.of.ensures.grows

pub returns-clause-stand : goal.returns-clause-stand
returns-clause-stand g c = c.target_of.ensures.stand ∙ c.of.ensures.stand

pub returns-clause-asks : goal.returns-clause-asks
returns-clause-asks g c = asks_after _ _ _ _ _ c.of.ensures.grows c.of.ensures.asks (asks_none _ _ _ _ c.target_of.ensures.asks)

pub returns-clause-grows : goal.returns-clause-grows
returns-clause-grows g c = grows_trans _ _ _ c.of.ensures.grows c.target_of.ensures.grows
