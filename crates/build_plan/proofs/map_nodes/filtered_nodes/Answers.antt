use Rattle.map_expand.proofs.AskedForLaws.{asked_later, stays_asked}
use Rattle.readers.proofs.GrowthLaws.{agrees_before}
use Rattle.build_plan.proofs.HomeLaws.{asked_fewer}
use Rattle.build_plan.proofs.StepLaws.{fewer_when_filtered, filtered_gives, filtered_new, filtered_nodes_are}
use Rattle.build_plan.proofs.TellLaws.{asks_again, asks_maps}
use Rattle.build_plan.proofs.map_nodes.filtered_nodes.Goals as goal

pub returns-clause-known : goal.returns-clause-known
returns-clause-known g c = λ world agrees.
    filtered_gives world c.args.rules.now c.args.map.now c.in_ok-nodes.field-0 c.in_ok-filtered.filtered c.append_faults.new.out
    (c.in_ok-nodes.ensures.known world (agrees_before world _ _ c.filter_nodes.ensures.grows agrees))
    (c.in_ok-filtered.ensures.known world agrees) c.in_ok-append_faults.ensures

pub returns-clause-nodes : goal.returns-clause-nodes
returns-clause-nodes g c =
    let world = (g.R.Reader.stand c.filter_nodes.new.reader).world in
    let agrees = g.met.R.Reader.agrees c.filter_nodes.new.reader in
    filtered_nodes_are world c.args.rules.now c.args.map.now c.in_ok-nodes.field-0 c.in_ok-filtered.filtered
    (c.in_ok-nodes.ensures.known world (agrees_before world _ _ c.filter_nodes.ensures.grows agrees))
    (c.in_ok-filtered.ensures.known world agrees)

pub returns-clause-asked : goal.returns-clause-asked
returns-clause-asked g c =
    let world = (g.R.Reader.stand c.filter_nodes.new.reader).world in
    let agrees = g.met.R.Reader.agrees c.filter_nodes.new.reader in
    asked_fewer _ _ _ (fewer_when_filtered world c.args.rules.now c.args.map.now c.in_ok-nodes.field-0
    c.in_ok-filtered.filtered
    (c.in_ok-nodes.ensures.known world (agrees_before world _ _ c.filter_nodes.ensures.grows agrees))
    (c.in_ok-filtered.ensures.known world agrees))
    (asked_later _ _ _ c.filter_nodes.ensures.grows c.in_ok-nodes.ensures.asked)

pub returns-clause-founded : goal.returns-clause-founded
returns-clause-founded g c =
    stays_asked _ _ _ _ _ c.expand.ensures.founded c.in_ok-nodes.ensures.asked c.filter_nodes.ensures.founded

pub returns-in_err-filtered-clause-founded : goal.returns-in_err-filtered-clause-founded
returns-in_err-filtered-clause-founded g c =
    stays_asked _ _ _ _ _ c.expand.ensures.founded c.in_ok-nodes.ensures.asked c.filter_nodes.ensures.founded

pub returns-in_err-append_faults-clause-founded : goal.returns-in_err-append_faults-clause-founded
returns-in_err-append_faults-clause-founded g c =
    stays_asked _ _ _ _ _ c.expand.ensures.founded c.in_ok-nodes.ensures.asked c.filter_nodes.ensures.founded

pub returns-clause-asks : goal.returns-clause-asks
returns-clause-asks g c =
    asks_again _ _ _ _ _ (asks_maps _ _ _ c.expand.ensures.asks) c.in_ok-nodes.ensures.asked c.filter_nodes.ensures.asks

pub returns-in_err-nodes-clause-asks : goal.returns-in_err-nodes-clause-asks
returns-in_err-nodes-clause-asks g c =
    asks_maps _ _ _ c.expand.ensures.asks

pub returns-in_err-filtered-clause-asks : goal.returns-in_err-filtered-clause-asks
returns-in_err-filtered-clause-asks g c =
    asks_again _ _ _ _ _ (asks_maps _ _ _ c.expand.ensures.asks) c.in_ok-nodes.ensures.asked c.filter_nodes.ensures.asks

pub returns-in_err-append_faults-clause-asks : goal.returns-in_err-append_faults-clause-asks
returns-in_err-append_faults-clause-asks g c =
    asks_again _ _ _ _ _ (asks_maps _ _ _ c.expand.ensures.asks) c.in_ok-nodes.ensures.asked c.filter_nodes.ensures.asks

pub returns-clause-new : goal.returns-clause-new
returns-clause-new g c =
    let world = (g.R.Reader.stand c.filter_nodes.new.reader).world in
    let agrees = g.met.R.Reader.agrees c.filter_nodes.new.reader in
    filtered_new world c.args.rules.now c.args.map.now c.in_ok-nodes.field-0 c.in_ok-filtered.filtered
    (c.in_ok-nodes.ensures.known world (agrees_before world _ _ c.filter_nodes.ensures.grows agrees))
    (c.in_ok-filtered.ensures.known world agrees)
