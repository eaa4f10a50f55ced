use Rattle.std.proofs.Common.{subst, sym}
use Rattle.map_expand.specs.AskedFor.{AreAsked}
use Rattle.map_expand.proofs.AskedForLaws.{asked_later, stays_asked}
use Rattle.readers.specs.Founded.{AreAllowed}
use Rattle.readers.proofs.GrowthLaws.{agrees_before, are_allowed_before}
use Rattle.build_plan.proofs.HomeLaws.{homes_cascaded}
use Rattle.build_plan.proofs.GivenLaws.{filters_cascaded}
use Rattle.build_plan.proofs.StepLaws.{cascaded_gives, cascaded_stand, cascaded_values, copied_parents, copied_stops}
use Rattle.build_plan.proofs.TellLaws.{asks_again}
use Rattle.build_plan.proofs.map_nodes.nodes_of_map.Goals as goal

pub returns-in-Err-clause-known : goal.returns-in-Err-clause-known
returns-in-Err-clause-known g c = λ world agrees. copied_stops world c.args.rules.now c.args.map.now _
    (c.in-Err.ensures.known world agrees)

pub returns-in_err-nodes-clause-founded : goal.returns-in_err-nodes-clause-founded
returns-in_err-nodes-clause-founded g c =
    stays_asked _ _ _ _ _ c.branched_nodes.ensures.founded c.in-Ok.ensures.asked c.cascade.ensures.founded

pub returns-clause-founded : goal.returns-clause-founded
returns-clause-founded g c =
    stays_asked _ _ _ _ _ c.branched_nodes.ensures.founded c.in-Ok.ensures.asked c.cascade.ensures.founded

pub returns-clause-known : goal.returns-clause-known
returns-clause-known g c = λ world agrees.
    let given = c.in-Ok.ensures.known world (agrees_before world _ _ c.cascade.ensures.grows agrees) in
    cascaded_gives world c.args.rules.now c.args.map.now c.in-Ok.made given c.in_ok-nodes.nodes
    (c.in_ok-nodes.ensures.known world agrees (copied_parents world c.args.rules.now c.args.map.now c.in-Ok.made given))

pub returns-clause-tree : goal.returns-clause-tree
returns-clause-tree g c =
    let world = (g.R.Reader.stand c.cascade.new.reader).world in
    let agrees = g.met.R.Reader.agrees c.cascade.new.reader in
    let given = c.in-Ok.ensures.known world (agrees_before world _ _ c.cascade.ensures.grows agrees) in
    cascaded_stand world c.in-Ok.made.nodes c.in_ok-nodes.nodes
    (c.in_ok-nodes.ensures.known world agrees (copied_parents world c.args.rules.now c.args.map.now c.in-Ok.made given))
    c.in-Ok.ensures.nodes

pub returns-clause-values : goal.returns-clause-values
returns-clause-values g c = λ world agrees.
    let given = c.in-Ok.ensures.known world (agrees_before world _ _ c.cascade.ensures.grows agrees) in
    cascaded_values world c.in-Ok.made.nodes c.in_ok-nodes.nodes
    (c.in_ok-nodes.ensures.known world agrees (copied_parents world c.args.rules.now c.args.map.now c.in-Ok.made given))

pub returns-clause-asked : goal.returns-clause-asked
returns-clause-asked g c =
    let world = (g.R.Reader.stand c.cascade.new.reader).world in
    let agrees = g.met.R.Reader.agrees c.cascade.new.reader in
    let given = c.in-Ok.ensures.known world (agrees_before world _ _ c.cascade.ensures.grows agrees) in
    subst (AreAsked (g.R.Reader.told c.cascade.new.reader))
    (sym (homes_cascaded world c.in-Ok.made.nodes c.in_ok-nodes.nodes
    (c.in_ok-nodes.ensures.known world agrees (copied_parents world c.args.rules.now c.args.map.now c.in-Ok.made given))))
    (asked_later _ _ _ c.cascade.ensures.grows c.in-Ok.ensures.asked)

pub returns-in_err-nodes-clause-asks : goal.returns-in_err-nodes-clause-asks
returns-in_err-nodes-clause-asks g c =
    asks_again _ _ _ _ _ c.branched_nodes.ensures.asks c.in-Ok.ensures.asked c.cascade.ensures.asks

pub returns-clause-asks : goal.returns-clause-asks
returns-clause-asks g c =
    asks_again _ _ _ _ _ c.branched_nodes.ensures.asks c.in-Ok.ensures.asked c.cascade.ensures.asks

pub returns-clause-filters : goal.returns-clause-filters
returns-clause-filters g c = λ roots.
    let world = (g.R.Reader.stand c.cascade.new.reader).world in
    let agrees = g.met.R.Reader.agrees c.cascade.new.reader in
    let given = c.in-Ok.ensures.known world (agrees_before world _ _ c.cascade.ensures.grows agrees) in
    subst (AreAllowed roots (g.R.Reader.told c.cascade.new.reader))
    (sym (filters_cascaded world c.in-Ok.made.nodes c.in_ok-nodes.nodes
    (c.in_ok-nodes.ensures.known world agrees (copied_parents world c.args.rules.now c.args.map.now c.in-Ok.made given))))
    (are_allowed_before roots _ _ _ c.cascade.ensures.grows (c.in-Ok.ensures.filters roots))
