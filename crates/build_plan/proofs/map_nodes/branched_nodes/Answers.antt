use Rattle.branch_copies.proofs.DitavalrefLaws.{asks_refs}
use Rattle.map_expand.proofs.AskedForLaws.{asked_later, stays_asked}
use Rattle.readers.proofs.GrowthLaws.{agrees_before}
use Rattle.build_plan.proofs.HomeLaws.{asked_fewer}
use Rattle.build_plan.proofs.StepLaws.{branched_gives, branched_stops, copied_nodes_are, fewer_when_copied, filters_when_copied, judged_stops}
use Rattle.build_plan.proofs.RefLaws.{are_ditavalrefs}
use Rattle.build_plan.proofs.TellLaws.{asks_ditavals}
use Rattle.build_plan.proofs.map_nodes.branched_nodes.Goals as goal

pub returns-in-Err-clause-known : goal.returns-in-Err-clause-known
returns-in-Err-clause-known g c = λ world agrees. judged_stops world c.args.rules.now c.args.map.now _
    (c.in-Err.ensures.known world agrees)

pub returns-in-Err-copy_branches-clause-known : goal.returns-in-Err-copy_branches-clause-known
returns-in-Err-copy_branches-clause-known g c = λ world agrees.
    branched_stops world c.args.rules.now c.args.map.now c.in-Ok.made
    (c.in-Ok.ensures.known world (agrees_before world _ _ c.copy_branches.ensures.grows agrees)) _
    (c.in-Err-copy_branches.ensures.known world agrees)

pub returns-in-Err-copy_branches-clause-founded : goal.returns-in-Err-copy_branches-clause-founded
returns-in-Err-copy_branches-clause-founded g c =
    stays_asked _ _ _ _ _ c.filtered_nodes.ensures.founded c.in-Ok.ensures.asked c.copy_branches.ensures.founded

pub returns-in_err-append_faults-clause-founded : goal.returns-in_err-append_faults-clause-founded
returns-in_err-append_faults-clause-founded g c =
    stays_asked _ _ _ _ _ c.filtered_nodes.ensures.founded c.in-Ok.ensures.asked c.copy_branches.ensures.founded

pub returns-clause-known : goal.returns-clause-known
returns-clause-known g c = λ world agrees.
    branched_gives world c.args.rules.now c.args.map.now c.in-Ok.made
    (c.in-Ok.ensures.known world (agrees_before world _ _ c.copy_branches.ensures.grows agrees))
    c.in-Ok-copy_branches.made c.append_faults.new.out (c.in-Ok-copy_branches.ensures.known world agrees)
    c.in_ok-append_faults.ensures

pub returns-clause-nodes : goal.returns-clause-nodes
returns-clause-nodes g c =
    let world = (g.R.Reader.stand c.copy_branches.new.reader).world in
    copied_nodes_are world c.in-Ok.made.nodes c.in-Ok.ensures.nodes c.in-Ok-copy_branches.made
    (c.in-Ok-copy_branches.ensures.known world (g.met.R.Reader.agrees c.copy_branches.new.reader))

pub returns-clause-asked : goal.returns-clause-asked
returns-clause-asked g c =
    let world = (g.R.Reader.stand c.copy_branches.new.reader).world in
    asked_fewer _ _ _ (fewer_when_copied world c.in-Ok.made.nodes c.in-Ok.ensures.nodes c.in-Ok-copy_branches.made
    (c.in-Ok-copy_branches.ensures.known world (g.met.R.Reader.agrees c.copy_branches.new.reader)))
    (asked_later _ _ _ c.copy_branches.ensures.grows c.in-Ok.ensures.asked)

pub returns-clause-founded : goal.returns-clause-founded
returns-clause-founded g c =
    stays_asked _ _ _ _ _ c.filtered_nodes.ensures.founded c.in-Ok.ensures.asked c.copy_branches.ensures.founded

pub returns-in-Err-copy_branches-clause-asks : goal.returns-in-Err-copy_branches-clause-asks
returns-in-Err-copy_branches-clause-asks g c =
    let before = c.filtered_nodes.new.reader in
    asks_ditavals _ _ _ _ _ c.filtered_nodes.ensures.asks c.in-Ok.ensures.asked
    (asks_refs _ _ _ _ _ (are_ditavalrefs (g.R.Reader.stand before).world c.args.rules.now c.args.map.now c.in-Ok.made
    (c.in-Ok.ensures.known (g.R.Reader.stand before).world (g.met.R.Reader.agrees before)))
    c.copy_branches.ensures.asks)

pub returns-in_err-append_faults-clause-asks : goal.returns-in_err-append_faults-clause-asks
returns-in_err-append_faults-clause-asks g c =
    let before = c.filtered_nodes.new.reader in
    asks_ditavals _ _ _ _ _ c.filtered_nodes.ensures.asks c.in-Ok.ensures.asked
    (asks_refs _ _ _ _ _ (are_ditavalrefs (g.R.Reader.stand before).world c.args.rules.now c.args.map.now c.in-Ok.made
    (c.in-Ok.ensures.known (g.R.Reader.stand before).world (g.met.R.Reader.agrees before)))
    c.copy_branches.ensures.asks)

pub returns-clause-asks : goal.returns-clause-asks
returns-clause-asks g c =
    let before = c.filtered_nodes.new.reader in
    asks_ditavals _ _ _ _ _ c.filtered_nodes.ensures.asks c.in-Ok.ensures.asked
    (asks_refs _ _ _ _ _ (are_ditavalrefs (g.R.Reader.stand before).world c.args.rules.now c.args.map.now c.in-Ok.made
    (c.in-Ok.ensures.known (g.R.Reader.stand before).world (g.met.R.Reader.agrees before)))
    c.copy_branches.ensures.asks)

pub returns-clause-filters : goal.returns-clause-filters
returns-clause-filters g c = λ roots.
    filters_when_copied (g.R.Reader.stand c.filtered_nodes.new.reader).world c.in-Ok.made.nodes c.in-Ok.ensures.nodes
    c.in-Ok-copy_branches.made c.in-Ok-copy_branches.ensures.value (g.R.Reader.told c.copy_branches.new.reader) roots
    c.in-Ok.ensures.new c.in-Ok-copy_branches.ensures.told
