use Rattle.std.proofs.Common.{◌≡◌, ◌∙◌, List, [], ap, map, subst, sym}
use Rattle.dita_doc.specs.declared.plan.PlanNode.{PlanNode}
use Rattle.family_links.specs.Collected.{IsReady}
use Rattle.link_groups.proofs.NodeLaws.{homes_stay}
use Rattle.map_spec.specs.Cascade.{whole_at}
use Rattle.readers.proofs.DocumentLaws.{asks_after, asks_none, homes_asked}
use Rattle.readers.proofs.FoundedLaws.{stays_after}
use Rattle.readers.proofs.GrowthLaws.{agrees_before}
use Rattle.readers.specs.Documents.{AsksOnly, nothing}
use Rattle.readers.specs.Founded.{Grows, homes}
use Rattle.readers.specs.Setting.{Stand}
use Rattle.readers.specs.Told.{Told}
use Rattle.reltable_links.specs.RowTable.{CanLink}
use Rattle.reltable_links.proofs.UpLaws.{tree_before}
use Rattle.readers.proofs.OnlyLaws.{only_after}
use Rattle.link_groups.proofs.AskedLaws.{nodes_asked, pages_asked}
use Rattle.node_links.proofs.table.NodeLinks.of.Goals as goal

pub returns-in_err-homes-clause-founded : goal.returns-in_err-homes-clause-founded
returns-in_err-homes-clause-founded g c =
    homes_stay c.args.plan.now c.as_slice.result.now _ _ c.as_slice.ensures c.of.ensures.founded

pub returns-in_err-collections-clause-founded : goal.returns-in_err-collections-clause-founded
returns-in_err-collections-clause-founded g c =
    stays_after _ _ _ _ c.of.ensures.grows
    (homes_stay c.args.plan.now c.as_slice.result.now _ _ c.as_slice.ensures c.of.ensures.founded)
    c.of-2.ensures.founded

pub returns-in_err-rows-clause-founded : goal.returns-in_err-rows-clause-founded
returns-in_err-rows-clause-founded g c =
    stays_after _ _ _ _ c.of.ensures.grows
    (homes_stay c.args.plan.now c.as_slice.result.now _ _ c.as_slice.ensures c.of.ensures.founded)
    (stays_after _ _ _ _ c.of-2.ensures.grows c.of-2.ensures.founded c.of-3.ensures.founded)

pub returns-in_err-faults-clause-founded : goal.returns-in_err-faults-clause-founded
returns-in_err-faults-clause-founded g c =
    stays_after _ _ _ _ c.of.ensures.grows
    (homes_stay c.args.plan.now c.as_slice.result.now _ _ c.as_slice.ensures c.of.ensures.founded)
    (stays_after _ _ _ _ c.of-2.ensures.grows c.of-2.ensures.founded c.of-3.ensures.founded)

pub returns-clause-founded : goal.returns-clause-founded
returns-clause-founded g c =
    stays_after _ _ _ _ c.of.ensures.grows
    (homes_stay c.args.plan.now c.as_slice.result.now _ _ c.as_slice.ensures c.of.ensures.founded)
    (stays_after _ _ _ _ c.of-2.ensures.grows c.of-2.ensures.founded c.of-3.ensures.founded)

pub returns-clause-known : goal.returns-clause-known
returns-clause-known g c = λ world agrees can.
    let plan = c.args.plan.now in
    let found = agrees_before world _ _ c.of-3.ensures.grows agrees in
    let homes = c.in_ok-homes.ensures.known world (agrees_before world _ _ c.of-2.ensures.grows found)
    ∙ ap (map (whole_at world)) c.as_slice.ensures in
    let ready = subst (λ (stand : Stand). CanLink world plan stand.setting.pages) (sym c.of.ensures.stand) can in
    let next = subst (λ (stand : Stand). CanLink world plan stand.setting.pages) (sym c.of-2.ensures.stand) ready in
    let made = c.in_ok-collections.ensures.known world found
    (record { pages = ready.pages; values = ready.values; before = tree_before plan.nodes ready.tree }) homes
    (c.new-link_nodes.ensures world plan) in
    let rows = c.in_ok-rows.ensures.known world agrees next homes made.kept in
    record {
      collections = made.are;
      rows = rows.are;
      faults = c.in_ok-faults.ensures world rows.are;
    }

-- the documents of the nodes are asked for, and then none
asks_both : (slice nodes : List PlanNode) (a b c : List Told) → slice ≡ nodes → Grows a b
    → AsksOnly nothing (homes slice) a b → AsksOnly nothing [] b c → AsksOnly nothing (homes nodes) a c
asks_both slice nodes a b c same grows before next = asks_after nothing (homes nodes) a b c grows
    (homes_asked slice nodes a b same before) (asks_none nothing (homes nodes) b c next)

pub returns-in_err-homes-clause-asks : goal.returns-in_err-homes-clause-asks
returns-in_err-homes-clause-asks g c = homes_asked _ _ _ _ c.as_slice.ensures c.of.ensures.asks

pub returns-in_err-collections-clause-asks : goal.returns-in_err-collections-clause-asks
returns-in_err-collections-clause-asks g c =
    asks_both _ _ _ _ _ c.as_slice.ensures c.of.ensures.grows c.of.ensures.asks c.of-2.ensures.asks

pub returns-in_err-rows-clause-asks : goal.returns-in_err-rows-clause-asks
returns-in_err-rows-clause-asks g c =
    asks_both _ _ _ _ _ c.as_slice.ensures c.of.ensures.grows c.of.ensures.asks
    (asks_after nothing [] _ _ _ c.of-2.ensures.grows c.of-2.ensures.asks c.of-3.ensures.asks)

pub returns-in_err-faults-clause-asks : goal.returns-in_err-faults-clause-asks
returns-in_err-faults-clause-asks g c =
    asks_both _ _ _ _ _ c.as_slice.ensures c.of.ensures.grows c.of.ensures.asks
    (asks_after nothing [] _ _ _ c.of-2.ensures.grows c.of-2.ensures.asks c.of-3.ensures.asks)

pub returns-clause-asks : goal.returns-clause-asks
returns-clause-asks g c =
    asks_both _ _ _ _ _ c.as_slice.ensures c.of.ensures.grows c.of.ensures.asks
    (asks_after nothing [] _ _ _ c.of-2.ensures.grows c.of-2.ensures.asks c.of-3.ensures.asks)

pub returns-clause-only : goal.returns-clause-only
returns-clause-only g c =
    let plan = c.args.plan.now in
    only_after _ _ _ _ (nodes_asked plan _ _ c.as_slice.result.now c.as_slice.ensures c.in_ok-homes.ensures.only)
    (pages_asked plan _ _ (only_after _ _ _ _ c.in_ok-collections.ensures.only c.in_ok-rows.ensures.only))
