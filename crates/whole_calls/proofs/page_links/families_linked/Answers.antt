use Rattle.std.proofs.Common.{[], ◌∙◌, ap, map, subst, sym}
use Rattle.link_groups.proofs.NodeLaws.{homes_stay}
use Rattle.map_spec.specs.Cascade.{whole_at}
use Rattle.readers.proofs.FoundedLaws.{stays_after}
use Rattle.readers.proofs.GrowthLaws.{agrees_before}
use Rattle.readers.specs.Setting.{Stand}
use Rattle.family_links.specs.Collected.{IsReady, links_by_collections}
use Rattle.std.specs.Prelude.{◌≡◌, List}
use Rattle.dita_doc.specs.declared.plan.PagePlan.{PagePlan}
use Rattle.dita_doc.specs.declared.plan.Plan.{Plan}
use Rattle.plan_nodes.proofs.WorldLaws.{values_over}
use Rattle.reader_spec.specs.World.{World}
use Rattle.readers.specs.Documents.{nothing}
use Rattle.readers.proofs.DocumentLaws.{asks_after, asks_none, homes_asked}
use Rattle.readers.proofs.GrowthLaws.{grows_trans}
use Rattle.whole_calls.proofs.page_links.families_linked.Goals as goal

-- a plan that is ready in one world is so in each in which its nodes have the same elements
ready_over : (a b : World) (plan : Plan) (known : List PagePlan)
    → map (whole_at a) plan.nodes ≡ map (whole_at b) plan.nodes → IsReady a plan known → IsReady b plan known
ready_over a b plan known same ready =
    record { pages = ready.pages; values = values_over a b plan.nodes same ready.values; before = ready.before }

pub returns-in_err-homes-clause-founded : goal.returns-in_err-homes-clause-founded
returns-in_err-homes-clause-founded g c =
    homes_stay c.args.plan.now c.as_slice.result.now _ _ c.as_slice.ensures c.of.ensures.founded

pub returns-in_err-collections-clause-founded : goal.returns-in_err-collections-clause-founded
returns-in_err-collections-clause-founded g c =
    stays_after _ _ _ _ c.of.ensures.grows
    (homes_stay c.args.plan.now c.as_slice.result.now _ _ c.as_slice.ensures c.of.ensures.founded)
    c.of-2.ensures.founded

pub returns-in_err-append-clause-founded : goal.returns-in_err-append-clause-founded
returns-in_err-append-clause-founded g c =
    stays_after _ _ _ _ c.of.ensures.grows
    (homes_stay c.args.plan.now c.as_slice.result.now _ _ c.as_slice.ensures c.of.ensures.founded)
    c.of-2.ensures.founded

pub returns-in_err-written-clause-founded : goal.returns-in_err-written-clause-founded
returns-in_err-written-clause-founded g c =
    stays_after _ _ _ _ c.of.ensures.grows
    (homes_stay c.args.plan.now c.as_slice.result.now _ _ c.as_slice.ensures c.of.ensures.founded)
    (stays_after _ _ _ _ c.of-2.ensures.grows c.of-2.ensures.founded c.written.ensures.founded)

pub returns-clause-founded : goal.returns-clause-founded
returns-clause-founded g c =
    stays_after _ _ _ _ c.of.ensures.grows
    (homes_stay c.args.plan.now c.as_slice.result.now _ _ c.as_slice.ensures c.of.ensures.founded)
    (stays_after _ _ _ _ c.of-2.ensures.grows c.of-2.ensures.founded c.written.ensures.founded)

pub returns-clause-known : goal.returns-clause-known
returns-clause-known g c = λ there world agrees.
    let plan = c.args.plan.now in
    let own = (g.A.Reader.stand c.args.asker.now).world in
    let found = agrees_before world _ _ c.written.ensures.grows agrees in
    let homes = c.in_ok-homes.ensures.known world (agrees_before world _ _ c.of-2.ensures.grows found)
    ∙ ap (map (whole_at world)) c.as_slice.ensures in
    let same = sym (c.in_ok-homes.ensures.value ∙ ap (map (whole_at own)) c.as_slice.ensures) ∙ homes in
    let ready = ready_over own world plan (g.A.Reader.stand c.args.asker.now).setting.pages same there in
    let made = c.in_ok-collections.ensures.known world found
    (subst (λ (stand : Stand). IsReady world plan stand.setting.pages) (sym c.of.ensures.stand) ready) homes
    (c.new-link_nodes.ensures world plan) in
    let holds = c.in_ok-append.ensures world plan [] made.are c.new-links.ensures in
    record {
      links = c.in_ok-written.ensures.known world c.args.page
          (links_by_collections world plan c.args.page) agrees holds;
      faults = c.new.ensures;
    }

pub returns-in_err-homes-clause-stand : goal.returns-in_err-homes-clause-stand
returns-in_err-homes-clause-stand g c = c.of.ensures.stand

pub returns-in_err-homes-clause-asks : goal.returns-in_err-homes-clause-asks
returns-in_err-homes-clause-asks g c = homes_asked _ _ _ _ c.as_slice.ensures c.of.ensures.asks

pub returns-in_err-homes-clause-grows : goal.returns-in_err-homes-clause-grows
returns-in_err-homes-clause-grows g c = c.of.ensures.grows

pub returns-in_err-collections-clause-stand : goal.returns-in_err-collections-clause-stand
returns-in_err-collections-clause-stand g c = c.of-2.ensures.stand ∙ c.of.ensures.stand

pub returns-in_err-collections-clause-asks : goal.returns-in_err-collections-clause-asks
returns-in_err-collections-clause-asks g c =
    asks_after nothing _ _ _ _ c.of.ensures.grows (homes_asked _ _ _ _ c.as_slice.ensures c.of.ensures.asks)
    (asks_none nothing _ _ _ c.of-2.ensures.asks)

pub returns-in_err-collections-clause-grows : goal.returns-in_err-collections-clause-grows
returns-in_err-collections-clause-grows g c = grows_trans _ _ _ c.of.ensures.grows c.of-2.ensures.grows

pub returns-in_err-append-clause-stand : goal.returns-in_err-append-clause-stand
returns-in_err-append-clause-stand g c = c.of-2.ensures.stand ∙ c.of.ensures.stand

pub returns-in_err-append-clause-asks : goal.returns-in_err-append-clause-asks
returns-in_err-append-clause-asks g c =
    asks_after nothing _ _ _ _ c.of.ensures.grows (homes_asked _ _ _ _ c.as_slice.ensures c.of.ensures.asks)
    (asks_none nothing _ _ _ c.of-2.ensures.asks)

pub returns-in_err-append-clause-grows : goal.returns-in_err-append-clause-grows
returns-in_err-append-clause-grows g c = grows_trans _ _ _ c.of.ensures.grows c.of-2.ensures.grows

pub returns-in_err-written-clause-stand : goal.returns-in_err-written-clause-stand
returns-in_err-written-clause-stand g c = c.written.ensures.stand ∙ c.of-2.ensures.stand ∙ c.of.ensures.stand

pub returns-in_err-written-clause-asks : goal.returns-in_err-written-clause-asks
returns-in_err-written-clause-asks g c =
    asks_after nothing _ _ _ _ c.of.ensures.grows (homes_asked _ _ _ _ c.as_slice.ensures c.of.ensures.asks)
    (asks_after nothing _ _ _ _ c.of-2.ensures.grows (asks_none nothing _ _ _ c.of-2.ensures.asks)
    (asks_none nothing _ _ _ c.written.ensures.asks))

pub returns-in_err-written-clause-grows : goal.returns-in_err-written-clause-grows
returns-in_err-written-clause-grows g c =
    grows_trans _ _ _ c.of.ensures.grows (grows_trans _ _ _ c.of-2.ensures.grows c.written.ensures.grows)

pub returns-clause-stand : goal.returns-clause-stand
returns-clause-stand g c = c.written.ensures.stand ∙ c.of-2.ensures.stand ∙ c.of.ensures.stand

pub returns-clause-asks : goal.returns-clause-asks
returns-clause-asks g c =
    asks_after nothing _ _ _ _ c.of.ensures.grows (homes_asked _ _ _ _ c.as_slice.ensures c.of.ensures.asks)
    (asks_after nothing _ _ _ _ c.of-2.ensures.grows (asks_none nothing _ _ _ c.of-2.ensures.asks)
    (asks_none nothing _ _ _ c.written.ensures.asks))

pub returns-clause-grows : goal.returns-clause-grows
returns-clause-grows g c =
    grows_trans _ _ _ c.of.ensures.grows (grows_trans _ _ _ c.of-2.ensures.grows c.written.ensures.grows)
