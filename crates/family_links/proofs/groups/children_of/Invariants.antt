use Rattle.std.proofs.Common.{◌≡◌, [], take}
use Rattle.link_groups.specs.Asked.{is_page_of_nodes}
use Rattle.link_groups.specs.LinkNodes.{AreLinkNodes, plan_names}
use Rattle.map_spec.specs.Scopes.{places}
use Rattle.plan_nodes.specs.Carried.{CarryValues}
use Rattle.readers.specs.Documents.{AsksOnly, nothing}
use Rattle.readers.specs.Founded.{Grows, StaysFounded}
use Rattle.readers.specs.Only.{TellsOnly}
use Rattle.readers.specs.Told.{Agrees}
use Rattle.reader_spec.specs.World.{World}
use Rattle.family_links.specs.Grouped.{AreChildren, kinds_of}
use Rattle.family_links.proofs.groups.children_of.Given as goal

abbrev pub invariant-loop-at : goal.invariant-loop-at
invariant-loop-at g l = record {
  children : (world : World) → Agrees world (g.A.Reader.told l.asker) → CarryValues world l.plan.nodes
      → (g.A.Reader.stand l.fn.asker).setting.pages ≡ l.plan.pages → l.kinds ≡ kinds_of world l.plan
      → AreLinkNodes world l.plan l.fn.link_nodes
      → AreChildren world l.plan (take l.at (places l.plan.nodes)) l.children.entries l.link_nodes;
  stand : g.A.Reader.stand l.asker ≡ g.A.Reader.stand l.fn.asker;
  founded : StaysFounded (plan_names l.plan) (g.A.Reader.told l.fn.asker) (g.A.Reader.told l.asker);
  asks : AsksOnly nothing [] (g.A.Reader.told l.fn.asker) (g.A.Reader.told l.asker);
  only : TellsOnly (is_page_of_nodes l.plan) (g.A.Reader.told l.fn.asker) (g.A.Reader.told l.asker);
  grows : Grows (g.A.Reader.told l.fn.asker) (g.A.Reader.told l.asker);
}
