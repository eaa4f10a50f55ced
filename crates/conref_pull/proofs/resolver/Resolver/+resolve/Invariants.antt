use Rattle.std.proofs.Common.{◌≡◌, ◌+◌, ◌*◌, ◌≤◌, List, [], ◌∷◌, length}
use Rattle.std.specs.Arc.{arc_value}
use Rattle.dita_doc.specs.Siblings.{content}
use Rattle.dita_doc.specs.Tree.{size_of}
use Rattle.dita_doc.specs.declared.plan.PlanNode.{PlanNode}
use Rattle.conref_spec.specs.Content.{Place}
use Rattle.reader_spec.specs.World.{World}
use Rattle.readers.specs.Founded.{AreAmong, Grows}
use Rattle.readers.specs.Named.{reused_in}
use Rattle.readers.specs.Told.{Agrees}
use Rattle.conref_targets.specs.Asking.{Asks}
use Rattle.conref_targets.specs.Hrefs.{HaveNamed}
use Rattle.conref_targets.specs.Origin.{named_content}
use Rattle.conref_targets.specs.PageAsking.{AreMet, AsksPage, IsAt, PageAt}
use Rattle.conref_pull.specs.Linked.{AreGivenTo, IsGivenTo, AreLinks, IsLink}
use Rattle.conref_pull.specs.Met.{LinkMet, LinksMet}
use Rattle.conref_pull.specs.PutHrefs.{PutNamed}
use Rattle.conref_pull.specs.State.{IsSamePage, path_within}
use Rattle.conref_pull.specs.Step.{Taken}
use Rattle.conref_pull.specs.Walking.{Here, IsReady, among_made, around_of, ranges_put}
use Rattle.conref_pull.proofs.SizeLaws.{around, behind}
use Rattle.conref_pull.proofs.SpanLaws.{Behind, Left}
use Rattle.conref_pull.proofs.WalkLaws.{SoFar}
use Rattle.conref_pull.proofs.resolver.Resolver.+resolve.Given as goal

abbrev pub decreases-siblings : goal.decreases-siblings
decreases-siblings g l = around l.at.links + 8 * size_of (content l.siblings) + 1

abbrev pub decreases-element : goal.decreases-element
decreases-element g l = around l.at.links + 8 * size_of (content l.inside) + 5

abbrev pub decreases-element_with : goal.decreases-element_with
decreases-element_with g l = around l.at.links + 8 * size_of (content l.inside) + 4

abbrev pub decreases-unchanged : goal.decreases-unchanged
decreases-unchanged g l = around l.at.links + 8 * size_of (content l.inside) + 2

abbrev pub decreases-merged : goal.decreases-merged
decreases-merged g l = behind l.chain.now.end

abbrev pub decreases-ranges : goal.decreases-ranges
decreases-ranges g l = behind (l.at.links + 1) + 2

abbrev pub decreases-range : goal.decreases-range
decreases-range g l = behind l.at.links + 1

abbrev pub decreases-node_at : goal.decreases-node_at
decreases-node_at g l = behind l.at.links

abbrev pub invariant-siblings-loop-node : goal.invariant-siblings-loop-node
invariant-siblings-loop-node g l = record {
  small : size_of (content l.left) ≤ size_of (content l.fn.siblings);
  within : AreAmong (reused_in (named_content l.left)) (reused_in (named_content l.fn.siblings));
  page : IsSamePage l.fn.self l.self;
  asks : (nodes : List PlanNode) → (g.A.Reader.stand l.fn.asker).setting.nodes ≡ nodes
      → Asks nodes (l.fn.self.context.now.page.doc ∷ reused_in (named_content l.fn.siblings))
      (g.A.Reader.told l.fn.asker) (g.A.Reader.told l.asker);
  stand : g.A.Reader.stand l.asker ≡ g.A.Reader.stand l.fn.asker;
  grows : Grows (g.A.Reader.told l.fn.asker) (g.A.Reader.told l.asker);
  only : (page : PageAt) → Agrees page.world (g.A.Reader.told l.asker)
      → IsAt page (g.A.Reader.stand l.fn.asker) l.fn.self.context.now.page
      → AreMet page (named_content l.fn.siblings)
      → AsksPage page (g.A.Reader.told l.fn.asker) (g.A.Reader.told l.asker) × AreMet page (named_content l.left);
  hrefs : HaveNamed (g.A.Reader.told l.fn.asker) (named_content l.fn.siblings)
      → PutNamed (g.A.Reader.told l.fn.asker) l.fn.self
      → HaveNamed (g.A.Reader.told l.fn.asker) (named_content l.left) × PutNamed (g.A.Reader.told l.asker) l.self;
  walked : (world : World) (here : Here) → Agrees world (g.A.Reader.told l.asker)
      → IsReady world (g.A.Reader.stand l.fn.asker) l.at.links here l.fn.self l.fn.places
      → SoFar here.setting.pushed l.at.links (among_made here l.at.is_range (around_of l.at) (named_content l.left))
      (among_made here l.at.is_range (around_of l.at) (named_content l.fn.siblings)) l.fn.self l.self l.places;
}

abbrev pub decreases-siblings-loop-node : goal.decreases-siblings-loop-node
decreases-siblings-loop-node g l = size_of (content l.left)

abbrev pub invariant-ranges-loop-link : goal.invariant-ranges-loop-link
invariant-ranges-loop-link g l = record {
  page : IsSamePage l.fn.self l.self;
  asks : (nodes : List PlanNode) → (g.A.Reader.stand l.fn.asker).setting.nodes ≡ nodes
      → AreGivenTo (g.A.Reader.told l.fn.asker) l.fn.chain.links.items
      → Asks nodes (l.fn.self.context.now.page.doc ∷ []) (g.A.Reader.told l.fn.asker) (g.A.Reader.told l.asker);
  stand : g.A.Reader.stand l.asker ≡ g.A.Reader.stand l.fn.asker;
  grows : Grows (g.A.Reader.told l.fn.asker) (g.A.Reader.told l.asker);
  only : (page : PageAt) → Agrees page.world (g.A.Reader.told l.asker)
      → IsAt page (g.A.Reader.stand l.fn.asker) l.fn.self.context.now.page → LinksMet page l.fn.chain.links.items
      → AsksPage page (g.A.Reader.told l.fn.asker) (g.A.Reader.told l.asker);
  hrefs : AreGivenTo (g.A.Reader.told l.fn.asker) l.fn.chain.links.items
      → PutNamed (g.A.Reader.told l.fn.asker) l.fn.self → PutNamed (g.A.Reader.told l.asker) l.self;
  walked : (world : World) (here : Here) (path : List Place) (taken : List Taken) → Agrees world (g.A.Reader.told l.asker)
      → IsReady world (g.A.Reader.stand l.fn.asker) l.at.links here l.fn.self l.fn.places
      → l.chain.end ≤ length l.fn.self.path.items → l.chain.end ≤ 32 → path ≡ path_within l.fn.self l.chain.end
      → l.chain.end ≡ l.at.links + length taken → AreLinks path l.chain.end taken l.chain.links.items
      → Behind here l.at.links (around_of l.at) path l.link-items (ranges_put here (around_of l.at) taken)
      l.fn.self l.self l.places l.count l.link-index;
}

abbrev pub invariant-range-loop : goal.invariant-range-loop
invariant-range-loop g l = record {
  page : IsSamePage l.fn.self l.self;
  asks : (nodes : List PlanNode) → (g.A.Reader.stand l.fn.asker).setting.nodes ≡ nodes
      → IsGivenTo (g.A.Reader.told l.fn.asker) l.fn.link
      → Asks nodes (l.fn.self.context.now.page.doc ∷ []) (g.A.Reader.told l.fn.asker) (g.A.Reader.told l.asker);
  stand : g.A.Reader.stand l.asker ≡ g.A.Reader.stand l.fn.asker;
  grows : Grows (g.A.Reader.told l.fn.asker) (g.A.Reader.told l.asker);
  only : (page : PageAt) → Agrees page.world (g.A.Reader.told l.asker)
      → IsAt page (g.A.Reader.stand l.fn.asker) l.fn.self.context.now.page → LinkMet page l.fn.link
      → AsksPage page (g.A.Reader.told l.fn.asker) (g.A.Reader.told l.asker);
  hrefs : IsGivenTo (g.A.Reader.told l.fn.asker) l.fn.link → PutNamed (g.A.Reader.told l.fn.asker) l.fn.self
      → PutNamed (g.A.Reader.told l.asker) l.self;
  walked : (world : World) (here : Here) (one : Taken) → Agrees world (g.A.Reader.told l.asker)
      → IsReady world (g.A.Reader.stand l.fn.asker) l.at.links here l.fn.self l.fn.places → IsLink l.link one
      → Left (arc_value l.link.doc) here l.at.links l.at.is_range (around_of l.at) l.link.to
      (among_made here l.at.is_range (around_of l.at) one.range) l.fn.self l.self l.places l.place l.counter;
}
