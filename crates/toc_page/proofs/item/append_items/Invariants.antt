use Rattle.std.proofs.Common.{◌≡◌, ◌++◌, [], drop, map}
use Rattle.std.specs.Prelude.{false}
use Rattle.plan_nodes.specs.Preorder.{shape}
use Rattle.readers.specs.Documents.{AsksOnly, nothing}
use Rattle.readers.specs.Founded.{Grows, StaysFounded}
use Rattle.readers.specs.Only.{TellsOnly}
use Rattle.readers.specs.Told.{Agrees}
use Rattle.reader_spec.specs.World.{World}
use Rattle.toc_page.specs.Made.{contents_names, is_of_contents}
use Rattle.toc_page.specs.Opened.{Page, stack_of}
use Rattle.toc_page.specs.Toc.{IsToc}
use Rattle.toc_page.proofs.ItemLaws.{walk}
use Rattle.toc_page.proofs.item.append_items.Given as goal

abbrev pub invariant-loop-at : goal.invariant-loop-at
invariant-loop-at g l = record {
  known : (world : World) → Agrees world (g.A.Reader.told l.asker) → IsToc world l.toc
      → (g.A.Reader.stand l.fn.asker).setting.pages ≡ l.toc.plan.now.pages
      → l.fn.out ++ walk world l.toc.plan.now 1 (drop 1 (map shape l.toc.plan.now.nodes)) (Page false)
      ≡ l.out ++ walk world l.toc.plan.now l.at (drop l.at (map shape l.toc.plan.now.nodes)) (stack_of l.items);
  stand : g.A.Reader.stand l.asker ≡ g.A.Reader.stand l.fn.asker;
  founded : StaysFounded (contents_names l.toc.plan.now) (g.A.Reader.told l.fn.asker) (g.A.Reader.told l.asker);
  asks : AsksOnly nothing [] (g.A.Reader.told l.fn.asker) (g.A.Reader.told l.asker);
  only : TellsOnly (is_of_contents l.toc.plan.now) (g.A.Reader.told l.fn.asker) (g.A.Reader.told l.asker);
  grows : Grows (g.A.Reader.told l.fn.asker) (g.A.Reader.told l.asker);
}
