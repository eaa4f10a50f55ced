use Rattle.std.proofs.Common.{◌≡◌, take}
use Rattle.std.specs.Prelude.{[], map}
use Rattle.std.specs.List.{filter_map}
use Rattle.readers.specs.Documents.{AsksOnly, nothing}
use Rattle.readers.specs.Founded.{Grows, StaysFounded}
use Rattle.readers.specs.Only.{TellsOnly, is_title_among}
use Rattle.readers.specs.Told.{Agrees}
use Rattle.reader_spec.specs.World.{World}
use Rattle.link_groups.specs.LinkLists.{link_shown, page_link_in}
use Rattle.link_groups.specs.LinkNodes.{names_of_pages}
use Rattle.link_groups.proofs.link_list.all_written.Given as goal

abbrev pub invariant-loop-link : goal.invariant-loop-link
invariant-loop-link g l = record {
  written : (world : World) → Agrees world (g.A.Reader.told l.asker)
      → l.written ≡ filter_map (page_link_in world l.pages l.own) (map link_shown (take l.link-index l.links));
  stand : g.A.Reader.stand l.asker ≡ g.A.Reader.stand l.fn.asker;
  founded : StaysFounded (names_of_pages l.pages) (g.A.Reader.told l.fn.asker) (g.A.Reader.told l.asker);
  asks : AsksOnly nothing [] (g.A.Reader.told l.fn.asker) (g.A.Reader.told l.asker);
  only : TellsOnly (is_title_among (names_of_pages l.pages)) (g.A.Reader.told l.fn.asker) (g.A.Reader.told l.asker);
  grows : Grows (g.A.Reader.told l.fn.asker) (g.A.Reader.told l.asker);
}
