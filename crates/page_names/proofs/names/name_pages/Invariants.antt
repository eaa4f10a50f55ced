use Rattle.std.proofs.Common.{◌≡◌, ◌++◌}
use Rattle.std.specs.List.{flat_map}
use Rattle.std.specs.Vec.Iter.{into_iter_items}
use Rattle.map_spec.specs.Pages.{name_fault}
use Rattle.page_names.specs.Shown.{uses_shown}
use Rattle.page_names.specs.Taken.{AreNamed, Texts}
use Rattle.page_names.proofs.names.name_pages.Given as goal

abbrev pub invariant-loop-page : goal.invariant-loop-page
invariant-loop-page l = record {
  named : (taken : Texts) × AreNamed taken l.pages (uses_shown (into_iter_items l.page-iterator))
      (uses_shown l.fn.uses.items) l.names;
  faults : l.faults ≡ l.fn.faults ++ flat_map (name_fault l.nodes) l.pages;
}
