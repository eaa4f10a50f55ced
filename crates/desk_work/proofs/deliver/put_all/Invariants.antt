use Rattle.std.proofs.Common.{◌≡◌, map, take}
use Rattle.dita_outside.specs.Pages.{TakesPages}
use Rattle.desk_work.specs.Build.{page_seen}
use Rattle.desk_work.proofs.deliver.put_all.Given as goal

abbrev pub invariant-loop-page : goal.invariant-loop-page
invariant-loop-page g l = record {
  taken : TakesPages (g.O.Outlet.pages l.fn.outlet) (g.O.Outlet.pages l.outlet)
      (map page_seen (take l.page-index l.pages));
  counted : g.O.Outlet.faults l.outlet ≡ g.O.Outlet.faults l.fn.outlet;
}
