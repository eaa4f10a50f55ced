use Rattle.std.proofs.Common.{◌≡◌, take}
use Rattle.dita_outside.specs.Pages.{TakesPages}
use Rattle.desk_top.specs.Builds.{pages_put}
use Rattle.desk_top.proofs.deliver.deliver.Given as goal

abbrev pub invariant-loop-page : goal.invariant-loop-page
invariant-loop-page g l = record {
  taken : TakesPages (g.O.Outlet.pages l.fn.outlet) (g.O.Outlet.pages l.outlet)
      (pages_put l.number (take l.page-index l.pages));
  counted : g.O.Outlet.faults l.outlet ≡ g.O.Outlet.faults l.fn.outlet;
}
