use Rattle.std.specs.Prelude.{ℕ, List}
use Rattle.std.proofs.Common.{subst}
use Rattle.conref_push.specs.Table.{IsPushTable}
use Rattle.dita_doc.specs.declared.plan.PagePlan.{PagePlan}
use Rattle.page_table.specs.Pages.{IsPageTable}
use Rattle.readers.specs.Setting.{Stand}
use Rattle.readers.specs.Told.{Agrees}
use Rattle.clean_build.proofs.whole_build.tables_of.Goals as goal

pub returns-clause-tables : goal.returns-clause-tables
returns-clause-tables g c = λ keyed.
    let own = (g.R.Reader.stand c.args.reader.now).world in
    let agrees = subst (λ (stand : Stand). Agrees stand.world (g.R.Reader.told c.of.new.reader))
    c.in_ok-pushes.ensures.stand (g.met.R.Reader.agrees c.of.new.reader) in
    record {
      keyed = keyed;
      pushed = subst (λ (all : List (List ℕ)). IsPushTable own all c.in_ok-pushes.pushes) c.as_slice.ensures
          (c.in_ok-pushes.ensures.known own agrees);
      paged = subst (λ (all : List PagePlan). IsPageTable all c.in_ok-pages.pages) c.as_slice-2.ensures
          c.in_ok-pages.ensures;
    }
