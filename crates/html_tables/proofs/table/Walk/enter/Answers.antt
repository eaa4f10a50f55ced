use Rattle.std.proofs.Common.{subst, sym}
use Rattle.html_tables.specs.Walk.{HasColumns, IsContext}
use Rattle.html_tables.proofs.table.Walk.enter.Goals as goal

pub returns : goal.returns
returns c = λ names name around is.
    let same = sym c.in_ok-append_cell.ensures.groups in
    record {
      more = record {
        kept = λ group columns has. c.in_ok-within.ensures.kept group columns
            (subst (λ groups. HasColumns groups group columns) same has);
        cells = c.in_ok-append_cell.ensures.cells name around is;
      };
      context = c.in_ok-within.ensures.within names name around
          (subst (λ groups. IsContext groups c.args.context around) same is);
    }
