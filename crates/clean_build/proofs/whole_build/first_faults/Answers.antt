use Rattle.std.specs.Prelude.{[]}
use Rattle.std.proofs.Common.{sym, subst, ◌∙◌}
use Rattle.clean_build.specs.Gathering.{AreAsGood}
use Rattle.clean_build.proofs.GatheredLaws.{same_pages}
use Rattle.clean_build.proofs.RowLaws.{before_none, before_some}
use Rattle.clean_build.proofs.whole_build.first_faults.Goals as goal

pub returns-then-is_empty : goal.returns-then-is_empty
returns-then-is_empty c = λ world links.
    let first = c.new-gathered.ensures in
    let good = subst (AreAsGood c.put_faults.new.self.faults) (c.in_ok-copy_faults.ensures ∙ c.as_slice.ensures)
    (c.in_ok-put_faults.ensures.faults [] first.good) in record {
      put = same_pages [] [] c.new-gathered.result c.put_faults.new.self first.put c.in_ok-put_faults.ensures.pages
          c.in_ok-put_faults.ensures.total;
      good = before_none c.args.plan.now _ (sym c.is_empty.ensures ∙ c.if-is_empty.true) good;
    }

pub returns : goal.returns
returns c = λ world links.
    let first = c.new-gathered.ensures in
    let good = subst (AreAsGood c.put_faults.new.self.faults) (c.in_ok-copy_faults.ensures ∙ c.as_slice.ensures)
    (c.in_ok-put_faults.ensures.faults [] first.good) in
    let put = same_pages [] [] c.new-gathered.result c.put_faults.new.self first.put c.in_ok-put_faults.ensures.pages
    c.in_ok-put_faults.ensures.total in record {
      put = same_pages [] [] c.put_faults.new.self c.put_faults-2.new.self put c.in_ok-put_faults-2.ensures.pages
          c.in_ok-put_faults-2.ensures.total;
      good = before_some c.args.plan.now _ _ (sym c.is_empty.ensures ∙ c.if-is_empty.false)
          (c.in_ok-copy_faults-2.ensures ∙ c.faults.ensures world c.args.plan.now links)
          (c.in_ok-put_faults-2.ensures.faults c.args.plan.now.faults good);
    }
