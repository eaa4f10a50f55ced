use Rattle.std.proofs.Common.{List, subst, sym}
use Rattle.readers.specs.Titled.{AreTitles, Titled}
use Rattle.plan_reader.proofs.cache.PlanCache.new.Goals as goal

pub returns : goal.returns
returns c = λ world documents. record {
  titles = subst (λ (titles : List Titled). AreTitles world titles) (sym c.new.ensures) tt;
  kept = c.new-2.ensures world documents;
}
