use Rattle.std.proofs.Common.{List, ◌++◌, arith, ap, length, ◌∙◌, ◌-◌, ◌+◌}
use Rattle.dita_doc.specs.declared.fact.FactKey.{FactKey}
use Rattle.desk_language.specs.Language.{pages_from}
use Rattle.desk_work.proofs.RoundLaws.{page_more}
use Rattle.desk_work.proofs.rounds.parts_of.Goals as goal

pub loop-index-preserved : goal.loop-index-preserved
loop-index-preserved c =
    let key = c.args.key.now in
    let total = length c.args.plan.now.pages in
    record {
      parts = ap (λ (front : List FactKey).
          front ++ pages_from key.map key.val (c.loop-index.index + 1) (total - (c.loop-index.index + 1)))
          c.push_reserved.ensures.items
          ∙ page_more key _ c.loop-index.parts.items _ c.loop-index.index total (omega arith) c.in_ok-page_key.ensures c.loop-index.invariant.parts;
      count = omega arith;
      room = omega arith;
    }
