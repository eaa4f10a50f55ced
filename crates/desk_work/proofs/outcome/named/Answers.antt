use Rattle.std.proofs.Common.{◌+◌, ◌∙◌, ap, length, refl}
use Rattle.std.proofs.lemmas.List.{length_push}
use Rattle.std.specs.Vec.Iter.{into_iter_items}
use Rattle.desk_work.specs.declared.built.PageRow.{PageRow}
use Rattle.desk_work.proofs.OutcomeLaws.{names_more, rows_more}
use Rattle.desk_work.proofs.outcome.named.Goals as goal

pub loop-row-preserved : goal.loop-row-preserved
loop-row-preserved c =
    let page : PageRow = record { name = c.in_ok-name.name; row = c.in-Some.row } in
    let pushed = c.in_ok-push.ensures in record {
      count = ap length pushed ∙ length_push c.loop-row.pages page ∙ ap (λ n. n + 1) c.loop-row.invariant.count;
      names = names_more c.args.plan.now c.loop-row.pages c.push.new.self c.loop-row.index page pushed
          c.in_ok-name.ensures c.loop-row.invariant.names;
      rows = rows_more c.loop-row.pages c.push.new.self page c.in-Some.row (into_iter_items c.loop-row.row-iterator)
          (into_iter_items c.next.new.self) c.args.rows.items pushed refl c.in-Some.ensures.steps.0
          c.loop-row.invariant.rows;
    }
