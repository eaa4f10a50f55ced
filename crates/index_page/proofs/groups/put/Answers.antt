use Rattle.std.specs.Prelude.{unwrap_or}
use Rattle.std.proofs.Common.{◌∙◌, ap, arith}
use Rattle.index_page.proofs.GroupLaws.{listed_put}
use Rattle.index_page.proofs.groups.put.Goals as goal

pub returns-clause-rows : goal.returns-clause-rows
returns-clause-rows c = λ other.
    listed_put c.args.groups.now.entries _ c.args.text c.args.row c.or_insert-rows.result.now c.push.new.self c.new.result
    (c.or_insert-rows.ensures.value ∙ ap (λ found. unwrap_or found c.new.result) c.in_ok-groups.ensures.value)
    c.new.ensures.items c.in_ok-push.ensures.items other
    (let u = (c.in_ok-groups.ensures.update.0 c.push.new.self).0 other in grind (arith, u))
