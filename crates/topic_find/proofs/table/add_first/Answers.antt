use Rattle.std.proofs.Common.{ap, ◌∙◌, rules, unwrap_or}
use Rattle.std.specs.BTreeMap as tree
use Rattle.std.specs.Cmp.{IsTotalOrder}
use Rattle.topic_find.proofs.TableLaws.{first_stays, same_found}
use Rattle.topic_find.proofs.table.add_first.Goals as goal

pub returns : goal.returns
returns g c = λ other.
    let total : IsTotalOrder g.K.Ord.cmp = search rules in
    first_stays (tree.get g.K.Ord.cmp c.args.places.now c.args.key) _ _ _ c.or_insert.result.now c.args.place
    (c.or_insert.ensures.value ∙ ap (λ found. unwrap_or found c.args.place) c.in_ok-places.ensures.value)
    (search rules)
    (same_found g.K.Ord.cmp total c.args.places.now c.args.key other)
