use Rattle.std.specs.Prelude.{true, false, nat_lt}
use Rattle.std.specs.List.Sorted.{IsNonDecreasingBy, IsPartitionPoint}
use Rattle.std.proofs.Common.{◌≡◌, ◌∙◌, ap, subst, sym, take}
use Rattle.std.proofs.lemmas.List.Sorted.{IsNonDecreasingBy-drop}
use Rattle.reltable_links.specs.Below.{is_behind}
use Rattle.reltable_links.proofs.BelowLaws.{cut}
use Rattle.reltable_links.proofs.placed.below.Goals as goal

pub returns : goal.returns
returns g c = λ order.
    let items = c.args.items.now in
    let place = g.T.Placed.place in
    let cell = c.args.cell.now in
    let first = c.count_before-first.result in
    let count = c.count_within-count.result in
    let rest = c.items_behind-rest.ensures in
    c.items_before.ensures ∙ ap (take count) rest
    ∙ cut (λ x. is_behind cell c.args.done (place x)) (λ x. nat_lt (place x) cell.end) items first count
    (c.count_before-first.ensures order)
    (subst (λ all. IsPartitionPoint (λ x. nat_lt (place x) cell.end ≡ true) (λ x. nat_lt (place x) cell.end ≡ false) all
    count) rest (c.count_within-count.ensures
    (subst (IsNonDecreasingBy place) (sym rest) (IsNonDecreasingBy-drop place first items order))))
