use Rattle.std.proofs.Common.{◌∙◌, ap, subst, sym, take}
use Rattle.std.proofs.Common.{◌≡◌, true, false, List}
use Rattle.std.specs.List.Sorted.{IsPartitionPoint, IsSorted}
use Rattle.key_scopes.specs.declared.children.ChildName.{ChildName}
use Rattle.key_scopes.specs.Children.{AreNotBelow, is_same, name_cmp}
use Rattle.key_scopes.proofs.ChildLaws.{cut_named, not_below, sorted_behind}
use Rattle.key_scopes.proofs.children.named_in.Goals as goal

pub returns : goal.returns
returns c = λ sorted.
    let names = c.args.sorted.now in
    let parent = c.args.parent in
    let name = c.args.name.now in
    let first = c.place_for-first.result in
    let count = c.count_of-count.result in
    let below = c.place_for-first.ensures sorted in
    let rest = c.names_behind-rest.ensures in
    let same = c.count_of-count.ensures
    (subst (IsSorted name_cmp) (sym rest) (sorted_behind names first sorted))
    (subst (AreNotBelow parent name) (sym rest) (not_below parent name names first below)) in
    c.names_before.ensures ∙ ap (take count) rest
    ∙ cut_named parent name names first count below
    (subst (λ (all : List ChildName). IsPartitionPoint (λ (own : ChildName). is_same parent name own ≡ true)
    (λ (own : ChildName). is_same parent name own ≡ false) all count) rest same)
