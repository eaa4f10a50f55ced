use Rattle.std.proofs.Common.{[], ◌∷◌, ◌++◌, Some, ap, sym, ◌∙◌, subst}
use Rattle.atomic_table.specs.Table.{opening}
use Rattle.desk_lock.specs.Knows.{first_view}
use Rattle.desk_lock.specs.Rule.{RuleKept}
use Rattle.desk_lock.proofs.FirstLaws.{starts}
use Rattle.desk_lock.proofs.ReadyLaws.{as_is}
use Rattle.desk_lock.proofs.entries.Desk+Book+P.start.Goals as goal

pub new-requires-2 : goal.new-requires-2
new-requires-2 g c =
    let book = c.in_ok-new.field-0 in
    subst (λ items. RuleKept as_is (opening (0 ∷ []) items (first_view c.args.limits)))
    (sym (c.push_reserved.ensures.items ∙ ap (λ items. items ++ Some book ∷ []) c.in_ok-slots.ensures.items))
    (starts c.args.limits as_is book c.in_ok-new.ensures)
