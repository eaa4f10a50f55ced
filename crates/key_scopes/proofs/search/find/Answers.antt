use Rattle.std.proofs.Common.{◌≡◌, ◌∙◌, ap}
use Rattle.std.specs.Option.{option_copied, option_or}
use Rattle.key_scopes.specs.Found.{found_at, found_by, outermost_of, own_of}
use Rattle.key_scopes.specs.Rising.{answer_up, by_names, node_of}
use Rattle.key_scopes.specs.Table.{Table}
use Rattle.key_scopes.proofs.search.find.Goals as goal

pub returns : goal.returns
returns c =
    let table = c.args.table.now in
    let key = c.args.key.now in
    let scope = c.scope_within-scope.result in
    let top = option_copied c.outermost-own.result in
    let own : top ≡ outermost_of table scope key = c.outermost-own.ensures c.table.invariant.strict
    ∙ ap (λ (table : Table). outermost_of table scope key) c.table.view_is in
    c.outer_or_own.ensures
    ∙ ap (λ one. option_or one (node_of top)) (c.by_dots.ensures
    ∙ ap (answer_up (by_names table.scopes (own_of table) key) table.scopes) c.from_of-from.ensures)
    ∙ ap (found_by table scope key) own
    ∙ ap (λ n. found_at table n key) c.scope_within-scope.ensures
