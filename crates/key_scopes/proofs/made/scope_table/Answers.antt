use Rattle.key_scopes.proofs.MadeLaws.{all_own}
use Rattle.key_scopes.proofs.TreeLaws.{tree_parents}
use Rattle.key_scopes.proofs.made.scope_table.Goals as goal

pub returns : goal.returns
returns c = λ world homes tree.
    let nodes = c.args.nodes.now in
    let known = c.in_ok-scopes.field-0 in
    all_own world nodes known (c.in_ok-scopes.ensures world homes (tree_parents nodes tree)) tree c.in_ok-table.table
    c.in_ok-table.ensures
