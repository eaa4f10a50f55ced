use Rattle.std.proofs.Common.{◌≡◌, map, subst, sym}
use Rattle.key_scopes.specs.Made.{IsTableOf}
use Rattle.map_spec.specs.Cascade.{whole_at}
use Rattle.plan_nodes.specs.Preorder.{IsTree}
use Rattle.toc_page.proofs.LabelLaws.{no_keys}
use Rattle.toc_page.proofs.keys.key_table.Goals as goal

pub returns-then-not-needs_keys : goal.returns-then-not-needs_keys
returns-then-not-needs_keys c = λ world tree same.
    no_keys world c.args.plan.now c.args.homes.now same (λ at. c.needs_keys.ensures at c.if-not-needs_keys.true)

pub returns : goal.returns
returns c = λ world tree same.
    let homes = subst (λ nodes. c.args.homes.now ≡ map (whole_at world) nodes) (sym c.as_slice.ensures) same in
    let table = c.in_ok-table.ensures world homes (subst IsTree (sym c.as_slice.ensures) tree) in
    record { each = λ at is. subst (λ nodes. IsTableOf world nodes c.in_ok-table.table) c.as_slice.ensures table }
