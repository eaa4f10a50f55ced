use Rattle.std.proofs.Common.{◌≡◌, ◌∙◌, ap, arith, length}
use Rattle.key_scopes.specs.Table.{Table}
use Rattle.key_scopes.proofs.OwnKeyLaws.{own_at}
use Rattle.key_scopes.proofs.table.ScopeTable.own.Goals as goal

pub returns : goal.returns
returns c = λ world nodes is.
    let long : length c.self.inside.own_keys.items ≡ length c.self.inside.scopes = c.self.invariant.long in
    let seen : length c.self.inside.scopes ≡ length c.args.self.now.scopes =
    ap (λ (t : Table). length t.scopes) c.self.view_is in
    own_at world nodes c.self.inside.own_keys.items c.args.scope c.index.result.now
    (ap (λ (t : Table). t.own_keys) c.self.view_is ∙ is.own_keys)
    (omega (arith, c.requires, ap length is.scopes)) (omega (arith, c.requires, long, seen)) c.index.ensures
