use Rattle.std.proofs.Common.{sym, ◌∙◌}
use Rattle.key_scopes.proofs.OwnKeyLaws.{put_new, put_there}
use Rattle.key_scopes.proofs.own_keys.put_first.Goals as goal

pub returns-in_ok-insert : goal.returns-in_ok-insert
returns-in_ok-insert c =
    put_new c.args.map.now c.args.key c.args.node c.insert.new.self
    (sym c.contains_key.ensures ∙ c.if-not-contains_key.true) c.in_ok-insert.ensures.entries

pub returns-else-not-contains_key : goal.returns-else-not-contains_key
returns-else-not-contains_key c =
    put_there c.args.map.now c.args.key c.args.node (sym c.contains_key.ensures ∙ c.if-not-contains_key.false)
