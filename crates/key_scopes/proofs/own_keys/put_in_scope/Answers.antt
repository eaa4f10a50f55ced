use Rattle.std.proofs.Common.{◌<◌, ◌≤◌, length, rules}
use Rattle.key_scopes.proofs.OwnKeyLaws.{put_in, put_past}
use Rattle.key_scopes.proofs.own_keys.put_in_scope.Goals as goal

pub returns-in_ok-put_first : goal.returns-in_ok-put_first
returns-in_ok-put_first c =
    let within : c.args.scope < length c.args.maps.now.items = search rules in
    put_in c.args.maps.now.items c.args.scope (c.args.key, c.args.node) c.index_mut.result.now c.put_first.new.map within
    c.index_mut.ensures.value c.in_ok-put_first.ensures

pub returns-else-scope-len : goal.returns-else-scope-len
returns-else-scope-len c =
    let past : length c.args.maps.now.items ≤ c.args.scope = search rules in
    put_past c.args.maps.now.items c.args.scope (c.args.key, c.args.node) past
