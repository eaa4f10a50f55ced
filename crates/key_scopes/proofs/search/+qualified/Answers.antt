use Rattle.std.proofs.Common.{rules, ◌≡◌, ◌∙◌, ap, arith, sym, Some, None}
use Rattle.key_scopes.specs.Found.{own_of}
use Rattle.key_scopes.specs.Table.{Table}
use Rattle.key_scopes.specs.Ways.{way_of}
use Rattle.key_scopes.proofs.SearchLaws.{into_way, none_by, past_way, some_by}
use Rattle.key_scopes.proofs.WayLaws.{behind_way, by_all_ways}
use Rattle.key_scopes.proofs.search.+qualified.Goals as goal

pub returns-in_err-step : goal.returns-in_err-step
returns-in_err-step t c =
    let all = c.args.table.now.scopes in
    let own_at = own_of c.args.table.now in
    c.from_residual.ensures
    ∙ sym (by_all_ways all own_at c.args.scope c.args.key.now
    ∙ none_by all own_at c.args.scope c.args.key.now None c.next_step.result c.next_step.ensures.value
    c.in_err-step.was)

pub loop-node-init : goal.loop-node-init
loop-node-init t c =
    let all = c.args.table.now.scopes in
    let own_at = own_of c.args.table.now in
    record {
      left = omega arith;
      rest = search rules;
      value = by_all_ways all own_at c.args.scope c.args.key.now
          ∙ some_by all own_at c.args.scope c.args.key.now None c.next_step.result c.in_ok-step.step
          c.next_step.ensures.value c.in_ok-step.was;
    }

pub loop-node-preserved-in-Some-next_step : goal.loop-node-preserved-in-Some-next_step
loop-node-preserved-in-Some-next_step t c =
    let all = c.args.table.now.scopes in
    let own_at = own_of c.args.table.now in
    let way = way_of c.loop-node.step in
    let around = c.loop-node.around in
    let left = c.loop-node.left.now in
    let none : c.own.result ≡ None = search rules in
    let nothing : c.qualified.result ≡ None = search rules in
    let own : c.own.result ≡ own_at way.child way.rest = c.own.ensures c.table.invariant.strict
    ∙ ap (λ (table : Table). own_of table way.child way.rest) c.table.view_is in
    record {
      left = search rules;
      rest = search rules;
      value = c.loop-node.invariant.value
          ∙ past_way all own_at way (behind_way all own_at around left (Some way)) (sym own ∙ none)
          (sym c.qualified.ensures ∙ nothing)
          ∙ some_by all own_at around left (Some way) c.next_step-in-loop-node.result c.in-Some-next_step.next
          c.next_step-in-loop-node.ensures.value c.in-Some-next_step.is;
    }

pub returns-in_err-step-in-None : goal.returns-in_err-step-in-None
returns-in_err-step-in-None t c =
    let all = c.args.table.now.scopes in
    let own_at = own_of c.args.table.now in
    let way = way_of c.loop-node.step in
    let around = c.loop-node.around in
    let left = c.loop-node.left.now in
    let none : c.own.result ≡ None = search rules in
    let own : c.own.result ≡ own_at way.child way.rest = c.own.ensures c.table.invariant.strict
    ∙ ap (λ (table : Table). own_of table way.child way.rest) c.table.view_is in
    c.from_residual-in_err-step-in-None.ensures
    ∙ sym (c.loop-node.invariant.value
    ∙ into_way all own_at way (behind_way all own_at around left (Some way)) (sym own ∙ none)
    (none_by all own_at around left (Some way) c.next_step-in-loop-node.result
    c.next_step-in-loop-node.ensures.value c.in-None.is)
    ∙ none_by all own_at way.child way.rest None c.next_step-in-None.result
    c.next_step-in-None.ensures.value c.in_err-step-in-None.was)

pub loop-node-preserved : goal.loop-node-preserved
loop-node-preserved t c =
    let all = c.args.table.now.scopes in
    let own_at = own_of c.args.table.now in
    let way = way_of c.loop-node.step in
    let around = c.loop-node.around in
    let left = c.loop-node.left.now in
    let none : c.own.result ≡ None = search rules in
    let own : c.own.result ≡ own_at way.child way.rest = c.own.ensures c.table.invariant.strict
    ∙ ap (λ (table : Table). own_of table way.child way.rest) c.table.view_is in
    record {
      left = search rules;
      rest = search rules;
      value = c.loop-node.invariant.value
          ∙ into_way all own_at way (behind_way all own_at around left (Some way)) (sym own ∙ none)
          (none_by all own_at around left (Some way) c.next_step-in-loop-node.result
          c.next_step-in-loop-node.ensures.value c.in-None.is)
          ∙ some_by all own_at way.child way.rest None c.next_step-in-None.result c.in_ok-step-in-None.step
          c.next_step-in-None.ensures.value c.in_ok-step-in-None.was;
    }
