use Rattle.std.proofs.Common.{◌≡◌, ◌+◌, ◌-◌, ◌∙◌, ap, arith, codes, length, rules, sym, None, []}
use Rattle.std.specs.BTreeSet as set
use Rattle.std.specs.BTreeMap.{is_at}
use Rattle.std.specs.List.{list_any}
use Rattle.std.specs.Ordering.{nat_cmp}
use Rattle.std.specs.Prelude.{◌==◌, suc}
use Rattle.dita_doc.proofs.Orders.{numbers_same}
use Rattle.map_spec.specs.Keys.{chain_from}
use Rattle.plan_nodes.specs.Home.{value_at}
use Rattle.key_answers.proofs.ChainLaws.{ends_again, ends_here, ends_undefined, goes_on, met_more, no_steps}
use Rattle.key_answers.proofs.SeenLaws.{scope_same, value_same}
use Rattle.key_answers.proofs.chain.followed.Goals as goal

pub loop-step-init : goal.loop-step-init
loop-step-init c = record {
  text = c.utf8.key;
  known = λ at.
      ap (list_any (is_at (nat_cmp at))) c.new-known.ensures.empty
      ∙ ap (list_any (λ other. other == at)) (sym c.new-met.ensures.items);
  same = λ world are left all.
      let nodes = c.args.defined.nodes.now in
      let long : length nodes + 1 ≡ left = omega (arith, all) in
      ap (λ n. chain_from n world nodes [] c.args.scope c.args.key.now) long
      ∙ ap (λ met. chain_from left world nodes met c.args.scope c.args.key.now) (sym c.new-met.ensures.items);
}

pub loop-step-preserved : goal.loop-step-preserved
loop-step-preserved c = record {
  text = c.key_of-key.utf8;
  known = λ other.
      met_more c.loop-step.met.items c.push.new.self.items c.in-Some.at other
      (set.contains nat_cmp c.loop-step.known other) (set.contains nat_cmp c.insert.new.self other) (is_at (nat_cmp c.in-Some.at) other)
      (c.in_ok-insert.ensures.updates.0 other) (numbers_same c.in-Some.at other) (c.loop-step.invariant.known other)
      c.in_ok-push.ensures.items;
  same = λ world are left all.
      let nodes = c.args.defined.nodes.now in
      let at = c.in-Some.at in
      let more : suc left + c.loop-step._step ≡ length nodes + 1 = omega (arith, all) in
      goes_on world nodes left c.loop-step.met.items c.loop-step.scope c.loop-step.key.now c.as_bytes.result.now _
      (c.loop-step.invariant.same world are (suc left) more) c.as_bytes.ensures.value at
      (sym c.in-Some.is ∙ c.in_ok-found.ensures ∙ are.table.found c.loop-step.scope c.as_bytes.result.now) c.contains.result
      (c.contains.ensures ∙ c.loop-step.invariant.known at) (value_at c.args.defined.homes.now at (codes "keyref"))
      (value_same world c.args.defined.homes.now nodes at (codes "keyref") are.homes) c.if-contains.false
      c.push.new.self.items c.in_ok-push.ensures.items c.in-Some-value.keyref.now c.scope-scope.result
      c.key_of-key.result.now c.in-Some-value.ensures (c.scope-scope.ensures ∙ scope_same nodes at are.scopes)
      c.key_of-key.ensures;
}

pub returns-in_default : goal.returns-in_default
returns-in_default c = λ world are.
    let nodes = c.args.defined.nodes.now in
    let left = length nodes - c.loop-step._step in
    let more : suc left + c.loop-step._step ≡ length nodes + 1 = omega (arith, c.loop-step-test.true) in
    let none : c.in_ok-found.found ≡ None = search rules in
    ends_undefined world nodes left c.loop-step.met.items c.loop-step.scope c.loop-step.key.now c.as_bytes.result.now _
    (c.loop-step.invariant.same world are (suc left) more) c.as_bytes.ensures.value _ _ c.last_of.result
    c.deref.result.now (sym none ∙ c.in_ok-found.ensures ∙ are.table.found c.loop-step.scope c.as_bytes.result.now)
    c.in_ok-ended.ensures
    (c.in_ok-fault.ensures world are) c.last_of.ensures c.deref.ensures.value

pub returns-then-contains : goal.returns-then-contains
returns-then-contains c = λ world are.
    let nodes = c.args.defined.nodes.now in
    let at = c.in-Some.at in
    let left = length nodes - c.loop-step._step in
    let more : suc left + c.loop-step._step ≡ length nodes + 1 = omega (arith, c.loop-step-test.true) in
    ends_again world nodes left c.loop-step.met.items c.loop-step.scope c.loop-step.key.now c.as_bytes.result.now _
    (c.loop-step.invariant.same world are (suc left) more) c.as_bytes.ensures.value at
    (sym c.in-Some.is ∙ c.in_ok-found.ensures ∙ are.table.found c.loop-step.scope c.as_bytes.result.now)
    c.contains.result (c.contains.ensures ∙ c.loop-step.invariant.known at)
    _ _ c.if-contains.true c.in_ok-ended-2.ensures c.in_ok-fault-2.ensures

pub returns-in_default-value : goal.returns-in_default-value
returns-in_default-value c = λ world are.
    let nodes = c.args.defined.nodes.now in
    let at = c.in-Some.at in
    let left = length nodes - c.loop-step._step in
    let more : suc left + c.loop-step._step ≡ length nodes + 1 = omega (arith, c.loop-step-test.true) in
    ends_here world nodes left c.loop-step.met.items c.loop-step.scope c.loop-step.key.now c.as_bytes.result.now _
    (c.loop-step.invariant.same world are (suc left) more) c.as_bytes.ensures.value at
    (sym c.in-Some.is ∙ c.in_ok-found.ensures ∙ are.table.found c.loop-step.scope c.as_bytes.result.now)
    c.contains.result (c.contains.ensures ∙ c.loop-step.invariant.known at)
    (value_at c.args.defined.homes.now at (codes "keyref"))
    (value_same world c.args.defined.homes.now nodes at (codes "keyref") are.homes) c.if-contains.false
    c.push.new.self.items c.in_ok-push.ensures.items _ c.in_default-value.ensures c.in_ok-ended-3.ensures

pub returns : goal.returns
returns c = λ world are.
    let nodes = c.args.defined.nodes.now in
    let all : 0 + c.loop-step._step ≡ length nodes + 1 = omega (arith, c.loop-step-test.false) in
    c.in_ok-ended-4.ensures
    ∙ sym (no_steps world nodes c.loop-step.met.items c.loop-step.scope c.loop-step.key.now)
    ∙ sym (c.loop-step.invariant.same world are 0 all)
