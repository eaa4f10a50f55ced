use Rattle.std.proofs.Common.{rules, ◌≡◌, ◌<◌, ◌∙◌, ◌++◌, ◌∷◌, [], ap, sym, subst, None}
use Rattle.std.specs.Prelude.{option_map}
use Rattle.key_scopes.specs.declared.lookup.OpenScope.{OpenScope}
use Rattle.key_scopes.specs.Found.{own_of}
use Rattle.key_scopes.specs.Table.{Table}
use Rattle.key_scopes.specs.Ways.{way_of}
use Rattle.key_scopes.proofs.LookupLaws.{LooksInto, entered_ends, looks_first, looks_found, looks_opened, looks_passed, looks_without, none_within, opened, step_rest, steps_left, steps_opened, steps_passed, steps_popped}
use Rattle.key_scopes.proofs.SearchLaws.{none_by, some_by}
use Rattle.key_scopes.proofs.lookup.by_ways.Goals as goal

pub loop-inner-init : goal.loop-inner-init
loop-inner-init c =
    let table = c.args.table.now in
    let first : OpenScope = record { scope = c.args.scope; rest = c.args.key; last = None } in
    record {
      looks = subst (LooksInto table c.args.key.now c.args.scope)
          (sym (c.in_ok-push.ensures.items ∙ ap (λ l. l ++ first ∷ []) c.new-entered.ensures.items))
          (looks_first table c.args.key.now c.args.scope c.args.key (search rules));
      ends = c.requires;
    }

pub loop-inner-smaller-in_default-next_step : goal.loop-inner-smaller-in_default-next_step
loop-inner-smaller-in_default-next_step c =
    let outer = c.pop.new.self.items in
    subst (λ l. steps_left outer < steps_left l) (sym c.in-Some.ensures.items) (steps_popped outer c.in-Some.inner)

pub loop-inner-preserved-in_default-next_step : goal.loop-inner-preserved-in_default-next_step
loop-inner-preserved-in_default-next_step c =
    let table = c.args.table.now in
    let inner = c.in-Some.inner in
    let looks = subst (LooksInto table c.args.key.now c.args.scope) c.in-Some.ensures.items c.loop-inner.invariant.looks in
    let none : c.next_step.result ≡ None = search rules in
    let nothing = none_by table.scopes (own_of table) inner.scope inner.rest.now (option_map way_of inner.last)
    c.next_step.result c.next_step.ensures.value none in
    record {
      looks = looks_without table c.args.key.now c.args.scope c.pop.new.self.items inner looks nothing;
      ends = c.in_ok-note.ensures table c.args.key.now inner.rest.now c.loop-inner.invariant.ends
          (entered_ends table c.args.key.now c.args.scope c.pop.new.self.items inner looks) (search rules)
          (none_within table c.args.key.now c.args.scope c.pop.new.self.items inner looks nothing);
    }

pub returns-in-Some-own-clause-found : goal.returns-in-Some-own-clause-found
returns-in-Some-own-clause-found c =
    let table = c.args.table.now in
    let inner = c.in-Some.inner in
    let step = c.in-Some-next_step.step in
    let looks = subst (LooksInto table c.args.key.now c.args.scope) c.in-Some.ensures.items c.loop-inner.invariant.looks in
    let next = some_by table.scopes (own_of table) inner.scope inner.rest.now (option_map way_of inner.last)
    c.next_step.result step c.next_step.ensures.value c.in-Some-next_step.is in
    let own : c.own.result ≡ own_of table step.child step.rest.now = c.own.ensures c.table.invariant.strict
    ∙ ap (λ (t : Table). own_of t step.child step.rest.now) c.table.view_is in
    sym (looks_found table c.args.key.now c.args.scope c.pop.new.self.items inner looks step next c.in-Some-own.node
    (sym own ∙ c.in-Some-own.is))

pub loop-inner-smaller-in-Continue-branch-4 : goal.loop-inner-smaller-in-Continue-branch-4
loop-inner-smaller-in-Continue-branch-4 c =
    let outer = c.pop.new.self.items in
    let inner = c.in-Some.inner in
    let step = c.in-Some-next_step.step in
    subst (λ l. steps_left c.push-then-may_hold.new.self.items < steps_left l) (sym c.in-Some.ensures.items)
    (subst (λ l. steps_left l < steps_left (outer ++ inner ∷ []))
    (sym (c.in_ok-push-3.ensures.items ∙ ap (λ l. l ++ opened step ∷ []) c.in_ok-push-2.ensures.items))
    (steps_opened outer inner step (search rules) (search rules) (search rules)))

pub loop-inner-preserved-in-Continue-branch-4 : goal.loop-inner-preserved-in-Continue-branch-4
loop-inner-preserved-in-Continue-branch-4 c =
    let table = c.args.table.now in
    let inner = c.in-Some.inner in
    let step = c.in-Some-next_step.step in
    let outer = c.pop.new.self.items in
    let looks = subst (LooksInto table c.args.key.now c.args.scope) c.in-Some.ensures.items c.loop-inner.invariant.looks in
    let next = some_by table.scopes (own_of table) inner.scope inner.rest.now (option_map way_of inner.last)
    c.next_step.result step c.next_step.ensures.value c.in-Some-next_step.is in
    let none : c.own.result ≡ None = search rules in
    let own : c.own.result ≡ own_of table step.child step.rest.now = c.own.ensures c.table.invariant.strict
    ∙ ap (λ (t : Table). own_of t step.child step.rest.now) c.table.view_is in
    let ends = step_rest table.scopes (own_of table) inner.scope c.args.key.now inner.rest.now (option_map way_of inner.last)
    c.next_step.result step (entered_ends table c.args.key.now c.args.scope outer inner looks)
    c.next_step.ensures.value c.in-Some-next_step.is in
    record {
      looks = subst (LooksInto table c.args.key.now c.args.scope)
          (sym (c.in_ok-push-3.ensures.items ∙ ap (λ l. l ++ opened step ∷ []) c.in_ok-push-2.ensures.items))
          (looks_opened table c.args.key.now c.args.scope outer inner looks step next (sym own ∙ none) ends);
      ends = c.loop-inner.invariant.ends;
    }

pub loop-inner-smaller : goal.loop-inner-smaller
loop-inner-smaller c =
    let outer = c.pop.new.self.items in
    let inner = c.in-Some.inner in
    let step = c.in-Some-next_step.step in
    subst (λ l. steps_left c.push-in-Some.new.self.items < steps_left l) (sym c.in-Some.ensures.items)
    (subst (λ l. steps_left l < steps_left (outer ++ inner ∷ [])) (sym c.in_ok-push-2.ensures.items)
    (steps_passed outer inner step (search rules) (search rules)))

pub loop-inner-preserved : goal.loop-inner-preserved
loop-inner-preserved c =
    let table = c.args.table.now in
    let inner = c.in-Some.inner in
    let step = c.in-Some-next_step.step in
    let outer = c.pop.new.self.items in
    let looks = subst (LooksInto table c.args.key.now c.args.scope) c.in-Some.ensures.items c.loop-inner.invariant.looks in
    let next = some_by table.scopes (own_of table) inner.scope inner.rest.now (option_map way_of inner.last)
    c.next_step.result step c.next_step.ensures.value c.in-Some-next_step.is in
    let none : c.own.result ≡ None = search rules in
    let own : c.own.result ≡ own_of table step.child step.rest.now = c.own.ensures c.table.invariant.strict
    ∙ ap (λ (t : Table). own_of t step.child step.rest.now) c.table.view_is in
    let ends = step_rest table.scopes (own_of table) inner.scope c.args.key.now inner.rest.now (option_map way_of inner.last)
    c.next_step.result step (entered_ends table c.args.key.now c.args.scope outer inner looks)
    c.next_step.ensures.value c.in-Some-next_step.is in
    record {
      looks = subst (LooksInto table c.args.key.now c.args.scope) (sym c.in_ok-push-2.ensures.items)
          (looks_passed table c.args.key.now c.args.scope outer inner looks step next (sym own ∙ none)
          (c.may_hold.ensures c.if-may_hold.false table c.args.key.now c.loop-inner.invariant.ends ends));
      ends = c.loop-inner.invariant.ends;
    }
