use Rattle.std.proofs.Common.{◌≡◌, ◌∙◌, ◌∷◌, ℕ, ap, find, is_some, nat_le, subst, sym}
use Rattle.std.specs.Option.{option_copied}
use Rattle.key_scopes.specs.declared.children.ChildName.{ChildName}
use Rattle.key_scopes.specs.Table.{firsts_of, own_in}
use Rattle.key_scopes.specs.Ways.{AreInTurn}
use Rattle.key_scopes.proofs.PartLaws.{holder_behind, no_holder}
use Rattle.key_scopes.proofs.TurnLaws.{filter_in_turn}
use Rattle.key_scopes.proofs.search.first_holder.Goals as goal

pub returns-in_err-scope : goal.returns-in_err-scope
returns-in_err-scope c = λ strict turn.
    let own = λ (scope : ℕ). own_in (firsts_of c.args.definitions.now.sorted.items) scope c.args.key.now in
    let name = c.in-Some.name.now in
    let others = c.in-Some.others.now in
    let split : c.loop-name.left.now ≡ name ∷ others = c.in-Some.ensures.cases.0 in
    ap option_copied c.from_residual.ensures
    ∙ sym (c.loop-name.invariant.found strict turn
    ∙ ap (find (λ (n : ChildName). is_some (own n.child))) split
    ∙ no_holder own name others (subst AreInTurn split (c.loop-name.invariant.turn turn)) (c.in_err-scope.ensures strict))

pub loop-name-preserved : goal.loop-name-preserved
loop-name-preserved c =
    let own = λ (scope : ℕ). own_in (firsts_of c.args.definitions.now.sorted.items) scope c.args.key.now in
    let name = c.in-Some.name.now in
    let others = c.in-Some.others.now in
    let scope = c.in_ok-scope.scope in
    let split : c.loop-name.left.now ≡ name ∷ others = c.in-Some.ensures.cases.0 in
    let inner = λ (turn : AreInTurn c.args.names.now). subst AreInTurn split (c.loop-name.invariant.turn turn) in
    record {
      turn = λ turn. subst AreInTurn (sym (c.names_from-left.ensures.value (inner turn).1))
          (filter_in_turn (λ (n : ChildName). nat_le scope n.child) others (inner turn).1);
      found = λ strict turn. c.loop-name.invariant.found strict turn
          ∙ ap (find (λ (n : ChildName). is_some (own n.child))) split
          ∙ holder_behind own name others (inner turn) scope (c.in_ok-scope.ensures strict) c.if-scope-name.false
          ∙ sym (ap (find (λ (n : ChildName). is_some (own n.child)))
          (c.names_from-left.ensures.value (inner turn).1));
    }
