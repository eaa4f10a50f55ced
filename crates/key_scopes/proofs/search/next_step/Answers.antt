use Rattle.std.proofs.Common.{rules, ◌≡◌, ◌∙◌, ◌+◌, ◌<◌, None, Some, ap, arith, filter, find, option_map, sym, subst}
use Rattle.std.specs.List.{All}
use Rattle.std.specs.Option.{option_copied}
use Rattle.std.proofs.lemmas.List.{take_rest}
use Rattle.key_scopes.specs.Steps.{last_order, name_order}
use Rattle.key_scopes.specs.Children.{AreChildNames}
use Rattle.key_scopes.specs.Found.{own_of}
use Rattle.key_scopes.specs.Table.{Table}
use Rattle.key_scopes.specs.Ways.{AreInTurn, is_behind, is_earlier, may_hold, way_of}
use Rattle.key_scopes.proofs.CutLaws.{first_way, found_left, holds_there, left_there, named_in_turn, named_there, way_at_end, way_found, way_none, way_not_found, way_past_longest, way_still}
use Rattle.key_scopes.proofs.SearchLaws.{HasNames}
use Rattle.key_scopes.proofs.TurnLaws.{filter_in_turn}
use Rattle.key_scopes.proofs.search.next_step.Goals as goal
use Rattle.key_scopes.proofs.search.next_step.Goals.{in-Some, in_default}

pub loop-dot-init : goal.loop-dot-init
loop-dot-init c = record {
  short = search rules;
  value = way_none c.args.table.now.scopes (own_of c.args.table.now) c.args.scope c.args.key.now
      (option_map way_of c.args.after);
}

pub loop-dot-preserved-then-byte-ne46 : goal.loop-dot-preserved-then-byte-ne46
loop-dot-preserved-then-byte-ne46 c = record {
  short = c.loop-dot.invariant.short;
  value = c.loop-dot.invariant.value
      ∙ way_still c.args.table.now.scopes (own_of c.args.table.now) c.args.scope c.args.key.now
      (option_map way_of c.args.after) c.loop-dot.dot 0 (λ is. absurd (c.if-byte-ne46.true is));
}

pub loop-dot-preserved : goal.loop-dot-preserved
loop-dot-preserved c =
    let all = c.args.table.now.scopes in
    let own_at = own_of c.args.table.now in
    let scope = c.args.scope in
    let key = c.args.key.now in
    let last = option_map way_of c.args.after in
    let dot = c.loop-dot.dot in
    let named : c.named.result.now ≡ named_there all own_at scope key last dot =
    c.named.ensures all (subst (λ (t : Table). AreChildNames t.scopes c.table.inside.children.sorted.items
    c.table.inside.children.longest) c.table.view_is c.table.invariant.children) in
    let named_turn = named_in_turn all own_at scope key last dot in
    let turn : AreInTurn c.named.result.now = subst AreInTurn (sym named) named_turn in
    let after = c.names_after-names.ensures.value turn ∙ ap (filter (is_behind last)) named in
    let after_turn = subst AreInTurn (sym after)
    (filter_in_turn (is_behind last) (named_there all own_at scope key last dot) named_turn) in
    let until = c.names_until.ensures after_turn
    ∙ ap (λ first. filter (is_earlier first) c.names_after-names.result.now) c.loop-dot.invariant.value
    ∙ ap (filter (is_earlier (first_way all own_at scope key last dot))) after in
    let until_turn = subst AreInTurn (sym until) (filter_in_turn (is_earlier (first_way all own_at scope key last dot))
    (filter (is_behind last) (named_there all own_at scope key last dot))
    (filter_in_turn (is_behind last) (named_there all own_at scope key last dot) named_turn)) in
    let told : find (holds_there all own_at scope key last dot) (left_there all own_at scope key last dot)
    ≡ option_copied c.first_holding.result = sym (c.first_holding.ensures until_turn
    ∙ ap (λ rest. find (λ name. may_hold own_at name.child rest) c.names_until.result.now) (take_rest key (dot + 1))
    ∙ ap (find (holds_there all own_at scope key last dot)) until) in
    elim c.match-first_holding.branch [
      | in-Some w ↦
          let name = w.in-Some.name.now in
          let found = told ∙ ap option_copied w.in-Some.is in
          let higher : last_order c.args.after < name_order name =
          found_left all own_at scope key last (λ n. last_order c.args.after < name_order n) dot name
          (subst (All (λ n. last_order c.args.after < name_order n)) after (c.names_after-names.ensures.order turn))
          found in
          record {
            short = search rules;
            value = way_found all own_at scope key last dot 0 name _ (option_map way_of c.match-first_holding.first)
                c.loop-dot-test.true c.if-byte-ne46.false found (take_rest key (dot + 1))
                (ap (option_map way_of) w.first-is ∙ ap Some w.step_into.ensures.way);
          }
      | in_default w ↦
          let none : c.first_holding.result ≡ None = search rules in
          record {
            short = search rules;
            value = way_not_found all own_at scope key last dot 0 (option_map way_of c.match-first_holding.first)
                c.loop-dot-test.true c.if-byte-ne46.false (told ∙ ap option_copied none)
                (ap (option_map way_of) w.first-is ∙ c.loop-dot.invariant.value);
          }
    ]

pub returns-after-loop-dot-clause-value : goal.returns-after-loop-dot-clause-value
returns-after-loop-dot-clause-value c = c.loop-dot.invariant.value
    ∙ way_at_end c.args.table.now.scopes (own_of c.args.table.now) c.args.scope c.args.key.now
    (option_map way_of c.args.after) c.loop-dot.dot (omega arith)

pub returns-then-dot-children-clause-value : goal.returns-then-dot-children-clause-value
returns-then-dot-children-clause-value c = c.loop-dot.invariant.value
    ∙ way_past_longest c.args.table.now.scopes (own_of c.args.table.now) c.args.scope c.args.key.now
    (option_map way_of c.args.after) c.args.table.now.names c.args.table.now.longest c.loop-dot.dot
    (subst HasNames c.table.view_is c.table.invariant.children) (search rules)
