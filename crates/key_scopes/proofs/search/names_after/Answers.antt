use Rattle.std.proofs.Common.{◌∙◌, ◌<◌, ap, arith, filter, not, option_map, subst, sym}
use Rattle.std.specs.List.{All}
use Rattle.key_scopes.specs.Steps.{last_order, name_order, step_order}
use Rattle.key_scopes.specs.Ways.{is_behind, is_later, way_of}
use Rattle.key_scopes.proofs.CutLaws.{all_higher}
use Rattle.key_scopes.proofs.DotLaws.{all_each}
use Rattle.key_scopes.proofs.PartLaws.{all_pass, back_part, twice_not}
use Rattle.key_scopes.proofs.search.names_after.Goals as goal

pub returns-in-Some-clause-order : goal.returns-in-Some-clause-order
returns-in-Some-clause-order c = λ turn.
    let names = c.args.names.now in
    let after = c.in-Some.after in
    let child = after.child in
    let rank = after.rank in
    subst (λ last. All (λ name. last_order last < name_order name) c.names_behind.result.now) (sym c.in-Some.is)
    (subst (All (λ name. step_order after < name_order name)) (sym (c.names_behind.ensures
    ∙ back_part (λ name. not (is_later child rank name)) (is_later child rank) names c.count_until.result
    (λ name. twice_not (is_later child rank name)) (c.count_until.ensures.place turn)))
    (all_higher after names c.count_until.ensures.order))

pub returns-in-Some-clause-value : goal.returns-in-Some-clause-value
returns-in-Some-clause-value c = λ turn.
    let names = c.args.names.now in
    let child = c.in-Some.after.child in
    let rank = c.in-Some.after.rank in
    c.names_behind.ensures
    ∙ back_part (λ name. not (is_later child rank name)) (is_later child rank) names c.count_until.result
    (λ name. twice_not (is_later child rank name)) (c.count_until.ensures.place turn)
    ∙ sym (ap (λ a. filter (is_behind (option_map way_of a)) names) c.in-Some.is)

pub returns-in-None-clause-order : goal.returns-in-None-clause-order
returns-in-None-clause-order c = λ turn.
    let names = c.args.names.now in
    subst (λ last. All (λ name. last_order last < name_order name) names) (sym c.in-None.is)
    (all_each (λ name. 0 < name_order name) names (λ name. omega arith))

pub returns-in-None-clause-value : goal.returns-in-None-clause-value
returns-in-None-clause-value c = λ turn.
    let names = c.args.names.now in
    all_pass names ∙ sym (ap (λ a. filter (is_behind (option_map way_of a)) names) c.in-None.is)
