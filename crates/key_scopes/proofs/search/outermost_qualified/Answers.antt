use Rattle.std.proofs.Common.{rules, ◌≡◌, ◌∙◌, ap, sym, None}
use Rattle.std.specs.Option.{option_or}
use Rattle.dita_doc.proofs.Lists.{option_or_none}
use Rattle.key_scopes.specs.Above.{around_in}
use Rattle.key_scopes.specs.Found.{own_of}
use Rattle.key_scopes.specs.Rising.{answer_up, by_names}
use Rattle.key_scopes.proofs.OptionLaws.{or_assoc}
use Rattle.key_scopes.proofs.RisingLaws.{one_up}
use Rattle.key_scopes.proofs.search.outermost_qualified.Goals as goal
use Rattle.key_scopes.proofs.search.outermost_qualified.Goals.{in-Some-qualified, in_default-qualified}

pub loop-here-init : goal.loop-here-init
loop-here-init c =
    let table = c.args.table.now in
    sym (option_or_none (answer_up (by_names table.scopes (own_of table) c.args.key.now) table.scopes c.args.from))

pub loop-here-preserved : goal.loop-here-preserved
loop-here-preserved c =
    let all = c.args.table.now.scopes in
    let answer = by_names all (own_of c.args.table.now) c.args.key.now in
    let scope = c.in-Some.scope in
    c.loop-here.invariant
    ∙ ap (λ x. option_or (answer_up answer all x) c.loop-here.found) c.in-Some.is
    ∙ ap (λ x. option_or x c.loop-here.found) (one_up all answer scope)
    ∙ or_assoc (answer_up answer all (around_in all scope)) (answer scope) c.loop-here.found
    ∙ ap (λ x. option_or (answer_up answer all x) (option_or (answer scope) c.loop-here.found))
    (sym c.around-here.ensures.value)
    ∙ ap (option_or (answer_up answer all c.around-here.result)) (elim c.match-qualified.branch [
      | in-Some-qualified w ↦ ap (λ x. option_or x c.loop-here.found) (sym c.qualified.ensures ∙ w.in-Some-qualified.is)
          ∙ sym w.found-is
      | in_default-qualified w ↦ let none : c.qualified.result ≡ None = search rules in
          ap (λ x. option_or x c.loop-here.found) (sym c.qualified.ensures ∙ none) ∙ sym w.found-is
    ])
