use Rattle.std.proofs.Common.{◌∙◌, ap, sym}
use Rattle.std.specs.Option.{option_or}
use Rattle.key_scopes.specs.Above.{around_in}
use Rattle.key_scopes.specs.Found.{own_of}
use Rattle.key_scopes.specs.Rising.{answer_up, by_names}
use Rattle.key_scopes.proofs.OptionLaws.{or_assoc}
use Rattle.key_scopes.proofs.RisingLaws.{one_up}
use Rattle.key_scopes.proofs.lookup.outermost_by_ways.Goals as goal

pub loop-here-preserved : goal.loop-here-preserved
loop-here-preserved c =
    let all = c.args.table.now.scopes in
    let answer = by_names all (own_of c.args.table.now) c.args.key.now in
    let scope = c.in-Some.scope in
    let before = c.loop-here.found in
    record {
      found = c.loop-here.invariant.found
          ∙ ap (λ x. option_or (answer_up answer all x) before) c.in-Some.is
          ∙ ap (λ x. option_or x before) (one_up all answer scope)
          ∙ or_assoc (answer_up answer all (around_in all scope)) (answer scope) before
          ∙ ap (λ x. option_or (answer_up answer all x) (option_or (answer scope) before))
          (sym c.around-here.ensures.value)
          ∙ ap (λ x. option_or (answer_up answer all c.around-here.result) (option_or x before))
          (sym c.in_ok-inside.ensures.found)
          ∙ ap (option_or (answer_up answer all c.around-here.result)) (sym c.or-found.ensures);
      ends = c.in_ok-inside.ensures.ends;
    }
