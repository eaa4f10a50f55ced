use Rattle.std.proofs.Common.{◌≡◌, ◌∙◌, ◌||◌, ℕ, List, false, ap, sym, rules, tests, bytes_eq}
use Rattle.std.specs.List.{list_any}
use Rattle.std.proofs.lemmas.Iterator.{YieldsList-from_slice}
use Rattle.std.proofs.lemmas.Iterator.Search.{any_from_yields_List}
use Rattle.ditaval_rules.specs.Verdict as spec
use Rattle.ditaval_rules.proofs.exclude.is_conditional_among.Goals as goal

pub returns-else-is_conditional : goal.returns-else-is_conditional
returns-else-is_conditional c =
    let fixed : spec.is_conditional c.args.name.now ≡ false =
    sym c.is_conditional.ensures ∙ c.if-is_conditional.false in
    let known : c.any.result ≡ list_any (bytes_eq c.args.name.now) c.as_slice.result.now =
    any_from_yields_List (λ (known : List ℕ). bytes_eq c.args.name.now known) _ _ c.any.result
    c.any.ensures.ran (YieldsList-from_slice _ c.iter.ensures.rest) (λ x b q k. search (rules, tests)) in
    known ∙ ap (list_any (bytes_eq c.args.name.now)) c.as_slice.ensures
    ∙ ap (λ b. b || list_any (bytes_eq c.args.name.now) c.args.declared.now) (sym fixed)
