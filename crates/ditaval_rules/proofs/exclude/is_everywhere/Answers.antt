use Rattle.std.proofs.Common.{ℕ, List, rules, tests, bytes_eq, Bor}
use Rattle.std.proofs.lemmas.Iterator.{YieldsList-from_slice}
use Rattle.std.proofs.lemmas.Iterator.Search.{any_from_yields_List}
use Rattle.ditaval_rules.proofs.exclude.is_everywhere.Goals as goal

pub returns : goal.returns
returns c =
    any_from_yields_List (λ (known : Bor (List ℕ)). bytes_eq c.args.name.now known.now) _ _ c.any.result
    c.any.ensures.ran (YieldsList-from_slice _ c.iter.ensures.rest) (λ x b q k. search (rules, tests))
