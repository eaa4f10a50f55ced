use Rattle.std.proofs.Common.{rules}
use Rattle.std.proofs.lemmas.Fn.{filter_same}
use Rattle.fact_table.specs.Noted.{is_behind}
use Rattle.fact_table.proofs.memo.forget.Goals as goal

pub returns : goal.returns
returns c = filter_same _ (is_behind c.args.dropped) _ (λ x b f' k. search rules) _ _ c.retain.ensures.filtered
