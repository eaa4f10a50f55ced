use Rattle.std.proofs.Common.{◌==◌, ◌∙◌, not, ap, rules}
use Rattle.std.proofs.lemmas.Fn.{filter_same}
use Rattle.facts.specs.Rows.{Running}
use Rattle.fact_table.specs.Claims.{claim_seen, claims_seen}
use Rattle.fact_table.specs.declared.claims.RunningClaim.{RunningClaim}
use Rattle.fact_table.proofs.ListLaws.{filter_made}
use Rattle.fact_table.proofs.claims.end.Goals as goal

pub returns : goal.returns
returns c =
    ap claims_seen (filter_same _ (λ (claim : RunningClaim). not (claim.serial == c.args.serial)) _
    (λ x b f' k. search rules) _ _ c.retain.ensures.filtered)
    ∙ filter_made claim_seen (λ (claim : Running). not (claim.serial == c.args.serial)) _
