use Rattle.std.proofs.Common.{List, IfNone, subst}
use Rattle.facts.specs.Latest.{NoneRuns}
use Rattle.fact_table.specs.Claims.{claims_seen}
use Rattle.fact_table.specs.Seen.{TableSeen}
use Rattle.fact_table.specs.declared.claims.RunningClaim.{RunningClaim}
use Rattle.fact_table.proofs.table.Table.running_for.Goals as goal

pub returns-clause-absent : goal.returns-clause-absent
returns-clause-absent c =
    subst (λ (t : TableSeen). IfNone c.claim_for.result (NoneRuns t.table.running c.args.key.now c.args.stamp))
    c.self.view_is
    (subst (λ (all : List RunningClaim). IfNone c.claim_for.result
    (NoneRuns (claims_seen all) c.args.key.now c.args.stamp)) c.deref.ensures.value c.claim_for.ensures.absent)
