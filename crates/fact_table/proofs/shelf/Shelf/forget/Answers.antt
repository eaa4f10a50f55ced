use Rattle.std.proofs.Common.{arith, refl}
use Rattle.fact_table.specs.Claims.{RunsOf, claims_seen}
use Rattle.fact_table.proofs.ClaimLaws.{told_no}
use Rattle.fact_table.proofs.ShelfLaws.{forget_is, knows_others}
use Rattle.fact_table.proofs.shelf.Shelf.forget.Goals as goal

pub returns-clause-shelf : goal.returns-clause-shelf
returns-clause-shelf c =
    forget_is c.args.self.now _ c.args.key.now c.requires.shelf refl refl refl (omega (arith, c.rank_of.ensures))
    c.leave.ensures

pub returns-clause-known : goal.returns-clause-known
returns-clause-known c =
    knows_others c.args.self.now.newest c.leave.new.ranks (claims_seen c.args.claims.now) c.args.key.now
    (λ claim stands same. told_no c.runs.result (RunsOf (claims_seen c.args.claims.now) c.args.key.now) c.if-runs.false
    c.runs.ensures (record { claim = claim; stands = stands; of = same }))
    c.leave.ensures c.requires.known
