use Rattle.std.proofs.Common.{◌∙◌, ◌<◌, arith, ap, length, refl, subst, sym}
use Rattle.facts.specs.Rows.{row_data}
use Rattle.facts.specs.Table.{left}
use Rattle.fact_table.specs.Claims.{claims_seen}
use Rattle.fact_table.specs.Ranks.{Ranks}
use Rattle.fact_table.specs.Shelf.{KnowsClaims, rows_seen}
use Rattle.fact_table.proofs.ShelfLaws.{left_all, left_rest, some_row}
use Rattle.fact_table.proofs.shelf.Shelf.fit.Goals as goal

pub loop-self-init : goal.loop-self-init
loop-self-init c = record {
  shelf = c.requires.shelf;
  known = c.requires.known;
  rows = refl;
  made = refl;
  capacity = refl;
}

pub drop_first-row-requires : goal.drop_first-row-requires
drop_first-row-requires c =
    let is = c.loop-self.invariant in
    let some : 0 < length (rows_seen c.loop-self.self) =
    some_row c.loop-self.self c.args.limit is.shelf (omega (arith, c.from.ensures)) in
    record { shelf = is.shelf; some = some; small = omega (arith, is.made, c.requires.small) }

pub forget-requires : goal.forget-requires
forget-requires c = record {
  shelf = c.drop_first-row.ensures.shelf;
  known = subst (λ (ranks : Ranks). KnowsClaims ranks (claims_seen c.args.claims.now))
      (sym c.drop_first-row.ensures.newest) c.loop-self.invariant.known;
}

pub loop-self-smaller : goal.loop-self-smaller
loop-self-smaller c =
    let were = ap length c.drop_first-row.ensures.rows in
    let are = ap length c.forget.ensures.rows in
    omega (arith, were, are)

pub loop-self-preserved : goal.loop-self-preserved
loop-self-preserved c =
    let is = c.loop-self.invariant in
    let were = ap length c.drop_first-row.ensures.rows in
    let are = ap length c.forget.ensures.rows in
    record {
      shelf = c.forget.ensures.shelf;
      known = c.forget.ensures.known;
      rows = ap (left c.args.limit) c.forget.ensures.rows
          ∙ left_rest c.loop-self.self c.args.limit (row_data c.drop_first-row.result) (rows_seen c.drop_first-row.new.self)
          is.shelf (omega (arith, c.from.ensures)) c.drop_first-row.ensures.rows
          ∙ is.rows;
      made = omega (arith, were, are, is.made, c.drop_first-row.ensures.dropped, c.forget.ensures.dropped);
      capacity = c.forget.ensures.capacity ∙ c.drop_first-row.ensures.capacity ∙ is.capacity;
    }

pub returns-clause-rows : goal.returns-clause-rows
returns-clause-rows c =
    left_all c.loop-self.self c.args.limit c.loop-self.invariant.shelf (omega (arith, c.from.ensures))
    ∙ c.loop-self.invariant.rows
