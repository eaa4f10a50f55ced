use Rattle.std.proofs.Common.{◌∷◌, Option, Some, rules, sym, ap, ◌∙◌, subst}
use Rattle.atomic_table.specs.Table.{Me, rest}
use Rattle.desk_lock.specs.Tokens.{IsIdle}
use Rattle.desk_lock.specs.declared.view.View.{View}
use Rattle.desk_lock.proofs.PassLaws.{idle_tries}
use Rattle.desk_lock.proofs.desk.Desk.take.Goals as goal

pub compare_exchange-requires : goal.compare_exchange-requires
compare_exchange-requires g c = (
  search rules,
  search rules,
  idle_tries g.B.Shown.shown _ _ c.loop.seat.me
      (subst (λ x. IsIdle x) (sym c.loop.invariant.3) c.requires.idle),
)

-- the slot has the book that the try found
pub exchange-requires : goal.exchange-requires
exchange-requires g c =
    let t = c.compare_exchange.ensures.2.0 c.if-compare_exchange-eq0.true in
    let e = ap (λ (m : Me (Option g.row.B.Denot) View). m.1) t.1 in
    (search rules, (Some t.0, e ∙ ap (λ l. (0, Some t.0) ∷ rest l) (sym e)))
