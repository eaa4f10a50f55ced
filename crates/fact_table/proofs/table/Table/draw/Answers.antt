-- Room is made for the row of a claim, and the claim is put behind the others.
use Rattle.std.proofs.Common.{◌∙◌, ◌+◌, ◌<◌, ◌≤◌, ◌^◌, ap, arith, length, refl}
use Rattle.std.specs.Arc.{arc_value}
use Rattle.dita_doc.proofs.Lists.{on_err}
use Rattle.dita_doc.specs.Desk.{State}
use Rattle.facts.specs.Table.{claimed}
use Rattle.fact_table.specs.Claims.{claim_seen, claims_seen}
use Rattle.fact_table.specs.Inside.{data_seen}
use Rattle.fact_table.specs.Seen.{TableSeen}
use Rattle.fact_table.specs.declared.claims.RunningClaim.{RunningClaim}
use Rattle.fact_table.specs.declared.table.Table.TheInside.{Inside}
use Rattle.fact_table.proofs.DrawLaws.{IsNext, IsReserved, draws, reserved_rests, same_ticket}
use Rattle.fact_table.proofs.TableLaws.{draws_data, draws_table, rests_data, rests_table}
use Rattle.fact_table.proofs.table.Table.draw.Goals as goal

pub overflow_add-serial : goal.overflow_add-serial
overflow_add-serial c =
    let fits : c.self.inside.drawn < 2 ^ 64 = c.self.invariant.words.drawn in
    omega arith

pub invariant_of-self : goal.invariant_of-self
invariant_of-self c =
    let old = c.self.inside in
    let new : Inside = record {
      shelf = c.reserve.new.self;
      claims = old.claims;
      memo = old.memo;
      drawn = old.drawn;
      limit = old.limit;
    } in
    let reserved : IsReserved old.shelf new.shelf = record {
      shelf = c.reserve.ensures.shelf;
      rows = c.reserve.ensures.rows;
      dropped = c.reserve.ensures.dropped;
      same = c.reserve.ensures.same;
      len = c.reserve.ensures.len;
      capacity = c.reserve.ensures.capacity;
    } in
    rests_table old new c.self.invariant (reserved_rests old new c.self.invariant reserved refl refl refl refl)

pub returns-in_err-reserve-clause-err : goal.returns-in_err-reserve-clause-err
returns-in_err-reserve-clause-err c =
    let old = c.self.inside in
    let new : Inside = record {
      shelf = c.reserve.new.self;
      claims = old.claims;
      memo = old.memo;
      drawn = old.drawn;
      limit = old.limit;
    } in
    let reserved : IsReserved old.shelf new.shelf = record {
      shelf = c.reserve.ensures.shelf;
      rows = c.reserve.ensures.rows;
      dropped = c.reserve.ensures.dropped;
      same = c.reserve.ensures.same;
      len = c.reserve.ensures.len;
      capacity = c.reserve.ensures.capacity;
    } in
    on_err c.from_residual-in_err-reserve.result
    (rests_data old new (reserved_rests old new c.self.invariant reserved refl refl refl refl)
    ∙ ap (λ (t : TableSeen). t.table) c.self.view_is)

pub invariant_of-self-in_err-push : goal.invariant_of-self-in_err-push
invariant_of-self-in_err-push c =
    let old = c.self.inside in
    let new : Inside = record {
      shelf = c.reserve.new.self;
      claims = c.push.new.self;
      memo = old.memo;
      drawn = old.drawn;
      limit = old.limit;
    } in
    let reserved : IsReserved old.shelf new.shelf = record {
      shelf = c.reserve.ensures.shelf;
      rows = c.reserve.ensures.rows;
      dropped = c.reserve.ensures.dropped;
      same = c.reserve.ensures.same;
      len = c.reserve.ensures.len;
      capacity = c.reserve.ensures.capacity;
    } in
    rests_table old new c.self.invariant
    (reserved_rests old new c.self.invariant reserved (ap claims_seen c.in_err-push.ensures.items) refl refl refl)

pub returns-in_err-push-clause-err : goal.returns-in_err-push-clause-err
returns-in_err-push-clause-err c =
    let old = c.self.inside in
    let new : Inside = record {
      shelf = c.reserve.new.self;
      claims = c.push.new.self;
      memo = old.memo;
      drawn = old.drawn;
      limit = old.limit;
    } in
    let reserved : IsReserved old.shelf new.shelf = record {
      shelf = c.reserve.ensures.shelf;
      rows = c.reserve.ensures.rows;
      dropped = c.reserve.ensures.dropped;
      same = c.reserve.ensures.same;
      len = c.reserve.ensures.len;
      capacity = c.reserve.ensures.capacity;
    } in
    on_err c.from_residual-in_err-push.result
    (rests_data old new
    (reserved_rests old new c.self.invariant reserved (ap claims_seen c.in_err-push.ensures.items) refl refl refl)
    ∙ ap (λ (t : TableSeen). t.table) c.self.view_is)

pub invariant_of-self-2 : goal.invariant_of-self-2
invariant_of-self-2 c =
    let old = c.self.inside in
    let new : Inside = record {
      shelf = c.reserve.new.self;
      claims = c.push.new.self;
      memo = old.memo;
      drawn = old.drawn + 1;
      limit = old.limit;
    } in
    let reserved : IsReserved old.shelf new.shelf = record {
      shelf = c.reserve.ensures.shelf;
      rows = c.reserve.ensures.rows;
      dropped = c.reserve.ensures.dropped;
      same = c.reserve.ensures.same;
      len = c.reserve.ensures.len;
      capacity = c.reserve.ensures.capacity;
    } in
    let sources : State = arc_value c.args.sources.now in
    let claim : RunningClaim = record {
      serial = old.drawn + 1;
      key = c.in_ok-kept.kept;
      stamp = c.args.stamp;
      sources = c.in_ok-state.state;
    } in
    let few : length sources ≤ 2 ^ 48 = omega (arith, c.names-names.ensures, ap length c.deref.ensures) in
    let fits : old.drawn < 2 ^ 64 = c.self.invariant.words.drawn in
    let small : old.drawn + 1 < 2 ^ 64 = omega arith in
    let next : IsNext (data_seen old) c.args.key.now c.args.stamp sources (claim_seen claim) = record {
      serial = refl;
      key_is = c.in_ok-kept.ensures.cases;
      stamp_is = refl;
      state = c.in_ok-state.ensures;
    } in
    draws_table old new c.args.key.now c.args.stamp sources c.self.invariant
    (draws old new c.args.key.now c.args.stamp sources claim c.self.invariant reserved few c.in_ok-push.ensures.items next
    c.in_ok-reserve.ensures.known
    (omega (arith, c.in_ok-reserve.ensures.room, c.len.ensures, old.claims.ok.0)) refl small refl refl)

pub returns-clause-left : goal.returns-clause-left
returns-clause-left c =
    let old = c.self.inside in
    let new : Inside = record {
      shelf = c.reserve.new.self;
      claims = c.push.new.self;
      memo = old.memo;
      drawn = old.drawn + 1;
      limit = old.limit;
    } in
    let reserved : IsReserved old.shelf new.shelf = record {
      shelf = c.reserve.ensures.shelf;
      rows = c.reserve.ensures.rows;
      dropped = c.reserve.ensures.dropped;
      same = c.reserve.ensures.same;
      len = c.reserve.ensures.len;
      capacity = c.reserve.ensures.capacity;
    } in
    let sources : State = arc_value c.args.sources.now in
    let claim : RunningClaim = record {
      serial = old.drawn + 1;
      key = c.in_ok-kept.kept;
      stamp = c.args.stamp;
      sources = c.in_ok-state.state;
    } in
    let few : length sources ≤ 2 ^ 48 = omega (arith, c.names-names.ensures, ap length c.deref.ensures) in
    let fits : old.drawn < 2 ^ 64 = c.self.invariant.words.drawn in
    let small : old.drawn + 1 < 2 ^ 64 = omega arith in
    let next : IsNext (data_seen old) c.args.key.now c.args.stamp sources (claim_seen claim) = record {
      serial = refl;
      key_is = c.in_ok-kept.ensures.cases;
      stamp_is = refl;
      state = c.in_ok-state.ensures;
    } in
    draws_data old new c.args.key.now c.args.stamp sources
    (draws old new c.args.key.now c.args.stamp sources claim c.self.invariant reserved few c.in_ok-push.ensures.items next
    c.in_ok-reserve.ensures.known
    (omega (arith, c.in_ok-reserve.ensures.room, c.len.ensures, old.claims.ok.0)) refl small refl refl)
    ∙ ap (λ (t : TableSeen). claimed t.table c.args.key.now c.args.stamp sources) c.self.view_is

pub returns-clause-ticket : goal.returns-clause-ticket
returns-clause-ticket c = same_ticket _ _ (ap (λ (t : TableSeen). t.table.drawn + 1) c.self.view_is)
    c.in_ok-own.ensures.cases refl
