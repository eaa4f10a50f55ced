use Rattle.std.proofs.Common.{◌∙◌, ℕ, ap, sym, subst, length, map, arith}
use Rattle.std.specs.Prelude.{All, vec_len}
use Rattle.std.proofs.lemmas.List.{length_push}
use Rattle.std.proofs.lemmas.List.Elements.{All-nil}
use Rattle.desk_lock.specs.Knows.{parted}
use Rattle.desk_lock.specs.Tokens.{pass_view}
use Rattle.desk_work.specs.Teams.{IsHired}
use Rattle.desk_work.specs.declared.work.Worker.{Worker}
use Rattle.desk_work.proofs.HiredLaws.{all_next, as_many, hired_next, may_give, parted_next, parted_none, pile_of, piles_next}
use Rattle.desk_work.proofs.TeamLists.{vec_end, vec_turn}
use Rattle.desk_work.proofs.team.hire.Goals as goal

pub loop-jobs-init : goal.loop-jobs-init
loop-jobs-init g c = record {
  of = c.requires.pass;
  parted = parted_none (pass_view c.args.pass.now);
  hands = subst (λ list. All (λ (worker : Worker g.row.P.Denot). IsHired c.args.desk.now (pass_view c.args.pass.now)
      worker.hand) list) (sym c.in_ok-workers.ensures.items) (All-nil _);
  piles = ap (λ list. map pile_of list) c.in_ok-workers.ensures.items;
  room = omega (arith, c.in_ok-workers.ensures.capacity, c.len.ensures);
  number = omega arith;
}

pub hand-requires-clause-parts : goal.hand-requires-clause-parts
hand-requires-clause-parts g c =
    let so_far = c.loop-jobs.yielded in
    let turn = vec_turn c.args.piles c.into_iter-jobs-iterator.result c.loop-jobs.jobs-iterator c.next.new.self so_far
    c.next.result c.in-Some.jobs c.into_iter-jobs-iterator.ensures.into_iter_gives.0
    c.into_iter-jobs-iterator.ensures.into_iter_gives.1 c.loop-jobs.yielded_by c.in-Some.is c.next.ensures.steps in
    may_give (pass_view c.args.pass.now) (pass_view c.loop-jobs.pass) (length so_far) (vec_len c.args.piles)
    c.loop-jobs.invariant.parted (omega (arith, turn.0, c.args.piles.ok.0)) c.requires.parts_left

pub push_reserved-requires : goal.push_reserved-requires
push_reserved-requires g c =
    let so_far = c.loop-jobs.yielded in
    let turn = vec_turn c.args.piles c.into_iter-jobs-iterator.result c.loop-jobs.jobs-iterator c.next.new.self so_far
    c.next.result c.in-Some.jobs c.into_iter-jobs-iterator.ensures.into_iter_gives.0
    c.into_iter-jobs-iterator.ensures.into_iter_gives.1 c.loop-jobs.yielded_by c.in-Some.is c.next.ensures.steps in
    omega (
      arith,
      turn.0,
      c.args.piles.ok.0,
      c.loop-jobs.workers.ok.0,
      c.loop-jobs.invariant.room,
      as_many c.loop-jobs.workers.items so_far c.loop-jobs.invariant.piles,
    )

pub overflow_add-number : goal.overflow_add-number
overflow_add-number g c =
    let so_far = c.loop-jobs.yielded in
    let turn = vec_turn c.args.piles c.into_iter-jobs-iterator.result c.loop-jobs.jobs-iterator c.next.new.self so_far
    c.next.result c.in-Some.jobs c.into_iter-jobs-iterator.ensures.into_iter_gives.0
    c.into_iter-jobs-iterator.ensures.into_iter_gives.1 c.loop-jobs.yielded_by c.in-Some.is c.next.ensures.steps in
    omega (arith, turn.0, c.args.piles.ok.0, c.loop-jobs.invariant.number, c.requires.first, c.requires.few)

pub loop-jobs-preserved : goal.loop-jobs-preserved
loop-jobs-preserved g c =
    let so_far = c.loop-jobs.yielded in
    let v = pass_view c.args.pass.now in
    let u = pass_view c.loop-jobs.pass in
    let made = hired_next c.args.desk.now v u (length so_far) c.hand.result c.loop-jobs.invariant.parted
    c.hand.ensures.new c.hand.ensures.splits.got in
    record {
      of = c.hand.ensures.pass;
      parted = parted_next v u (pass_view c.hand.new.pass) so_far c.in-Some.jobs c.loop-jobs.invariant.parted
          c.hand.ensures.splits.gave;
      hands = all_next (λ (worker : Worker g.row.P.Denot). IsHired c.args.desk.now v worker.hand)
          c.loop-jobs.workers.items c.push_reserved.new.self.items _ c.push_reserved.ensures.items
          c.loop-jobs.invariant.hands made;
      piles = piles_next c.loop-jobs.workers.items c.push_reserved.new.self.items _ so_far
          c.push_reserved.ensures.items c.loop-jobs.invariant.piles;
      room = omega (arith, c.push_reserved.ensures.capacity, c.loop-jobs.invariant.room);
      number = omega (arith, c.loop-jobs.invariant.number, length_push so_far c.in-Some.jobs);
    }

pub returns-clause-parted : goal.returns-clause-parted
returns-clause-parted g c =
    let so_far = c.loop-jobs.yielded in
    let end = vec_end c.args.piles c.into_iter-jobs-iterator.result c.loop-jobs.jobs-iterator c.next.new.self so_far
    c.next.result c.into_iter-jobs-iterator.ensures.into_iter_gives.0
    c.into_iter-jobs-iterator.ensures.into_iter_gives.1 c.loop-jobs.yielded_by c.in-None.is c.next.ensures.steps in
    c.loop-jobs.invariant.parted
    ∙ ap (λ (k : ℕ). parted (pass_view c.args.pass.now) k) (omega (arith, end, c.args.piles.ok.0))
