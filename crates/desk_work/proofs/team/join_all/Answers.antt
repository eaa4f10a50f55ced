use Rattle.std.proofs.Common.{◌≡◌, ◌<◌, get_or, length, arith}
use Rattle.std.proofs.lemmas.List.{nil_from_length}
use Rattle.desk_core.specs.Seen.{snapshot_seen}
use Rattle.desk_lock.specs.Tokens.{pass_view}
use Rattle.desk_work.specs.Attempts.{HasAll}
use Rattle.desk_work.specs.Sites.{basis_of}
use Rattle.desk_work.specs.Teams.{HasWorked}
use Rattle.desk_work.specs.declared.work.Worker.{Worker}
use Rattle.desk_work.proofs.HiredLaws.{all_done, done_failed, done_next, goes_next, jobs_of, none_goes_on, parts_next, put_next}
use Rattle.desk_work.proofs.TeamLists.{next_has, vec_turn}
use Rattle.desk_work.proofs.team.join_all.Given.{Over}
use Rattle.desk_work.proofs.team.join_all.Goals.{In-Some}
use Rattle.desk_work.proofs.team.join_all.Goals as goal

pub loop-worker-init : goal.loop-worker-init
loop-worker-init g c = record {
  of = c.requires.pass;
  parts = omega arith;
  goes_on = none_goes_on _ _;
  left = nil_from_length c.args.team.left.items (omega (arith, c.requires.none_left, c.args.team.left.ok.0));
  room = c.requires.room;
  done = λ _. tt;
}

-- the worker is the next of the team
turned : (g : Over) (c : In-Some g) → (length c.loop-worker.yielded < length c.args.team.workers.items)
    × (c.in-Some.worker ≡ get_or c.args.team.workers.items (length c.loop-worker.yielded) c.in-Some.worker)
turned g c = vec_turn c.args.team.workers c.into_iter-worker-iterator.result c.loop-worker.worker-iterator
    c.next.new.self c.loop-worker.yielded c.next.result c.in-Some.worker
    c.into_iter-worker-iterator.ensures.into_iter_gives.0 c.into_iter-worker-iterator.ensures.into_iter_gives.1
    c.loop-worker.yielded_by c.in-Some.is c.next.ensures.steps

has_worked : (g : Over) (c : In-Some g)
    → HasWorked (basis_of g.P.Parts.plan_agrees g.P.Parts.own_agrees g.P.Parts.is_sound g.M.Makers.language
    (snapshot_seen c.args.site.now.snapshot.now)) c.args.site.now.desk.now (pass_view c.args.pass.now)
    (jobs_of c.in-Some.worker) c.in-Some.worker.hand
has_worked g c = next_has (λ (one : Worker g.row.P.Denot).
    HasWorked (basis_of g.P.Parts.plan_agrees g.P.Parts.own_agrees g.P.Parts.is_sound g.M.Makers.language
    (snapshot_seen c.args.site.now.snapshot.now)) c.args.site.now.desk.now (pass_view c.args.pass.now) (jobs_of one)
    one.hand) c.args.team.workers.items (length c.loop-worker.yielded) c.in-Some.worker c.requires.hands (turned g c)

pub loop-worker-preserved-then-failed : goal.loop-worker-preserved-then-failed
loop-worker-preserved-then-failed g c =
    let v = pass_view c.args.pass.now in
    let u = pass_view c.loop-worker.pass in
    let w = pass_view c.join.new.pass in
    let so_far = c.loop-worker.yielded in
    let worker = c.in-Some.worker in
    let worked = has_worked g (goal.at.loop-worker-preserved-then-failed g c).In-Some in
    record {
      of = c.join.ensures.pass;
      parts = parts_next v u w so_far worker c.loop-worker.invariant.parts worked.one c.join.ensures.joins;
      goes_on = goes_next _ c.args.site.now.desk.now v u w so_far worker c.loop-worker.invariant.goes_on worked
          c.join.ensures.joins;
      left = put_next so_far worker c.loop-worker.left.items c.push_reserved.new.self.items
          c.loop-worker.invariant.left c.push_reserved.ensures.items;
      room = omega (arith, c.loop-worker.invariant.room, c.push_reserved.ensures.capacity);
      done = λ none. done_failed so_far worker c.loop-worker.failed c.if-failed.true none;
    }

pub loop-worker-preserved : goal.loop-worker-preserved
loop-worker-preserved g c =
    let v = pass_view c.args.pass.now in
    let u = pass_view c.loop-worker.pass in
    let w = pass_view c.join.new.pass in
    let so_far = c.loop-worker.yielded in
    let worker = c.in-Some.worker in
    let worked = has_worked g (goal.at.loop-worker-preserved g c).In-Some in
    record {
      of = c.join.ensures.pass;
      parts = parts_next v u w so_far worker c.loop-worker.invariant.parts worked.one c.join.ensures.joins;
      goes_on = goes_next _ c.args.site.now.desk.now v u w so_far worker c.loop-worker.invariant.goes_on worked
          c.join.ensures.joins;
      left = put_next so_far worker c.loop-worker.left.items c.push_reserved.new.self.items
          c.loop-worker.invariant.left c.push_reserved.ensures.items;
      room = omega (arith, c.loop-worker.invariant.room, c.push_reserved.ensures.capacity);
      done = λ none. done_next so_far worker (c.loop-worker.invariant.done c.if-failed.false)
          (next_has (λ (one : Worker g.row.P.Denot). HasAll one.failed (jobs_of one)) c.args.team.workers.items
          (length so_far) worker c.requires.done (turned g (goal.at.loop-worker-preserved g c).In-Some) none);
    }

pub returns-else-failed-2-clause-done : goal.returns-else-failed-2-clause-done
returns-else-failed-2-clause-done g c = all_done c.loop-worker.yielded c.loop-worker.left.items
    c.loop-worker.invariant.left (c.loop-worker.invariant.done c.if-failed-2.false)
