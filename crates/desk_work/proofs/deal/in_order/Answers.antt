use Rattle.std.proofs.Common.{◌≡◌, ◌∙◌, [], ap, arith, length, sym}
use Rattle.std.proofs.lemmas.List.{nil_from_length}
use Rattle.std.specs.Vec.Iter.{into_iter_items}
use Rattle.desk_work.specs.Attempts.{jobs_seen}
use Rattle.desk_work.specs.Dealing.{piles_seen}
use Rattle.desk_work.proofs.TakeLaws.{all_taken, next_has_top, taken_next}
use Rattle.desk_work.proofs.deal.in_order.Goals as goal

pub take-requires : goal.take-requires
take-requires c = next_has_top c.args.dealt.homes.items (into_iter_items c.loop-home.home-iterator)
    (into_iter_items c.next.new.self) c.in-Some.home (piles_seen c.args.dealt.piles.items)
    (jobs_seen c.loop-home.jobs.items) c.loop-home.piles.items c.as_mut_slice.result.now c.requires.dealt.0
    c.in-Some.ensures.steps.0 c.as_mut_slice.ensures.value c.loop-home.invariant.taken c.requires.dealt.1

pub loop-home-preserved : goal.loop-home-preserved
loop-home-preserved c =
    let first = c.in-Some.ensures.steps.0 in
    let shorter = ap length first in
    let kept : c.loop-home.piles.len ≡ length c.take.new.piles = omega arith in
    record {
      many = omega arith;
      room = omega arith;
      taken = taken_next c.args.dealt.homes.items (into_iter_items c.loop-home.home-iterator)
          (into_iter_items c.next.new.self) c.in-Some.home (piles_seen c.args.dealt.piles.items)
          c.loop-home.jobs.items c.push_reserved.new.self.items c.take.result c.loop-home.piles.items
          c.as_mut_slice.result.now c.take.new.piles c.loop-home.piles.len first c.as_mut_slice.ensures.value kept
          c.push_reserved.ensures.items c.loop-home.invariant.taken c.take.ensures.taken;
    }

pub returns-clause-same : goal.returns-clause-same
returns-clause-same c =
    let left = into_iter_items c.loop-home.home-iterator in
    let none : left ≡ [] = nil_from_length left (sym c.loop-home.home-iterator.rest.ok.0 ∙ c.in-None.ensures.steps.0) in
    all_taken c.args.dealt.homes.items left (piles_seen c.args.dealt.piles.items) (jobs_seen c.loop-home.jobs.items)
    (piles_seen c.loop-home.piles.items) c.requires.dealt.0 none c.loop-home.invariant.taken c.requires.dealt.1
