use Rattle.std.proofs.Common.{◌++◌, ◌∷◌, [], ap, refl, subst, sym, ◌∙◌}
use Rattle.readers.proofs.DocumentLaws.{asks_after}
use Rattle.readers.proofs.FoundedLaws.{stays_after}
use Rattle.readers.proofs.GrowthLaws.{agrees_before, grows_trans}
use Rattle.map_expand.specs.Going.{IsOver}
use Rattle.map_expand.specs.Telling.{map_targets}
use Rattle.map_expand.proofs.LeftLaws.{ended, walked}
use Rattle.map_expand.proofs.StepLaws.{map_left, rest_leave, rest_walk, walk_taken}
use Rattle.map_expand.specs.declared.expansion.Expansion.{Expansion}
use Rattle.map_expand.proofs.expansion.Expansion.walk.Goals as goal

pub step-requires-clause-ready : goal.step-requires-clause-ready
step-requires-clause-ready g c =
    let x = c.loop-work.self in
    let y : Expansion = record { nodes = x.nodes; faults = x.faults; left = c.pop.new.self } in
    (walk_taken _ c.loop-work.maps x y c.in-Walk.walk c.loop-work.invariant.ready refl
    (c.in-Some.ensures.items ∙ ap (λ w. c.pop.new.self.items ++ w ∷ []) c.in-Walk.is)).0

pub step-requires-clause-fits : goal.step-requires-clause-fits
step-requires-clause-fits g c =
    let x = c.loop-work.self in
    let y : Expansion = record { nodes = x.nodes; faults = x.faults; left = c.pop.new.self } in
    (walk_taken _ c.loop-work.maps x y c.in-Walk.walk c.loop-work.invariant.ready refl
    (c.in-Some.ensures.items ∙ ap (λ w. c.pop.new.self.items ++ w ∷ []) c.in-Walk.is)).1

pub loop-work-smaller-in-Ok : goal.loop-work-smaller-in-Ok
loop-work-smaller-in-Ok g c =
    walked _ _ _ _ _ _ _ c.in-Some.ensures.items c.in-Walk.is c.in-Ok.ensures.less

pub loop-work-preserved-in-Ok : goal.loop-work-preserved-in-Ok
loop-work-preserved-in-Ok g c =
    let x = c.loop-work.self in
    let y : Expansion = record { nodes = x.nodes; faults = x.faults; left = c.pop.new.self } in
    record {
      ready = c.in-Ok.ensures.ready;
      few = c.in-Ok.ensures.few;
      stand = c.in-Ok.ensures.stand ∙ c.loop-work.invariant.stand;
      grows = grows_trans _ _ _ c.loop-work.invariant.grows c.in-Ok.ensures.grows;
      founded = stays_after [] _ _ _ c.loop-work.invariant.grows c.loop-work.invariant.founded c.in-Ok.ensures.founded;
      asks = asks_after map_targets [] _ _ _ c.loop-work.invariant.grows c.loop-work.invariant.asks c.in-Ok.ensures.asks;
      made = λ world agrees. c.in-Ok.ensures.made world agrees
          ∙ sym (rest_walk world c.loop-work.maps x y c.in-Some.work c.in-Some.ensures.items refl c.in-Walk.walk c.in-Walk.is)
          ∙ c.loop-work.invariant.made world (agrees_before world _ _ c.in-Ok.ensures.grows agrees);
    }

pub returns-in-Err-clause-grows : goal.returns-in-Err-clause-grows
returns-in-Err-clause-grows g c = grows_trans _ _ _ c.loop-work.invariant.grows c.in-Err.ensures.grows

pub returns-in-Err-clause-founded : goal.returns-in-Err-clause-founded
returns-in-Err-clause-founded g c =
    stays_after [] _ _ _ c.loop-work.invariant.grows c.loop-work.invariant.founded c.in-Err.ensures.founded

pub returns-in-Err-clause-asks : goal.returns-in-Err-clause-asks
returns-in-Err-clause-asks g c =
    asks_after map_targets [] _ _ _ c.loop-work.invariant.grows c.loop-work.invariant.asks c.in-Err.ensures.asks

pub returns-in-Err-clause-made : goal.returns-in-Err-clause-made
returns-in-Err-clause-made g c = λ world agrees.
    let x = c.loop-work.self in
    let y : Expansion = record { nodes = x.nodes; faults = x.faults; left = c.pop.new.self } in
    subst (IsOver c.in-Err.stop)
    (sym (rest_walk world c.loop-work.maps x y c.in-Some.work c.in-Some.ensures.items refl c.in-Walk.walk c.in-Walk.is)
    ∙ c.loop-work.invariant.made world (agrees_before world _ _ c.in-Err.ensures.grows agrees))
    (c.in-Err.ensures.made world agrees)

pub loop-work-preserved : goal.loop-work-preserved
loop-work-preserved g c =
    let x = c.loop-work.self in
    let y : Expansion = record { nodes = x.nodes; faults = x.faults; left = c.pop.new.self } in
    record {
      ready = map_left _ c.loop-work.maps c.set_around.new.self x y c.in-Leave.map c.loop-work.invariant.ready refl
          (c.in-Some.ensures.items ∙ ap (λ w. c.pop.new.self.items ++ w ∷ []) c.in-Leave.is) c.set_around.ensures.known
          c.set_around.ensures.homes c.set_around.ensures.flags;
      few = c.loop-work.invariant.few;
      stand = c.loop-work.invariant.stand;
      grows = c.loop-work.invariant.grows;
      founded = c.loop-work.invariant.founded;
      asks = c.loop-work.invariant.asks;
      made = λ world agrees.
          rest_leave world c.loop-work.maps x y c.in-Some.work c.in-Some.ensures.items refl c.set_around.new.self c.in-Leave.map
          c.in-Leave.is c.set_around.ensures.homes
          ∙ c.loop-work.invariant.made world agrees;
    }

pub loop-work-smaller : goal.loop-work-smaller
loop-work-smaller g c = ended _ _ _ _ _ c.in-Some.ensures.items c.in-Leave.is
