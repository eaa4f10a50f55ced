use Rattle.std.proofs.Common.{bytes_eq, codes}
use Rattle.map_expand.proofs.MakesLaws.{any_step, type_step}
use Rattle.map_expand.proofs.element.map_types.Goals as goal

pub loop-token-preserved : goal.loop-token-preserved
loop-token-preserved c = record {
  any = any_step _ _ _ _ _ _ c.loop-token.invariant.any c.in-Some.ensures.words c.with_type-types.ensures.any;
  ditavalref = type_step (bytes_eq (codes "ditavalref-d/ditavalref")) _ _ _ _ _ _ c.loop-token.invariant.ditavalref c.in-Some.ensures.words
      c.with_type-types.ensures.ditavalref;
  topicref = type_step (bytes_eq (codes "map/topicref")) _ _ _ _ _ _ c.loop-token.invariant.topicref c.in-Some.ensures.words
      c.with_type-types.ensures.topicref;
  reltable = type_step (bytes_eq (codes "map/reltable")) _ _ _ _ _ _ c.loop-token.invariant.reltable c.in-Some.ensures.words
      c.with_type-types.ensures.reltable;
  relrow = type_step (bytes_eq (codes "map/relrow")) _ _ _ _ _ _ c.loop-token.invariant.relrow c.in-Some.ensures.words
      c.with_type-types.ensures.relrow;
  relcell = type_step (bytes_eq (codes "map/relcell")) _ _ _ _ _ _ c.loop-token.invariant.relcell c.in-Some.ensures.words
      c.with_type-types.ensures.relcell;
}
