use Rattle.std.proofs.Common.{◌≡◌, ◌-◌, ap, sym, ◌∙◌, arith, length, map}
use Rattle.plan_nodes.specs.Ends.{ended_before}
use Rattle.plan_nodes.specs.Preorder.{without_end}
use Rattle.plan_nodes.proofs.EndLaws.{before_last, cleared_twice, ends_of_tree}
use Rattle.plan_nodes.proofs.places.set_ends.Goals as goal

pub loop-at-init : goal.loop-at-init
loop-at-init c =
    let nodes = c.args.nodes.now in
    let cleared = c.clear_ends.new.nodes in
    let long : length cleared ≡ length nodes = omega arith in
    record {
      same = ap (λ some. ended_before some cleared) long ∙ ap (ended_before (length nodes)) c.clear_ends.ensures;
      kept = ap (map without_end) c.clear_ends.ensures ∙ cleared_twice nodes;
    }

pub loop-at-preserved : goal.loop-at-preserved
loop-at-preserved c = record {
  same =
      ap (ended_before (c.loop-at.at - 1)) c.in_ok-set_end.ensures.ended
      ∙ sym (before_last c.loop-at.at c.loop-at.nodes (omega arith)) ∙ c.loop-at.invariant.same;
  kept = c.set_end.ensures.kept ∙ c.loop-at.invariant.kept;
}

pub returns-clause-ends : goal.returns-clause-ends
returns-clause-ends c = λ tree one same.
    let done : 0 ≡ c.loop-at.at = omega arith in
    ap (λ some. ended_before some c.loop-at.nodes) done ∙ c.loop-at.invariant.same
    ∙ ends_of_tree c.args.nodes.now tree one same
