use Rattle.std.proofs.Common.{subst}
use Rattle.conref_pull.specs.Linked.{AreGivenTo}
use Rattle.conref_pull.proofs.LinkAskLaws.{links_apart}
use Rattle.conref_pull.proofs.TakingLaws.{alike_same, way_end, way_on}
use Rattle.conref_pull.proofs.merge.Merged.with_nearer.Goals as goal

pub loop-nearest-init : goal.loop-nearest-init
loop-nearest-init c = record {
  known = λ path end taken own linked is. record {
    so_far = own;
    is = is;
    path = path;
    end = end;
    rest = taken;
    linked = linked;
    alike = λ far. alike_same _;
  };
  hrefs = λ told given named. (given, named);
}

pub loop-nearest-preserved : goal.loop-nearest-preserved
loop-nearest-preserved c = record {
  known = λ path end taken own linked is.
      way_on c.loop-nearest.merged c.in_ok-merged.merged c.loop-nearest.left.now c.in-Some.others.now
      c.in-Some.nearest.now own taken c.in-Some.ensures.cases.0
      (c.loop-nearest.invariant.known path end taken own linked is) c.in_ok-merged.ensures.merged;
  hrefs = λ told given named.
      (let before = c.loop-nearest.invariant.hrefs told given named in
      let apart = links_apart told c.in-Some.others.now c.in-Some.nearest.now
      (subst (AreGivenTo told) c.in-Some.ensures.cases.0 before.0) in
      (apart.0, c.in_ok-merged.ensures.hrefs told apart.1 before.1));
}

pub returns-clause-merged : goal.returns-clause-merged
returns-clause-merged c = λ path end taken own linked is.
    way_end c.loop-nearest.merged c.loop-nearest.left.now own taken c.in_default.ensures.cases
    (c.loop-nearest.invariant.known path end taken own linked is)

pub returns-clause-hrefs : goal.returns-clause-hrefs
returns-clause-hrefs c = λ told given named. (c.loop-nearest.invariant.hrefs told given named).1
