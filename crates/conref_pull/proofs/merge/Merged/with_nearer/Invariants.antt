use Rattle.std.proofs.Common.{ℕ, List, length}
use Rattle.map_spec.specs.Written.{Element}
use Rattle.conref_spec.specs.Content.{Place}
use Rattle.readers.specs.Told.{Told}
use Rattle.conref_pull.specs.Linked.{AreGivenTo, AreLinks}
use Rattle.conref_pull.specs.PutHrefs.{MergedNamed}
use Rattle.conref_pull.specs.Merging.{IsMerged}
use Rattle.conref_pull.specs.Step.{Taken}
use Rattle.conref_pull.proofs.TakingLaws.{OnTheWay}
use Rattle.conref_pull.proofs.merge.Merged.with_nearer.Given as goal

abbrev pub invariant-loop-nearest : goal.invariant-loop-nearest
invariant-loop-nearest l = record {
  known : (path : List Place) (end : ℕ) (taken : List Taken) (own : Element) → AreLinks path end taken l.nearer
      → IsMerged l.fn.self own → OnTheWay l.merged l.left own taken;
  hrefs : (told : List Told) → AreGivenTo told l.nearer → MergedNamed told l.fn.self
      → AreGivenTo told l.left × MergedNamed told l.merged;
}

abbrev pub decreases-loop-nearest : goal.decreases-loop-nearest
decreases-loop-nearest l = length l.left
