use Rattle.std.proofs.Common.{IfOk, subst}
use Rattle.std.proofs.lemmas.Option.{none-some}
use Rattle.map_spec.specs.Written.{Element}
use Rattle.conref_pull.specs.Merging.{IsMerged, part_of, taking}
use Rattle.conref_pull.specs.declared.merge.Merged.{Merged}
use Rattle.conref_pull.proofs.MergeLaws.{pair_first}
use Rattle.conref_pull.proofs.merge.Merged.with_link.Goals as goal

pub returns-in_default-clause-merged : goal.returns-in_default-clause-merged
returns-in_default-clause-merged c = λ own one merged is. absurd (none-some _ (c.in_default.ensures.target one is))

pub returns-clause-merged : goal.returns-clause-merged
returns-clause-merged c = λ own one merged is.
    subst (λ (target : Element).
    IfOk c.with_target.result (λ (made : Merged). IsMerged made (taking own (part_of c.args.leaves target))))
    (pair_first _ _ (c.in-Some.ensures.target one is)) (c.with_target.ensures.merged own merged)

pub returns-clause-hrefs : goal.returns-clause-hrefs
returns-clause-hrefs c = λ told given named. c.with_target.ensures.hrefs told (c.in-Some.ensures.hrefs told given).0 named
