use Rattle.family_links.specs.Collected.{IsMade, groups_of}
use Rattle.family_links.specs.declared.groups.GroupKind.TheVariants.{Sequence, Family}
use Rattle.family_links.proofs.table.collected.Given as goal

abbrev pub invariant-loop-at : goal.invariant-loop-at
invariant-loop-at l = IsMade (groups_of Sequence l.kinds l.children.entries l.at)
    (groups_of Family l.kinds l.children.entries l.at) l.made
