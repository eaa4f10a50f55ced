use Rattle.family_links.proofs.FamilyLaws.{siblings_appended}
use Rattle.family_links.proofs.families.Families.append.Goals as goal

pub returns : goal.returns
returns c = λ world plan all are holds.
    siblings_appended world plan c.args.page all c.args.self.now c.append.result _ c.append.new.self are
    c.in_ok-targets_from.ensures (c.append.ensures c.args.page all holds)
