use Rattle.std.proofs.Common.{◌≤◌, length, subst}
use Rattle.family_links.proofs.TargetLaws.{none_beyond}
use Rattle.family_links.proofs.families.Families.append_targets.Goals as goal

pub returns-in-None : goal.returns-in-None
returns-in-None c =
    none_beyond c.args.self.now.targets.items c.args.place c.args.nodes.now.items
    (subst (λ l. length l ≤ c.args.place) c.deref.ensures.value c.in-None.ensures.lookup.3)
