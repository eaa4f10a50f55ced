use Rattle.std.proofs.Common.{sym, ◌∙◌}
use Rattle.conref_targets.proofs.JudgeLaws.{none_exclude}
use Rattle.conref_targets.proofs.rules.PageRules.is_excluded.Goals as goal

pub returns-then-not-has_judged-clause-goes : goal.returns-then-not-has_judged-clause-goes
returns-then-not-has_judged-clause-goes c =
    sym (none_exclude c.args.self.now c.args.declared.now c.args.attributes.now
    (sym c.has_judged.ensures ∙ c.if-not-has_judged.true))

pub returns-clause-goes : goal.returns-clause-goes
returns-clause-goes c = c.exclude.ensures
