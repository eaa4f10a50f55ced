use Rattle.script_text.specs.Read.{steps_seen}
use Rattle.desk_top.proofs.TrialLaws.{trial_told}
use Rattle.desk_top.proofs.trial.trial.Goals as goal

pub returns : goal.returns
returns g c = trial_told c.args.number c.args.topics (steps_seen c.in_ok-steps.steps)
    c.in_ok-answered.answered.book.store.history c.in_ok-answered.answered.built.items _ _ _ _ _
    c.in_ok-steps.ensures.steps c.in_ok-answered.ensures.one c.in_ok-answered.ensures.served
    c.counts_of.ensures.entries c.counts_of.ensures.builds c.counts_of.ensures.pages c.counts_of.ensures.faults
    c.in_ok-line_of.ensures
