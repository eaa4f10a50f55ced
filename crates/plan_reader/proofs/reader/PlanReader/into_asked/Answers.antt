use Rattle.plan_reader.proofs.reader.PlanReader.into_asked.Goals as goal

pub returns-clause-goes_on : goal.returns-clause-goes_on
returns-clause-goes_on c = record { titles = c.into_titles-titles.ensures; kept = c.args.self.kept }
