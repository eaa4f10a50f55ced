use Rattle.xref_links.proofs.keyed.defined_key.Goals as goal

pub returns-in_err-answer-clause-stand : goal.returns-in_err-answer-clause-stand
returns-in_err-answer-clause-stand g c = c.key.ensures.stand

pub returns-in_err-answer-clause-founded : goal.returns-in_err-answer-clause-founded
returns-in_err-answer-clause-founded g c = c.key.ensures.founded

pub returns-in_err-answer-clause-asks : goal.returns-in_err-answer-clause-asks
returns-in_err-answer-clause-asks g c = c.key.ensures.asks

pub returns-in_err-answer-clause-grows : goal.returns-in_err-answer-clause-grows
returns-in_err-answer-clause-grows g c = c.key.ensures.grows

pub returns-clause-stand : goal.returns-clause-stand
returns-clause-stand g c = c.key.ensures.stand

pub returns-clause-founded : goal.returns-clause-founded
returns-clause-founded g c = c.key.ensures.founded

pub returns-clause-asks : goal.returns-clause-asks
returns-clause-asks g c = c.key.ensures.asks

pub returns-clause-grows : goal.returns-clause-grows
returns-clause-grows g c = c.key.ensures.grows
