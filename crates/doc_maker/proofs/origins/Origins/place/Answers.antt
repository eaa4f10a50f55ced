use Rattle.std.proofs.Common.{rules}
use Rattle.doc_maker.proofs.origins.Origins.place.Goals as goal

pub returns-clause-place : goal.returns-clause-place
returns-clause-place c = search rules

pub returns-clause-grows : goal.returns-clause-grows
returns-clause-grows c = search rules

pub put-requires : goal.put-requires
put-requires c = search rules
