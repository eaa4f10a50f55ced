use Rattle.std.proofs.Common.{rules}
use Rattle.doc_maker.proofs.maker.next_end.Goals as goal

pub returns-clause-end : goal.returns-clause-end
returns-clause-end c = search rules
