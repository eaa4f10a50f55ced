use Rattle.std.proofs.Common.{ap, ◌∙◌}
use Rattle.std.proofs.lemmas.Result.{IfOk-weaker}
use Rattle.readers.specs.Named.{named_tree}
use Rattle.conref_targets.proofs.RangeEndLaws.{around_as, stored_there}
use Rattle.conref_targets.proofs.find.around_found.Goals as goal

pub returns-clause-names : goal.returns-clause-names
returns-clause-names c = λ documents meant are is.
    IfOk-weaker c.declared_around.result _ _
    (λ names found. around_as meant (ap named_tree c.deref.ensures ∙ is.nodes) is.place found)
    (c.declared_around.ensures.names documents are
    (stored_there documents meant c.args.found.now is c.deref.result.now c.deref.ensures))

pub returns-clause-tables : goal.returns-clause-tables
returns-clause-tables c = λ documents meant are is. c.declared_around.ensures.known documents are
    (stored_there documents meant c.args.found.now is c.deref.result.now c.deref.ensures)
