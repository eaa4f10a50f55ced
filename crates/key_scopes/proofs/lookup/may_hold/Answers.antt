use Rattle.std.proofs.Common.{◌∙◌, length, sym}
use Rattle.key_scopes.specs.Found.{own_of}
use Rattle.key_scopes.proofs.PastLaws.{qualified_without}
use Rattle.key_scopes.proofs.lookup.may_hold.Goals as goal

pub returns-else-contains : goal.returns-else-contains
returns-else-contains c = λ fails table key known ends.
    let rest = c.args.step.rest.now in
    qualified_without (length rest) table.scopes (own_of table) c.args.step.child rest
    (sym c.contains.ensures.value ∙ c.if-contains.false)
