use Rattle.std.proofs.Common.{◌∙◌, sym}
use Rattle.key_scopes.specs.Numbered.{entry}
use Rattle.key_scopes.proofs.DefineLaws.{last_at}
use Rattle.key_scopes.proofs.definitions.is_last_of.Goals as goal

pub returns-in-Some : goal.returns-in-Some
returns-in-Some c = λ level node.
    c.is_of.ensures
    ∙ sym (last_at c.args.sorted.now c.in-Some.last.now (entry c.args.scope level node c.args.key.now)
    (sym c.in-Some.ensures.value))
