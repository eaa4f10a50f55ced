use Rattle.std.proofs.Common.{◌∙◌, length, sym}
use Rattle.key_scopes.specs.Found.{own_of}
use Rattle.key_scopes.specs.Rising.{by_names}
use Rattle.key_scopes.proofs.PastLaws.{qualified_without}
use Rattle.key_scopes.proofs.RisingLaws.{no_answer}
use Rattle.key_scopes.proofs.lookup.outer_of.Goals as goal

pub returns-else-contains : goal.returns-else-contains
returns-else-contains c =
    let all = c.args.table.now.scopes in
    let own_at = own_of c.args.table.now in
    let key = c.args.key.now in
    sym (no_answer all (by_names all own_at key)
    (λ scope. qualified_without (length key) all own_at scope key
    (sym c.contains.ensures.value ∙ c.if-contains.false)) c.args.from)
