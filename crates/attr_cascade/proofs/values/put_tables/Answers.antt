use Rattle.std.proofs.Common.{[], ◌∷◌, sym, subst}
use Rattle.std.specs.Prelude.{codes}
use Rattle.attr_cascade.specs.Tokens.{AreTables}
use Rattle.attr_cascade.proofs.values.put_tables.Goals as goal

pub returns : goal.returns
returns c = λ world homes before near empty.
    let none = subst (AreTables world c.args.nodes.now []) (sym empty) tt in
    let one = c.in_ok-put_table.ensures world [] homes before near none in
    let two = c.in_ok-put_table-2.ensures world (codes "audience" ∷ []) homes before near
    one in
    let three = c.in_ok-put_table-3.ensures world (codes "audience" ∷ codes "platform" ∷ []) homes before near
    two in
    let four = c.in_ok-put_table-4.ensures world (codes "audience" ∷ codes "platform" ∷ codes "product" ∷ []) homes before near
    three in
    let five = c.in_ok-put_table-5.ensures world (codes "audience" ∷ codes "platform" ∷ codes "product" ∷ codes "otherprops" ∷ []) homes before near
    four in
    c.put_table-6.ensures world (codes "audience" ∷ codes "platform" ∷ codes "product" ∷ codes "otherprops" ∷ codes "props" ∷ [])
    homes before near five
