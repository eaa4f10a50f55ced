use Rattle.std.proofs.Common.{arith, refl}
use Rattle.fact_table.proofs.ShelfLaws.{drop_is, first_low}
use Rattle.fact_table.proofs.shelf.Shelf.drop_first.Goals as goal

pub overflow_sub-self : goal.overflow_sub-self
overflow_sub-self c =
    let low = first_low c.args.self.now c.in-Some.field-0 c.pop_front.new.self.items c.requires.shelf
    c.in-Some.ensures.items in
    omega (arith, c.from.ensures)

pub returns-clause-shelf : goal.returns-clause-shelf
returns-clause-shelf c =
    let low = first_low c.args.self.now c.in-Some.field-0 c.pop_front.new.self.items c.requires.shelf
    c.in-Some.ensures.items in
    drop_is c.args.self.now _ c.in-Some.field-0 c.requires.shelf c.in-Some.ensures.items refl refl
    (omega (arith, c.from.ensures))
