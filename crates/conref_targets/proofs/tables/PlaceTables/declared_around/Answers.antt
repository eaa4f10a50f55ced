use Rattle.std.specs.List.{each_same}
use Rattle.std.proofs.Common.{refl, ◌∙◌}
use Rattle.readers.specs.Named.{named_tree}
use Rattle.conref_targets.proofs.TableLaws.{declared_of, declared_put, names_there}
use Rattle.conref_targets.proofs.tables.PlaceTables.declared_around.Goals as goal

pub returns-in-Some-clause-names : goal.returns-in-Some-clause-names
returns-in-Some-clause-names c = λ documents are stored.
    each_same c.around.result.now c.in_ok-clone.field-0 c.in_ok-clone.ensures.cases ∙ names_there c.args.place
    (are.declared c.args.name.now c.in-Some.declarations.now (named_tree c.args.doc.now) c.in-Some.ensures.value stored)
    c.around.ensures

pub returns-in-Some-clause-known : goal.returns-in-Some-clause-known
returns-in-Some-clause-known c = λ documents are stored. are

pub returns-clause-names : goal.returns-clause-names
returns-clause-names c = λ documents are stored.
    each_same c.around-2.result.now c.in_ok-names.names c.in_ok-names.ensures.cases ∙ names_there c.args.place
    (declared_of c.args.doc.now c.in_ok-declarations.declarations c.in_ok-declarations.ensures) c.around-2.ensures

pub returns-clause-known : goal.returns-clause-known
returns-clause-known c = λ documents are stored.
    declared_put documents c.args.self.now (record c.args.self.now { declared = c.insert.new.self })
    c.in_ok-clone-2.field-0 c.args.name.now c.in_ok-declarations.declarations c.args.doc.now c.in_ok-clone-2.ensures.cases
    c.in_ok-insert.ensures.updates.0 refl refl stored
    (declared_of c.args.doc.now c.in_ok-declarations.declarations c.in_ok-declarations.ensures) are
