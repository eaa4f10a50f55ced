use Rattle.std.proofs.Common.{[], refl}
use Rattle.dita_doc.specs.Tree.{tree_of}
use Rattle.readers.specs.Named.{named_tree}
use Rattle.conref_targets.proofs.LabelLaws.{table_named}
use Rattle.conref_targets.proofs.TableLaws.{on_ok_always, target_put}
use Rattle.conref_targets.proofs.tables.PlaceTables.find.Goals as goal

pub returns-in-Some-clause-found : goal.returns-in-Some-clause-found
returns-in-Some-clause-found c = λ documents are stored.
    c.find.ensures (named_tree c.args.doc.now)
    (are.targets c.args.name.now c.in-Some.table.now (named_tree c.args.doc.now) c.in-Some.ensures.value stored)

pub returns-in-Some-clause-known : goal.returns-in-Some-clause-known
returns-in-Some-clause-known c = λ documents are stored. on_ok_always c.find.result _ are

pub returns-clause-found : goal.returns-clause-found
returns-clause-found c = λ documents are stored.
    c.in_ok-found.ensures (named_tree c.args.doc.now)
    (table_named c.in_ok-table.table [] c.args.doc.now.origins (tree_of c.args.doc.now.nodes) (c.in_ok-table.ensures []))

pub returns-clause-known : goal.returns-clause-known
returns-clause-known c = λ documents are stored.
    target_put documents c.args.self.now (record c.args.self.now { targets = c.insert.new.self })
    c.in_ok-clone.field-0 c.args.name.now c.in_ok-table.table c.args.doc.now c.in_ok-clone.ensures.cases
    c.in_ok-insert.ensures.updates.0 refl refl stored
    (table_named c.in_ok-table.table [] c.args.doc.now.origins (tree_of c.args.doc.now.nodes) (c.in_ok-table.ensures [])) are
