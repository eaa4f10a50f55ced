use Rattle.std.proofs.Common.{subst}
use Rattle.doc_elements.specs.Walk.{element_of}
use Rattle.html_tables.specs.Walk.{HasColumns}
use Rattle.html_tables.proofs.ColumnLaws.{no_columns}
use Rattle.html_tables.proofs.groups.Groups.columns_spanned.Goals as goal

pub returns-in-Some : goal.returns-in-Some
returns-in-Some c = λ name columns has.
    c.spanned_in.ensures name columns (subst (λ group. HasColumns c.args.self.now group columns) c.in-Some.is has)

pub returns-in-None : goal.returns-in-None
returns-in-None c = λ name columns none.
    no_columns columns (element_of name c.args.cell.now)
    (subst (λ group. HasColumns c.args.self.now group columns) c.in-None.is none)
