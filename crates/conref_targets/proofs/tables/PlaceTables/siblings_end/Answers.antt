use Rattle.std.proofs.Common.{List, ℕ, ap, refl, slice_get, ◌∙◌}
use Rattle.readers.specs.Named.{named_tree}
use Rattle.conref_targets.proofs.TableLaws.{ends_put}
use Rattle.conref_targets.proofs.tables.PlaceTables.siblings_end.Goals as goal

pub returns-in-Some-clause-end : goal.returns-in-Some-clause-end
returns-in-Some-clause-end c = λ documents are stored. c.end_at.ensures
    ∙ ap (λ (ends : List ℕ). slice_get ends c.args.place) (c.as_slice.ensures.value
    ∙ are.ends c.args.name.now c.in-Some.ends.now (named_tree c.args.doc.now) c.in-Some.ensures.value stored)

pub returns-clause-end : goal.returns-clause-end
returns-clause-end c = λ documents are stored. c.end_at-end.ensures
    ∙ ap (λ (ends : List ℕ). slice_get ends c.args.place) (c.as_slice-2.ensures.value ∙ c.in_ok-ends.ensures)

pub returns-clause-known : goal.returns-clause-known
returns-clause-known c = λ documents are stored.
    ends_put documents c.args.self.now (record c.args.self.now { ends = c.insert.new.self })
    c.in_ok-clone.field-0 c.args.name.now c.in_ok-ends.ends c.args.doc.now c.in_ok-clone.ensures.cases
    c.in_ok-insert.ensures.updates.0 refl refl stored c.in_ok-ends.ensures are
