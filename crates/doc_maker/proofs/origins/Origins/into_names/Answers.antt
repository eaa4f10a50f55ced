use Rattle.std.proofs.Common.{subst, sym}
use Rattle.doc_maker.specs.Origins as spec
use Rattle.doc_maker.proofs.OriginLaws.{once_by_table}
use Rattle.doc_maker.proofs.origins.Origins.into_names.Goals as goal

pub returns-clause-once : goal.returns-clause-once
returns-clause-once c = subst spec.EachOnce (sym c.from_vec.ensures)
    (once_by_table c.self.inside.names.items c.self.inside.places.entries c.self.invariant)
