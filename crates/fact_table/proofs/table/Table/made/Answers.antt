use Rattle.fact_table.proofs.TableLaws.{made_fits}
use Rattle.fact_table.proofs.table.Table.made.Goals as goal

pub made-requires : goal.made-requires
made-requires c = made_fits c.self.inside c.self.invariant
