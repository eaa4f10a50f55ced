-- What contracts see of a table of rows (own): the table as data, and the judgements of plans that it keeps.
use Rattle.std.specs.Prelude.{List}
use Rattle.facts.specs.Table.{TableData}
use Rattle.facts.specs.declared.judged.Judged.{Judged}

pub record TableSeen : Type 0 where
  pub table : TableData
  pub judged : List Judged
