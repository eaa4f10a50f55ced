-- Small facts, rows and tables. What an `Arc` holds is written into one that is given, so that they can be computed.
use Rattle.std.specs.Prelude.{ℕ, List, [], ◌∷◌, None, codes}
use Rattle.std.specs.declared.alloc.Global.{Global}
use Rattle.std.specs.declared.sync.Arc.{Arc}
use Rattle.dita_doc.specs.declared.fact.FactKey.{FactKey}
use Rattle.dita_doc.specs.declared.fact.Part.{Part}
use Rattle.dita_doc.specs.declared.fact.Part.TheVariants as parts
use Rattle.facts.specs.Rows.{RowData, Running}
use Rattle.facts.specs.Table.{TableData}
use Rattle.facts.specs.declared.fact.Fact.{Fact}
use Rattle.facts.specs.declared.fact.PlanFact.{PlanFact}

abbrev pub Share : Type 0
Share = Arc PlanFact Global

abbrev pub key_of : Part → FactKey
key_of part = record { map = codes "m.ditamap"; val = None; part = part }

-- a contents page that names the row of this serial, and has no HTML
abbrev pub contents : Share → ℕ → Fact
contents plan planned =
    record { key = key_of parts.Contents; plan = plan; planned = planned; asked = []; html = None }

-- a row of this serial, whose fact names the row of the same serial
abbrev pub row : Share → ℕ → ℕ → RowData
row plan serial bytes = record {
  serial = serial;
  stamp = 0;
  rank = serial;
  mark = serial;
  bytes = bytes;
  fact = contents plan serial;
}

abbrev pub three_rows : Share → List RowData
three_rows plan = row plan 1 100 ∷ row plan 2 100 ∷ row plan 3 100 ∷ []

abbrev pub running : ℕ → Part → ℕ → Running
running serial part stamp = record { serial = serial; key = key_of part; stamp = stamp; state = [] }

abbrev pub table : List RowData → List Running → ℕ → ℕ → ℕ → TableData
table rows claims drawn dropped limit =
    record { rows = rows; running = claims; drawn = drawn; dropped = dropped; limit = limit }
