-- What is allowed and founded by the questions of a reader that tells what is pushed into documents (own). The documents
-- that pushes come from are those of a plan: they may be asked about only because each was asked for before that reader
-- began. So what goes down to the reader below goes down where the start was founded.
use Rattle.std.specs.Prelude.{ℕ, List, IsTrue}
use Rattle.std.proofs.Props.{props}
use Rattle.dita_doc.specs.declared.plan.PagePlan.{PagePlan}
use Rattle.reader_spec.specs.World.{World}
use Rattle.readers.specs.Founded.{AreAllowed, IsFounded, is_allowed}
use Rattle.readers.specs.Props.{Agrees-prop, IsFounded-prop}
use Rattle.readers.specs.Setting.{Setting}
use Rattle.readers.specs.Told.{Told, Agrees}

-- what a reader was made for, and the documents and the pages of a plan
abbrev pub made_for : List (List ℕ) → List PagePlan → Setting → Setting
made_for documents pages setting = record setting { documents = documents; pages = pages }

-- these documents might be asked about, as each was asked for
pub record WereAllowed (told : List Told) (documents : List (List ℕ)) : Type 0 where
  pub by : (roots : List (List ℕ)) → IsFounded roots told → AreAllowed roots told documents

-- What was told to a reader says all that a reader above it keeps, which began with what was told at the start: the
-- worlds that agree below agree above, and where the start was founded, what is allowed and founded above is so below
pub record CarriesFrom (start below above : List Told) : Type 0 where
  pub agrees : (world : World) → Agrees world below → Agrees world above
  pub allowed : (roots : List (List ℕ)) (m : List ℕ) → IsFounded roots start → IsTrue (is_allowed roots above m)
      → IsTrue (is_allowed roots below m)
  pub founded : (roots : List (List ℕ)) → IsFounded roots start → IsFounded roots above → IsFounded roots below

pub WereAllowed-prop : (told : List Told) (documents : List (List ℕ)) → IsProp (WereAllowed told documents)
WereAllowed-prop told documents = hlevel props

pub CarriesFrom-prop : (start below above : List Told) → IsProp (CarriesFrom start below above)
CarriesFrom-prop start below above = hlevel (props, Agrees-prop, IsFounded-prop)
