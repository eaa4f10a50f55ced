-- Content that is put: into what is made, its nodes and the names declared for each; to the count and to the faults,
-- its own (own).
use Rattle.std.specs.Prelude.{◌≡◌, ◌+◌, ◌++◌, ◌<◌, ◌≤◌, ℕ, List, Result, Ok, Err}
use Rattle.dita_doc.specs.declared.stop.Stop.{Stop}
use Rattle.dita_doc.specs.declared.stop.Stop.TheVariants as stops
use Rattle.doc_maker.specs.Building.{Building, behind}
use Rattle.doc_maker.specs.Made.{building, declared}
use Rattle.conref_spec.specs.Content.{Made, count_limit}
use Rattle.conref_pull.specs.declared.resolver.Resolver.{Resolver}
use Rattle.conref_pull.specs.declared.resolver.TooMany.{TooMany}

abbrev pub built : Resolver → Building
built resolver = building resolver.maker

-- for each node that was put the names of conditional attributes that are declared for it
abbrev pub declared_put : Resolver → List (List (List ℕ))
declared_put resolver = declared resolver.maker

-- this content was put, and it is not too much
pub record IsPut (made : Made) (old new : Resolver) : Type 0 where
  pub nodes : built new ≡ behind (built old) made.nodes
  pub declared : declared_put new ≡ declared_put old ++ made.declared
  pub count : new.count ≡ old.count + made.count
  pub room : new.count ≤ count_limit
  pub faults : new.faults ≡ old.faults ++ made.faults

-- it was put, or it is too much; out of memory, nothing is said
abbrev pub Puts : Result (Unit {0}) (Stop TooMany) → Made → Resolver → Resolver → Type 0
Puts (Ok done) made old new = IsPut made old new
Puts (Err (stops.Fault fault)) made old new = count_limit < old.count + made.count
Puts (Err stops.NoMemory) made old new = Unit {0}

-- nothing is put
pub record IsSameMaker (old new : Resolver) : Type 0 where
  pub is : new.maker ≡ old.maker
