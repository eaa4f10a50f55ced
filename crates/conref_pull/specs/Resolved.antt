-- Content that was resolved, as it is handed out, and the fault of too much of it (own).
use Rattle.std.specs.Prelude.{◌≡◌, ◌+◌, ◌<◌, ◌≤◌, ℕ, List, [], ◌∷◌, Option, Some, None, Result, Ok, Err}
use Rattle.std.specs.Option.{option_and_then}
use Rattle.dita_doc.specs.declared.content.Resolved.{Resolved}
use Rattle.dita_doc.specs.declared.fault.Fault.{Fault}
use Rattle.dita_doc.specs.declared.fault.FaultCode.TheVariants as faults
use Rattle.dita_doc.specs.declared.plan.PageId.{PageId}
use Rattle.dita_doc.specs.declared.stop.Stop.{Stop}
use Rattle.dita_doc.specs.declared.stop.Stop.TheVariants as stops
use Rattle.doc_maker.specs.Building.{whole}
use Rattle.doc_maker.specs.Made.{resolved_tree}
use Rattle.map_spec.specs.Elements.{fault_at}
use Rattle.map_spec.specs.Written.{Whole, End, document, first_sibling}
use Rattle.conref_spec.specs.Content.{Made, count_limit, page_root, resolved_in, resolved_page, within}
use Rattle.reader_spec.specs.World.{World}
use Rattle.readers.specs.Setting as made
use Rattle.conref_targets.specs.Around.{alone_at, around_at, nothing_around}
use Rattle.conref_targets.specs.Rules.{ditavals, page_rules}
use Rattle.conref_targets.specs.ResolveInput.{setting_of}
use Rattle.conref_pull.specs.Putting.{built, declared_put}
use Rattle.conref_pull.specs.declared.resolver.Resolver.{Resolver}
use Rattle.conref_pull.specs.declared.resolver.TooMany.{TooMany}

-- this content was made
pub record IsResolved (resolved : Resolved) (made : Made) : Type 0 where
  pub nodes : resolved_tree resolved ≡ made.nodes
  pub declared : resolved.declared ≡ made.declared
  pub count : resolved.count ≡ made.count
  pub faults : resolved.faults ≡ made.faults

-- the one fault of too much content stands at the root of the document as it is stored
abbrev pub root_faults : Option Whole → List Fault
root_faults None = []
root_faults (Some root) = fault_at root.0 faults.TooManyResolved [] ∷ []

abbrev pub too_many_faults : World → List ℕ → List Fault
too_many_faults world name = root_faults (option_and_then first_sibling (document world name))

-- all that was put
pub record IsAll (made : Made) (resolver : Resolver) : Type 0 where
  pub nodes : whole (built resolver) ≡ made.nodes
  pub declared : declared_put resolver ≡ made.declared
  pub count : resolver.count ≡ made.count
  pub room : made.count ≤ count_limit
  pub faults : resolver.faults ≡ made.faults

-- it is too much; out of memory, nothing is said
abbrev pub IsStopped : Stop TooMany → Made → Type 0
IsStopped (stops.Fault fault) made = count_limit < made.count
IsStopped stops.NoMemory made = Unit {0}

-- this was put, or the walk was stopped
abbrev pub IsDone : Result (Unit {0}) (Stop TooMany) → Made → Resolver → Type 0
IsDone (Ok done) made resolver = IsAll made resolver
IsDone (Err stop) made resolver = IsStopped stop made

-- there was memory
abbrev pub HasRoom : Stop TooMany → Type 0
HasRoom (stops.Fault fault) = Unit {0}
HasRoom stops.NoMemory = ⊥

abbrev pub HasMemory : Result (Unit {0}) (Stop TooMany) → Type 0
HasMemory (Ok done) = Unit {0}
HasMemory (Err stop) = HasRoom stop

abbrev pub too_much : List Fault → Made
too_much fault = record { nodes = End; declared = []; count = count_limit + 1; faults = fault }

-- the content of a page, in a setting, with the DITAVAL of the build
abbrev pub page_made : World → made.Setting → Option (List ℕ) → PageId → Made
page_made world setting val page = resolved_page count_limit (too_many_faults world page.doc)
    (setting_of world setting page (page_rules world (ditavals val page.filters)))

-- what stands in the place of one node of its document, where it stands
abbrev pub node_resolved : World → made.Setting → Option (List ℕ) → PageId → ℕ → Made
node_resolved world setting val page place =
    let there = setting_of world setting page (page_rules world (ditavals val page.filters)) in
    let stands = around_at nothing_around (page_root there) place in
    within count_limit (too_many_faults world page.doc)
    (resolved_in there stands.around (stands.depth + 1) (alone_at (page_root there) place))
