-- Nodes that are resolved where they stand, and what is put in their place (own).
use Rattle.std.specs.Prelude.{◌≡◌, ◌+◌, ◌-◌, ◌<◌, ◌≤◌, ℕ, Bool, false, List, Result, Ok, Err, length, if◌then◌else◌}
use Rattle.std.specs.List.{flat_map}
use Rattle.dita_doc.specs.declared.stop.Stop.{Stop}
use Rattle.dita_doc.specs.declared.stop.Stop.TheVariants as stops
use Rattle.doc_maker.specs.Building.{depth}
use Rattle.map_spec.specs.Judged.{group_faults}
use Rattle.map_spec.specs.Written.{Element, Written}
use Rattle.conref_spec.specs.Content.{ContentAround, Made, Place, ResolveInput, around_within, count_limit, declared_there, resolve_depth_limit, element_made, element_resolved, goes, made_with, nothing_made, path_limit, ranges_made, resolved_among, resolved_from}
use Rattle.reader_spec.specs.World.{World}
use Rattle.readers.specs.Setting.{Stand}
use Rattle.conref_targets.specs.ResolveInput.{setting_of}
use Rattle.conref_targets.specs.Tables.{AreTables, Documents}
use Rattle.conref_targets.specs.declared.tables.PlaceTables.{PlaceTables}
use Rattle.conref_pull.specs.Putting.{IsPut, built}
use Rattle.conref_pull.specs.State.{path_within}
use Rattle.conref_pull.specs.Step.{Taken, range_of_one}
use Rattle.conref_pull.specs.declared.resolver.At.{At}
use Rattle.conref_pull.specs.declared.resolver.Resolver.{Resolver}
use Rattle.conref_pull.specs.declared.resolver.TooMany.{TooMany}

-- where nodes are resolved: in this setting, at this depth, within the targets of this path, and within so many more
pub record Here : Type 0 where
  pub setting : ResolveInput
  pub depth : ℕ
  pub path : List Place
  pub steps : ℕ

abbrev pub inside_of : Here → Here
inside_of here = record here { depth = here.depth + 1 }

abbrev pub seen_by : List ℕ → List (List ℕ) → ContentAround
seen_by topic declared = record { topic = topic; declared = declared }

-- what is around these nodes
abbrev pub around_of : At → ContentAround
around_of at = seen_by at.topic.now at.declared.now

-- What is put in the place of siblings, with this around them

abbrev pub among_made : Here → Bool → ContentAround → Written → Made
among_made here is_range around nodes =
    resolved_among (resolved_from here.steps here.setting) here.setting is_range around here.depth here.path nodes

-- in the place of an element
abbrev pub whole_made : Here → Bool → ContentAround → Element → Written → Made
whole_made here is_range around element inside =
    element_resolved (resolved_from here.steps here.setting) here.setting
    (record { is_range = is_range; around = around; depth = here.depth; path = here.path }) element inside
    (λ shown. among_made (inside_of here) false shown inside)

-- in the place of an element that stays, for which these names are declared, with this around what it holds
abbrev pub stays_made : Here → Bool → List (List ℕ) → ContentAround → Element → Written → Made
stays_made here is_range declared around element inside = element_made is_range declared element
    (among_made (inside_of here) false (around_within is_range element around) inside)

-- in the place of an element that takes nothing, for which this counts
abbrev pub kept_made : Here → Bool → ContentAround → Element → Written → Made
kept_made here is_range around element inside = stays_made here is_range around.declared around element inside

-- in the place of an element with what it takes, which holds the content of a target, for which these names are
-- declared; for the element itself its own are
abbrev pub merged_made : Here → Bool → ContentAround → List (List ℕ) → Element → Written → Made
merged_made here is_range around there merged inside = made_with (group_faults around.declared merged)
    (if goes here.setting around.declared merged then record nothing_made { count = 1 }
    else stays_made here is_range around.declared (declared_there there around) merged inside)

-- in the place of the ranges behind the targets that were taken
abbrev pub ranges_put : Here → ContentAround → List Taken → Made
ranges_put here around taken =
    ranges_made (resolved_from here.steps here.setting) around here.depth (flat_map range_of_one taken)

-- The state of the page

-- what is put next stands at this depth: behind so many elements around all that is resolved, and those that are open
pub record StandsDeep (resolver : Resolver) (at : ℕ) : Type 0 where
  pub around : ℕ
  pub deepest : resolver.deepest ≡ resolve_depth_limit - around
  pub is : at ≡ around + 1 + depth (built resolver)

-- nodes can be resolved here, within so many targets
pub record IsReady (world : World) (stand : Stand) (links : ℕ) (here : Here) (resolver : Resolver) (places : PlaceTables)
    : Type 0 where
  pub setting :
      here.setting ≡ setting_of world stand.setting resolver.context.now.page resolver.rules
  pub path : here.path ≡ path_within resolver links
  pub within : links ≤ length resolver.path.items
  pub limit : links ≤ path_limit
  pub steps : path_limit ≤ here.steps + links
  pub depth : StandsDeep resolver here.depth
  pub room : resolver.count ≤ count_limit
  pub tables : AreTables here.setting.pushed places

-- content was put within so many targets, which are the same as before
pub record IsWalked (documents : Documents) (links : ℕ) (made : Made) (old new : Resolver) (places : PlaceTables) : Type 0
  where
    pub put : IsPut made old new
    pub path : path_within new links ≡ path_within old links
    pub within : links ≤ length new.path.items
    pub tables : AreTables documents places

-- it is too much, and the tables are right all the same
pub record HasNoRoom (documents : Documents) (made : Made) (old : Resolver) (places : PlaceTables) : Type 0 where
  pub much : count_limit < old.count + made.count
  pub tables : AreTables documents places

-- it was put, or it is too much; out of memory, nothing is said
abbrev pub Walks : Result (Unit {0}) (Stop TooMany) → Documents → ℕ → Made → Resolver → Resolver → PlaceTables → Type 0
Walks (Ok done) documents links made old new places = IsWalked documents links made old new places
Walks (Err (stops.Fault fault)) documents links made old new places = HasNoRoom documents made old places
Walks (Err stops.NoMemory) documents links made old new places = Unit {0}
