-- What a build has so far (own): its pages with their names, how many bytes they have, and faults that make the same
-- report as all its faults; and what it gives of a plan in the end.
use Rattle.std.specs.Prelude.{◌≡◌, ◌++◌, ℕ, true, List, [], ◌∷◌, Option, length, map, nat_le, take}
use Rattle.std.specs.List.{AllByRecursion, flat_map}
use Rattle.clean_build.specs.Clean.{HasPageNames, clean_seen, page_seen}
use Rattle.build_plan.specs.PageNames.{IsPageName}
use Rattle.clean_build.specs.declared.built.Clean.{Clean}
use Rattle.dita_doc.specs.declared.fact.Html.{Html}
use Rattle.dita_doc.specs.declared.fault.Fault.{Fault}
use Rattle.dita_doc.specs.declared.plan.PagePlan.{PagePlan}
use Rattle.dita_doc.specs.declared.plan.Plan.{Plan}
use Rattle.fault_report.specs.Report.{IsAmong}
use Rattle.link_spec.specs.Links.{row_faults}
use Rattle.part_spec.specs.Parts.{build_of, names_of_pages, page_parts, pages_with, parts_of, rooms, total_limit, total_of}
use Rattle.reader_spec.specs.World.{World}
use Rattle.clean_build.specs.declared.gathered.Gathered.{Gathered}

-- each of some faults is one of others, and the other way round
pub record AreAsGood (some others : List Fault) : Type 0 where
  pub there : (fault : Fault) → IsAmong fault some → IsAmong fault others
  pub back : (fault : Fault) → IsAmong fault others → IsAmong fault some

-- parts of this HTML were put under these names; they are kept if they are not too large together
pub record HasPages (names : List (List ℕ)) (parts : List Html) (gathered : Gathered) : Type 0 where
  pub even : length names ≡ length parts
  pub total : gathered.total ≡ total_of parts
  pub pages : nat_le (total_of parts) total_limit ≡ true → map page_seen gathered.pages ≡ pages_with names parts

pub record HasGathered (names : List (List ℕ)) (parts : List Html) (faults : List Fault) (gathered : Gathered)
    : Type 0 where
  pub put : HasPages names parts gathered
  pub good : AreAsGood gathered.faults faults

-- The parts of a plan

-- faults of every page are faults of a build that has a page
abbrev pub faults_of_each : List PagePlan → List Fault → List Fault
faults_of_each [] faults = []
faults_of_each (page ∷ pages) faults = faults

-- what is gathered before any page: the faults of the plan, and those of its rows
abbrev pub faults_before : Plan → List Fault
faults_before plan = plan.faults ++ faults_of_each plan.pages (row_faults plan)

-- these parts of a plan were put under these names
abbrev pub HasParts : Plan → List (List ℕ) → List Html → Gathered → Type 0
HasParts plan names parts gathered =
    HasGathered names parts (faults_before plan ++ flat_map (λ (part : Html). part.faults) parts) gathered

-- so many of its pages were put
abbrev pub HasPagesOf : World → Plan → Option (List ℕ) → ℕ → Gathered → Type 0
HasPagesOf world plan val count gathered = HasParts plan
    (take count (map (λ (page : PagePlan). page.name) plan.pages)) (take count (page_parts rooms world plan val))
    gathered

-- all of them were put, and the contents page behind them
abbrev pub HasPartsOf : World → Plan → Option (List ℕ) → Gathered → Type 0
HasPartsOf world plan val gathered = HasParts plan (names_of_pages plan) (parts_of rooms world plan val) gathered

-- The build

-- the build of a plan of these parts; where the plan's names are names of pages, so are those that it gives
pub record IsBuilt (plan : Plan) (parts : List Html) (clean : Clean) : Type 0 where
  pub built : clean_seen clean ≡ build_of total_limit plan parts
  pub names : AllByRecursion IsPageName (names_of_pages plan) → HasPageNames clean
