-- The whole plan, from its steps.
use Rattle.std.specs.Prelude.{◌≡◌, ◌++◌, ℕ, Bool, true, false, List, Option, Some, None, Result, Ok, Err, length, nat_le, if◌then◌else◌}
use Rattle.std.specs.Result.{result_map_both}
use Rattle.std.proofs.Common.{refl, sym, ap, subst, ◌∙◌, append_assoc}
use Rattle.dita_doc.specs.Gives.{Gives, GivesSeen}
use Rattle.dita_doc.specs.declared.fault.Fault.{Fault}
use Rattle.dita_doc.specs.declared.plan.Expanded.{Expanded}
use Rattle.dita_doc.specs.declared.plan.Plan.{Plan}
use Rattle.dita_doc.specs.declared.plan.PlanNode.{PlanNode}
use Rattle.dita_doc.specs.declared.plan.PlanStop.{PlanStop}
use Rattle.dita_doc.specs.declared.plan.PlanStop.TheVariants as stops
use Rattle.dita_doc.specs.declared.plan.Scope.{Scope}
use Rattle.dita_doc.specs.declared.stop.Stop.{Stop}
use Rattle.dita_doc.specs.declared.stop.Stop.TheVariants as stop
use Rattle.ditaval_rules.specs.declared.rules.RulesRead.{RulesRead}
use Rattle.map_spec.specs.Branches.{branched}
use Rattle.map_spec.specs.Cascade.{cascaded}
use Rattle.map_spec.specs.Included.{included, included_from, is_map, map_node_limit, root_in}
use Rattle.map_spec.specs.Judged.{filtered}
use Rattle.map_spec.specs.MapTree.{Grown, plan_nodes, with_faults}
use Rattle.map_spec.specs.Pages.{documents_of, page_faults, pages_of, node_targets}
use Rattle.map_spec.specs.PlanOf.{build_rules, few_pages, grown_from, limits, plan_of, plan_of_map, plan_of_root, plan_of_tree, plan_with, then_plan}
use Rattle.map_spec.specs.Scopes.{name_faults, scoped, scopes}
use Rattle.map_spec.specs.Written.{Whole}
use Rattle.map_lemmas.specs.Alike.{AreAlike}
use Rattle.map_lemmas.proofs.CarriedLaws.{alike_scoped}
use Rattle.map_lemmas.proofs.PageLaws.{same_documents_of, same_page_faults, same_pages_of, same_targets_of}
use Rattle.page_names.specs.Made.{all_made, pages_made}
use Rattle.page_names.specs.declared.made.PagesMade.{PagesMade}
use Rattle.reader_spec.specs.World.{World}
use Rattle.build_plan.specs.Stages.{branched_map, cascaded_map, copied_map, judged_map, map_stop}
use Rattle.build_plan.proofs.FoundLaws.{none_of, some_of}

then_same : {X Y : Type 0} (x : Result X PlanStop) (f g : X → Result Y PlanStop) → ((v : X) → f v ≡ g v)
    → then_plan x f ≡ then_plan x g
then_same (Ok v) f g same = same v
then_same (Err stop) f g same = refl

module _ (world : World) (name : List ℕ) (val : Option (List ℕ)) where
  abbrev pub planned_from : RulesRead → Grown → Result Plan PlanStop
  planned_from read grown =
      few_pages limits.pages (plan_with world (read.faults ++ grown.faults) (cascaded world (plan_nodes grown.tree)))

  by_branches : (read : RulesRead) (grown before : Grown) (x : Result Grown PlanStop)
      → then_plan x (plan_of_tree limits world (read.faults ++ grown.faults ++ before.faults))
      ≡ then_plan (result_map_both (with_faults (grown.faults ++ before.faults)) (λ e. e) x) (planned_from read)
  by_branches read grown before (Ok copy) =
      ap (λ faults. few_pages limits.pages (plan_with world faults (cascaded world (plan_nodes copy.tree))))
      (ap (λ faults. faults ++ copy.faults) (append_assoc read.faults grown.faults before.faults)
      ∙ append_assoc read.faults (grown.faults ++ before.faults) copy.faults)
  by_branches read grown before (Err stop) = refl

  steps_same : (read : RulesRead) (x : Result Grown PlanStop) → then_plan x (plan_of_map limits world read)
      ≡ then_plan (then_plan x (λ grown. branched_map world (judged_map world read.rules grown))) (planned_from read)
  steps_same read (Ok grown) = by_branches read grown (filtered world read.rules grown.tree)
      (branched map_node_limit world (filtered world read.rules grown.tree).tree)
  steps_same read (Err stop) = refl

  -- the map is there

  root_there : (found : Option Whole) → None ≡ map_stop found → plan_of_root limits world name val found
      ≡ then_plan (build_rules world val)
      (λ read. then_plan (included_from map_node_limit world name found) (plan_of_map limits world read))
  root_there None is = cc
  root_there (Some root) is = by_test (is_map root) is
    where
      by_test : (test : Bool) → None ≡ (if test then None else Some stops.NotMap)
          → (if test then then_plan (build_rules world val)
          (λ read. then_plan (grown_from limits world name root) (plan_of_map limits world read)) else Err stops.NotMap)
          ≡ then_plan (build_rules world val)
          (λ read. then_plan (included_from map_node_limit world name (Some root)) (plan_of_map limits world read))
      by_test true same = refl
      by_test false same = cc

  pub map_there : None ≡ map_stop (root_in world name) → plan_of limits world name val
      ≡ then_plan (build_rules world val)
      (λ read. then_plan (copied_map world read.rules name) (planned_from read))
  unfolding plan_of
  map_there none = root_there (root_in world name) none
      ∙ then_same (build_rules world val)
      (λ read. then_plan (included map_node_limit world name) (plan_of_map limits world read))
      (λ read. then_plan (copied_map world read.rules name) (planned_from read))
      (λ read. steps_same read (included map_node_limit world name))

  root_missing : (found : Option Whole) (stop : PlanStop) → Some stop ≡ map_stop found
      → plan_of_root limits world name val found ≡ Err stop
  root_missing None stop is = let same : stop ≡ stops.NoMap = cc in ap Err (sym same)
  root_missing (Some root) stop is = by_test (is_map root) is
    where
      by_test : (test : Bool) → Some stop ≡ (if test then None else Some stops.NotMap)
          → (if test then then_plan (build_rules world val)
          (λ read. then_plan (grown_from limits world name root) (plan_of_map limits world read)) else Err stops.NotMap)
          ≡ Err stop
      by_test true same = cc
      by_test false same = let one : stop ≡ stops.NotMap = cc in ap Err (sym one)

  pub no_map : (stop : PlanStop) → Some stop ≡ map_stop (root_in world name) → plan_of limits world name val ≡ Err stop
  unfolding plan_of
  no_map stop is = root_missing (root_in world name) stop is

  -- the rules were read
  module _ (none : None ≡ map_stop (root_in world name)) where
    pub no_rules : (stop : PlanStop) → build_rules world val ≡ Err stop → plan_of limits world name val ≡ Err stop
    no_rules stop is = map_there none
        ∙ ap (λ x. then_plan x (λ read. then_plan (copied_map world read.rules name) (planned_from read))) is

    module _ (read : RulesRead) (rules : build_rules world val ≡ Ok read) where
      with_rules : plan_of limits world name val ≡ then_plan (copied_map world read.rules name) (planned_from read)
      with_rules = map_there none
          ∙ ap (λ x. then_plan x (λ read. then_plan (copied_map world read.rules name) (planned_from read))) rules

      pub no_nodes : (stop : PlanStop)
          → result_map_both (cascaded_map world) (λ e. e) (copied_map world read.rules name) ≡ Err stop
          → plan_of limits world name val ≡ Err stop
      no_nodes stop is = with_rules ∙ ap (λ x. then_plan x (planned_from read))
          (none_of (cascaded_map world) (copied_map world read.rules name) stop is)

      -- the nodes were made
      pub with_nodes : (made : Expanded)
          → result_map_both (cascaded_map world) (λ e. e) (copied_map world read.rules name) ≡ Ok made
          → plan_of limits world name val ≡ few_pages limits.pages (plan_with world (read.faults ++ made.faults) made.nodes)
      with_nodes made is =
          let found = some_of (cascaded_map world) (copied_map world read.rules name) made is in
          with_rules ∙ ap (λ x. then_plan x (planned_from read)) found.is
          ∙ ap (λ (m : Expanded). few_pages limits.pages (plan_with world (read.faults ++ m.faults) m.nodes)) found.gives

-- The pages of nodes that are in their scopes

module _ (world : World) (before : List Fault) (given nodes : List PlanNode) (are : nodes ≡ scoped given) where
  alike : AreAlike given nodes
  alike = subst (AreAlike given) (sym are) (alike_scoped given)

  -- the plan over these nodes
  abbrev holding : List Scope → List Fault → Plan
  holding list found = record {
    nodes = nodes;
    scopes = list;
    pages = pages_of world nodes;
    targets = node_targets world nodes;
    documents = documents_of world nodes;
    faults = before ++ found ++ page_faults world nodes;
  }

  plan_is : (list : List Scope) (found : List Fault) → list ≡ scopes given → found ≡ name_faults world given
      → plan_with world before given ≡ holding list found
  plan_is list found list_is found_is = λ i. record {
    nodes = sym are i;
    scopes = sym list_is i;
    pages = same_pages_of world given nodes alike i;
    targets = same_targets_of world given nodes alike i;
    documents = same_documents_of world given nodes alike i;
    faults = before ++ sym found_is i ++ same_page_faults world given nodes alike i;
  }

  pub plan_gives : (list : List Scope) (found : List Fault) → list ≡ scopes given → found ≡ name_faults world given
      → (pages : PagesMade) (faults : List Fault) → pages_made 4096 world nodes ≡ Ok pages
      → faults ≡ before ++ found ++ pages.faults
      → few_pages limits.pages (plan_with world before given) ≡ Ok (record {
        nodes = nodes;
        scopes = list;
        pages = pages.pages;
        targets = pages.targets;
        documents = pages.documents;
        faults = faults;
      })
  plan_gives list found list_is found_is pages faults is all =
      ap (few_pages limits.pages) (plan_is list found list_is found_is)
      ∙ by_test (nat_le (length (pages_of world nodes)) 4096) is
    where
      same : all_made world nodes ≡ pages → holding list found ≡ record {
        nodes = nodes;
        scopes = list;
        pages = pages.pages;
        targets = pages.targets;
        documents = pages.documents;
        faults = faults;
      }
      same one = λ i. record {
        nodes = nodes;
        scopes = list;
        pages = (one i).pages;
        targets = (one i).targets;
        documents = (one i).documents;
        faults = (ap (λ (p : PagesMade). before ++ found ++ p.faults) one ∙ sym all) i;
      }

      by_test : (test : Bool) → (if test then Ok (all_made world nodes) else Err stops.TooManyPages) ≡ Ok pages
          → (if test then Ok (holding list found) else Err stops.TooManyPages) ≡ Ok (record {
            nodes = nodes;
            scopes = list;
            pages = pages.pages;
            targets = pages.targets;
            documents = pages.documents;
            faults = faults;
          })
      by_test true e = let one : all_made world nodes ≡ pages = cc in ap Ok (same one)
      by_test false e = cc

  pub plan_stops : (stop : PlanStop) → pages_made 4096 world nodes ≡ Err stop
      → few_pages limits.pages (plan_with world before given) ≡ Err stop
  plan_stops stop is =
      ap (few_pages limits.pages) (plan_is (scopes given) (name_faults world given) refl refl)
      ∙ by_test (nat_le (length (pages_of world nodes)) 4096) is
    where
      by_test : (test : Bool) → (if test then Ok (all_made world nodes) else Err stops.TooManyPages) ≡ Err stop
          → (if test then Ok (holding (scopes given) (name_faults world given)) else Err stops.TooManyPages) ≡ Err stop
      by_test true e = cc
      by_test false e = let one : stops.TooManyPages ≡ stop = cc in ap Err one

  pub plan_stopped : {A : Type 0} (see : A → Plan) (end : Stop PlanStop)
      → Gives {A = PagesMade} (Err end) (pages_made 4096 world nodes)
      → GivesSeen see (Err end) (few_pages limits.pages (plan_with world before given))
  plan_stopped see (stop.Fault fault) is = plan_stops fault is
  plan_stopped see stop.NoMemory is = tt

-- a stop of a step is that of the plan
pub stops_by : {A B : Type 0} (see : A → Plan) (end : Stop PlanStop) (one : Result B PlanStop)
    (whole : Result Plan PlanStop) → ((found : PlanStop) → one ≡ Err found → whole ≡ Err found)
    → Gives {A = B} (Err end) one → GivesSeen see (Err end) whole
stops_by see (stop.Fault fault) one whole same is = same fault is
stops_by see stop.NoMemory one whole same is = tt
