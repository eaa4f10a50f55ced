-- How a plan is made: the DITAVAL of its build was read, its map was included, filtered and copied, and it is the plan of
-- the nodes of that tree, with no more pages than there is room for.
use Rattle.std.specs.Prelude.{◌≡◌, ◌≤◌, ◌++◌, ℕ, Bool, true, false, List, Option, Some, None, Result, Ok, Err, length, if◌then◌else◌}
use Rattle.std.proofs.Common.{refl, sym, ap, subst, ◌∙◌}
use Rattle.std.proofs.lemmas.Bool.{leb-true}
use Rattle.dita_doc.specs.declared.fault.Fault.{Fault}
use Rattle.dita_doc.specs.declared.plan.Plan.{Plan}
use Rattle.dita_doc.specs.declared.plan.PlanNode.{PlanNode}
use Rattle.dita_doc.specs.declared.plan.PlanStop.{PlanStop}
use Rattle.ditaval_rules.specs.declared.rules.RulesRead.{RulesRead}
use Rattle.reader_spec.specs.World.{World}
use Rattle.map_spec.specs.Branches.{branched, copied}
use Rattle.map_spec.specs.Cascade.{cascaded}
use Rattle.map_spec.specs.Included.{included, included_from, is_map, root_in}
use Rattle.map_spec.specs.Judged.{filtered}
use Rattle.map_spec.specs.MapTree.{Grown, MapTree, plan_nodes}
use Rattle.map_spec.specs.Pages.{pages_of}
use Rattle.map_spec.specs.PlanOf.{Limits, build_rules, grown_from, plan_of, plan_of_map, plan_of_root, plan_of_tree, plan_with, then_plan}
use Rattle.map_spec.specs.Written.{Whole}
use Rattle.map_lemmas.proofs.GrownLaws.{within}

-- a step that gave a plan had something to go on from
record StepsFrom {X : Type 0} (before : Result X PlanStop) (next : X → Result Plan PlanStop) (plan : Plan) : Type 0 where
  from : X
  was : before ≡ Ok from
  gave : next from ≡ Ok plan

steps_from : {X : Type 0} (before : Result X PlanStop) (next : X → Result Plan PlanStop) (plan : Plan)
    → then_plan before next ≡ Ok plan → StepsFrom before next plan
steps_from (Ok x) next plan is = record { from = x; was = refl; gave = is }
steps_from (Err stop) next plan is = absurd (cc)

-- a plan that is given on a condition meets it
given_if : {X : Type 0} (test : Bool) (made : Result X PlanStop) (stop : PlanStop) (x : X)
    → (if test then made else Err stop) ≡ Ok x → (test ≡ true) × (made ≡ Ok x)
given_if true made stop x is = (refl, is)
given_if false made stop x is = absurd (cc)

-- the tree of a plan, of what its map includes and the rules of its build
abbrev pub tree_left : World → RulesRead → Grown → MapTree
tree_left world read grown = copied world (filtered world read.rules grown.tree).tree

-- it is the plan of the nodes of a tree, and has few enough pages
pub record IsPlanOfTree (most : Limits) (world : World) (tree : MapTree) (plan : Plan) : Type 0 where
  pub before : List Fault
  pub is : plan ≡ plan_with world before (cascaded world (plan_nodes tree))
  pub few : length plan.pages ≤ most.pages

of_tree : (most : Limits) (world : World) (before : List Fault) (grown : Grown) (plan : Plan)
    → plan_of_tree most world before grown ≡ Ok plan → IsPlanOfTree most world grown.tree plan
of_tree most world before grown plan is =
    let made = plan_with world (before ++ grown.faults) (cascaded world (plan_nodes grown.tree)) in
    let given = given_if _ (Ok made) _ plan is in
    let same : made ≡ plan = cc in
    record {
      before = before ++ grown.faults;
      is = sym same;
      few = subst (λ (p : Plan). length p.pages ≤ most.pages) same (leb-true _ _ given.0);
    }

-- of a map
of_map : (most : Limits) (world : World) (read : RulesRead) (grown : Grown) (plan : Plan)
    → plan_of_map most world read grown ≡ Ok plan → IsPlanOfTree most world (tree_left world read grown) plan
of_map most world read grown plan is =
    let judged = filtered world read.rules grown.tree in
    let step = steps_from (branched most.nodes world judged.tree)
    (plan_of_tree most world (read.faults ++ grown.faults ++ judged.faults)) plan is in
    subst (λ (g : Grown). IsPlanOfTree most world g.tree plan) (sym (within most.nodes _ step.from step.was))
    (of_tree most world (read.faults ++ grown.faults ++ judged.faults) step.from plan step.gave)

-- of a root
pub record IsPlanMade (most : Limits) (world : World) (map : List ℕ) (val : Option (List ℕ)) (plan : Plan) : Type 0 where
  pub read : RulesRead
  pub rules : build_rules world val ≡ Ok read
  pub grown : Grown
  pub was : included most.nodes world map ≡ Ok grown
  pub of : IsPlanOfTree most world (tree_left world read grown) plan

of_root : (most : Limits) (world : World) (map : List ℕ) (val : Option (List ℕ)) (root : Option Whole) (plan : Plan)
    → root_in world map ≡ root → plan_of_root most world map val root ≡ Ok plan → IsPlanMade most world map val plan
of_root most world map val None plan there is = absurd (cc)
of_root most world map val (Some root) plan there is =
    let given = given_if (is_map root) _ _ plan is in
    let read = steps_from (build_rules world val)
    (λ read. then_plan (grown_from most world map root) (plan_of_map most world read)) plan given.1 in
    let grown = steps_from (grown_from most world map root) (plan_of_map most world read.from) plan read.gave in
    record {
      read = read.from;
      rules = read.was;
      grown = grown.from;
      was = ap (included_from most.nodes world map) there ∙ grown.was;
      of = of_map most world read.from grown.from plan grown.gave;
    }

-- so is each plan
pub plan_made : (most : Limits) (world : World) (map : List ℕ) (val : Option (List ℕ)) (plan : Plan)
    → plan_of most world map val ≡ Ok plan → IsPlanMade most world map val plan
unfolding plan_of
plan_made most world map val plan is = of_root most world map val (root_in world map) plan refl is

-- a plan has the pages of some nodes, and few enough
pub record HasPagesOf (most : Limits) (world : World) (plan : Plan) : Type 0 where
  pub nodes : List PlanNode
  pub are : plan.pages ≡ pages_of world nodes
  pub few : length plan.pages ≤ most.pages

pub plan_pages : (most : Limits) (world : World) (map : List ℕ) (val : Option (List ℕ)) (plan : Plan)
    → plan_of most world map val ≡ Ok plan → HasPagesOf most world plan
plan_pages most world map val plan is =
    let made = plan_made most world map val plan is in
    record {
      nodes = cascaded world (plan_nodes (tree_left world made.read made.grown));
      are = ap (λ (p : Plan). p.pages) made.of.is;
      few = made.of.few;
    }
