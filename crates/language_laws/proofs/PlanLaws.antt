-- How a plan is made: its nodes are those of a map with its branches copied, with cascaded values and scopes.
use Rattle.std.specs.Prelude.{◌≡◌, ◌+◌, ℕ, suc, List, [], ◌∷◌, Option, Ok}
use Rattle.std.proofs.Common.{refl, sym, ap, subst, add-one}
use Rattle.dita_doc.specs.declared.content.Rule.{Rule}
use Rattle.dita_doc.specs.declared.plan.Plan.{Plan}
use Rattle.dita_doc.specs.declared.plan.PlanKind.TheVariants as kinds
use Rattle.ditaval_rules.specs.declared.rules.RulesRead.{RulesRead}
use Rattle.reader_spec.specs.World.{World}
use Rattle.map_spec.specs.Branches.{copied}
use Rattle.map_spec.specs.Cascade.{cascaded}
use Rattle.map_spec.specs.Included.{included, map_included, new_head, root_place}
use Rattle.map_spec.specs.Judged.{filtered}
use Rattle.map_spec.specs.MapTree.{Grown, MapTree, plan_nodes}
use Rattle.map_spec.specs.PlanOf.{Limits, build_rules, plan_of}
use Rattle.map_spec.specs.Scopes.{scoped}
use Rattle.map_spec.specs.Written.{Whole}
use Rattle.map_lemmas.proofs.GrownLaws.{included_made}
use Rattle.language_laws.specs.PlanTree.{IsPlanTree}
use Rattle.language_laws.proofs.AlikeLaws.{tree_alike, finished_alike}
use Rattle.language_laws.proofs.CopyLaws.{IsMapTree, copied_map, filtered_map}
use Rattle.build_plan.proofs.IncludedLaws.{HasNoFilters, included_new}
use Rattle.build_plan.proofs.PlanPagesLaws as plan_steps
use Rattle.language_laws.proofs.KeptLaws.{IsKept}
use Rattle.language_laws.proofs.TreeLaws.{root_tree}

-- The steps of a plan

-- the tree of a map, with all submaps
included_map : (limit : ℕ) (world : World) (path : List (List ℕ)) (level : ℕ) (root : Whole)
    → IsMapTree HasNoFilters (map_included (suc limit) world path level root).tree
unfolding map_included
included_map limit world path level root = record {
  head = new_head kinds.Map root.0 level (root_place world root.0.doc);
  below = _;
  is = refl;
  kind = refl;
  all = (included_new (suc limit) world path level root).1;
}

-- the tree of a map within the limit
grown_map : (limit : ℕ) (world : World) (map : List ℕ) (grown : Grown) → included limit world map ≡ Ok grown
    → IsMapTree HasNoFilters grown.tree
grown_map limit world map grown was =
    let whole = included_made limit world map grown was in
    let more : limit + 1 ≡ suc limit = add-one limit in
    subst (λ (grown : Grown). IsMapTree HasNoFilters grown.tree) whole.is
    (subst (λ fuel. IsMapTree HasNoFilters (map_included fuel world (map ∷ []) 0 whole.root).tree) (sym more)
    (included_map limit world (map ∷ []) 0 whole.root))

-- a plan is made of the tree of a map, of which the rules of a build and of branches leave these nodes
pub record IsMade (world : World) (rules : List Rule) (plan : Plan) : Type 0 where
  pub tree : MapTree
  pub whole : IsMapTree (IsKept world rules) tree
  pub nodes : plan.nodes ≡ scoped (cascaded world (plan_nodes tree))

-- the rules that were read, with the plan that they leave
pub record IsMadeBy (world : World) (val : Option (List ℕ)) (plan : Plan) : Type 0 where
  pub read : RulesRead
  pub rules : build_rules world val ≡ Ok read
  pub made : IsMade world read.rules plan

-- each plan is made so
pub plan_made : (most : Limits) (world : World) (map : List ℕ) (val : Option (List ℕ)) (plan : Plan)
    → plan_of most world map val ≡ Ok plan → IsMadeBy world val plan
plan_made most world map val plan e =
    let steps = plan_steps.plan_made most world map val plan e in
    let rules = steps.read.rules in
    record {
      read = steps.read;
      rules = steps.rules;
      made = record {
        tree = plan_steps.tree_left world steps.read steps.grown;
        whole = copied_map world rules (filtered world rules steps.grown.tree).tree
            (filtered_map world rules steps.grown.tree (grown_map most.nodes world map steps.grown steps.was));
        nodes = ap (λ (p : Plan). p.nodes) steps.of.is;
      };
    }

-- The tree of a plan

-- its nodes are a tree
pub plan_tree : (most : Limits) (world : World) (map : List ℕ) (val : Option (List ℕ)) (plan : Plan)
    → plan_of most world map val ≡ Ok plan → IsPlanTree plan.nodes
plan_tree most world map val plan e =
    let made = (plan_made most world map val plan e).made in
    let whole = made.whole in
    let tree = subst (λ tree. IsPlanTree (plan_nodes tree)) (sym whole.is) (root_tree whole.head whole.below) in
    subst IsPlanTree (sym made.nodes)
    (tree_alike (plan_nodes made.tree) (scoped (cascaded world (plan_nodes made.tree)))
    (finished_alike world (plan_nodes made.tree)) tree)
