-- The tree of a map keeps its root in each step.
use Rattle.std.specs.Prelude.{◌≡◌, ◌+◌, ℕ, suc, Bool, true, false, List, [], ◌∷◌, Ok, map, if◌then◌else◌}
use Rattle.std.proofs.Common.{refl, sym, ap, subst, arith}
use Rattle.dita_doc.specs.declared.content.Rule.{Rule}
use Rattle.dita_doc.specs.declared.plan.PlanKind.{PlanKind}
use Rattle.dita_doc.specs.declared.plan.PlanKind.TheVariants as kinds
use Rattle.map_spec.specs.Branches.{Branch, all_beside, branches_of, copied, copies, copy_for, group_for, is_ditavalref, is_map_node, with_scope_names}
use Rattle.map_spec.specs.Included.{included, map_included}
use Rattle.map_spec.specs.Judged.{filtered, judged}
use Rattle.map_spec.specs.MapTree.{Grown, Head, MapTree, MapNode, NoNodes, trees_beside}
use Rattle.map_spec.specs.Written.{Whole}
use Rattle.map_lemmas.proofs.GrownLaws.{included_made}
use Rattle.plan_nodes.specs.Preorder.{HasOneRoot}
use Rattle.reader_spec.specs.World.{World}
use Rattle.build_plan.specs.Stages.{IsMapTree}

pub one_root : (tree : MapTree) → IsMapTree tree → HasOneRoot tree
one_root tree map = subst HasOneRoot (sym map.is) refl

included_map : (limit : ℕ) (world : World) (path : List (List ℕ)) (root : Whole) → IsMapTree (map_included (limit + 1) world path 0 root).tree
unfolding map_included
included_map limit world path root =
    let fuel : limit + 1 ≡ suc limit = omega arith in
    subst (λ n. IsMapTree (map_included n world path 0 root).tree) (sym fuel)
    (record { head = _; below = _; is = refl; kind = refl })

pub included_tree : (limit : ℕ) (world : World) (map : List ℕ) (grown : Grown) → included limit world map ≡ Ok grown
    → IsMapTree grown.tree
included_tree limit world map grown is =
    let made = included_made limit world map grown is in
    subst (λ (g : Grown). IsMapTree g.tree) made.is (included_map limit world (map ∷ []) made.root)

pub filtered_tree : (world : World) (rules : List Rule) (tree : MapTree) → IsMapTree tree
    → IsMapTree (filtered world rules tree).tree
filtered_tree world rules tree map = record {
  head = map.head;
  below = (judged world rules map.below).tree;
  is = ap (λ t. (filtered world rules t).tree) map.is;
  kind = map.kind;
}

-- a map with its branches: itself, with groups in it if it has any
map_kind : (kind : PlanKind) → is_map_node kind ≡ true → kind ≡ kinds.Map
map_kind kinds.Map same = refl
map_kind _ same = cc

map_copies : (world : World) (head : Head) (below : MapTree) (branches : List Branch) → is_map_node head.kind ≡ true
    → IsMapTree (copies world head below branches)
map_copies world head below [] is = record { head = head; below = below; is = refl; kind = map_kind head.kind is }
map_copies world head below (branch ∷ branches) is =
    let groups = all_beside (map (group_for world head below) (branch ∷ branches)) in
    let others = all_beside (map (copy_for world head below) (branch ∷ branches)) in
    subst (λ (b : Bool). IsMapTree (if b then MapNode head groups NoNodes else others)) (sym is)
    (record { head = head; below = groups; is = refl; kind = map_kind head.kind is })

copied_head : (world : World) (head : Head) (below : MapTree) → head.kind ≡ kinds.Map
    → IsMapTree (copied world (MapNode head below NoNodes))
copied_head world head below is =
    let copy = copies world (with_scope_names world head below) (copied world below) (branches_of world head below) in
    let no_ref : is_ditavalref head.kind ≡ false = ap is_ditavalref is in
    let a_map : is_map_node head.kind ≡ true = ap is_map_node is in
    subst (λ (b : Bool). IsMapTree (if b then NoNodes else trees_beside copy NoNodes)) (sym no_ref)
    (alone copy (map_copies world (with_scope_names world head below) (copied world below) (branches_of world head below) a_map))
  where
    alone : (tree : MapTree) → IsMapTree tree → IsMapTree (trees_beside tree NoNodes)
    alone tree map = record {
      head = map.head;
      below = map.below;
      is = ap (λ t. trees_beside t NoNodes) map.is;
      kind = map.kind;
    }

pub copied_tree : (world : World) (tree : MapTree) → IsMapTree tree → IsMapTree (copied world tree)
copied_tree world tree map =
    subst (λ t. IsMapTree (copied world t)) (sym map.is) (copied_head world map.head map.below map.kind)
