-- A map with its branches copied: no node but its root is excluded by the rules of its filters.
use Rattle.std.specs.Prelude.{◌≡◌, ◌++◌, Bool, true, false, List, [], ◌∷◌, Option, Some, None, map, option_map, if◌then◌else◌}
use Rattle.std.specs.List.{AllByRecursion, flat_map, list_any}
use Rattle.std.specs.Option.{option_to_list}
use Rattle.std.proofs.Common.{refl, sym, ap, subst}
use Rattle.dita_doc.specs.declared.content.Rule.{Rule}
use Rattle.dita_doc.specs.declared.plan.PlanKind.TheVariants as kinds
use Rattle.reader_spec.specs.World.{World}
use Rattle.map_spec.specs.Branches.{Branch, all_beside, branch_of, branches_of, copied, copies, copy_for, ditavalrefs, group_for, has_branches, is_ditavalref, is_map_node, with_scope_names}
use Rattle.map_spec.specs.Judged.{filtered, judged, kept, whole_of}
use Rattle.map_spec.specs.MapTree.{Head, MapTree, NoNodes, MapNode, trees_beside}
use Rattle.map_spec.specs.Written.{Whole}
use Rattle.map_lemmas.proofs.HeadLaws.{AllHeads, heads_beside, heads_of_each, heads_weaker}
use Rattle.build_plan.proofs.IncludedLaws.{HasNoFilters}
use Rattle.language_laws.proofs.KeptLaws.{AreItsRules, IsKept, IsLeft, copy_kept, group_for_kept, is_excluded_in, judged_kept, kept_left, rules_of_filter}

-- The branches on a node

-- the filter of each branch has the rules of its DITAVAL
abbrev HaveTheirRules : World → List Branch → Type 0
HaveTheirRules world branches = AllByRecursion (λ (branch : Branch). AreItsRules world branch.filter) branches

-- of the branch of one ditavalref and more
branch_rules : (world : World) (ref : Head) (found : Option Whole) (more : List Branch) → HaveTheirRules world more
    → HaveTheirRules world (option_to_list (option_map (branch_of world ref) found) ++ more)
branch_rules world ref None more rest = rest
branch_rules world ref (Some whole) more rest = (rules_of_filter world whole.0, rest)

-- of those of some ditavalrefs
refs_rules : (world : World) (refs : List Head) → HaveTheirRules world
    (flat_map (λ ref. option_to_list (option_map (branch_of world ref) (whole_of world ref))) refs)
refs_rules world [] = tt
refs_rules world (ref ∷ refs) = branch_rules world ref (whole_of world ref)
    (flat_map (λ ref. option_to_list (option_map (branch_of world ref) (whole_of world ref))) refs)
    (refs_rules world refs)

-- of those that count
rules_if : (world : World) (b : Bool) (branches : List Branch) → HaveTheirRules world branches
    → HaveTheirRules world (if b then branches else [])
rules_if world true branches each = each
rules_if world false branches each = tt

-- of those on a node
branches_rules : (world : World) (head : Head) (below : MapTree) → HaveTheirRules world (branches_of world head below)
branches_rules world head below = rules_if world (has_branches head.kind)
    (flat_map (λ ref. option_to_list (option_map (branch_of world ref) (whole_of world ref))) (ditavalrefs below))
    (refs_rules world (ditavalrefs below))

-- Copies

module _ (world : World) (rules : List Rule) where
  -- each group under a map is kept
  each_group : (head : Head) (below : MapTree) → AllHeads (IsKept world rules) below → (branches : List Branch)
      → HaveTheirRules world branches
      → AllByRecursion (λ branch. AllHeads (IsKept world rules) (group_for world head below branch)) branches
  each_group head below all [] each = tt
  each_group head below all (branch ∷ branches) each =
      (group_for_kept world rules branch each.0 head below all, each_group head below all branches each.1)

  -- each copy of a node is
  each_copy : (head : Head) (below : MapTree) → IsKept world rules head → AllHeads (IsKept world rules) below
      → (branches : List Branch) → HaveTheirRules world branches
      → AllByRecursion (λ branch. AllHeads (IsKept world rules) (copy_for world head below branch)) branches
  each_copy head below is all [] each = tt
  each_copy head below is all (branch ∷ branches) each =
      (copy_kept world rules branch each.0 head below is all, each_copy head below is all branches each.1)

  -- whichever are made
  copies_by_test : (b : Bool) (head : Head) (below : MapTree) → IsKept world rules head
      → AllHeads (IsKept world rules) below → (branches : List Branch) → HaveTheirRules world branches
      → AllHeads (IsKept world rules) (if b
      then MapNode head (all_beside (map (group_for world head below) branches)) NoNodes
      else all_beside (map (copy_for world head below) branches))
  copies_by_test true head below is all branches each = (
    is,
    heads_of_each (IsKept world rules) (group_for world head below) branches (each_group head below all branches each),
    tt,
  )
  copies_by_test false head below is all branches each = heads_of_each (IsKept world rules)
      (copy_for world head below) branches (each_copy head below is all branches each)

  -- the copies of a node, or the node itself
  copies_kept : (head : Head) (below : MapTree) → IsKept world rules head → AllHeads (IsKept world rules) below
      → (branches : List Branch) → HaveTheirRules world branches
      → AllHeads (IsKept world rules) (copies world head below branches)
  copies_kept head below is all [] each = (is, all, tt)
  copies_kept head below is all (branch ∷ branches) each =
      copies_by_test (is_map_node head.kind) head below is all (branch ∷ branches) each

  -- without the ditavalrefs
  copied_by_test : (b : Bool) (tree others : MapTree) → AllHeads (IsKept world rules) tree
      → AllHeads (IsKept world rules) others
      → AllHeads (IsKept world rules) (if b then others else trees_beside tree others)
  copied_by_test true tree others first second = second
  copied_by_test false tree others first second = heads_beside (IsKept world rules) tree others first second

  -- all nodes with their branches copied
  copied_kept : (tree : MapTree) → AllHeads (IsKept world rules) tree
      → AllHeads (IsKept world rules) (copied world tree)
  copied_kept NoNodes all = tt
  copied_kept (MapNode head below more) all =
      let named = with_scope_names world head below in
      let branches = branches_of world head below in
      copied_by_test (is_ditavalref head.kind) (copies world named (copied world below) branches) (copied world more)
      (copies_kept named (copied world below)
      (record { by_rules = all.0.by_rules; by_filters = all.0.by_filters }) (copied_kept below all.1)
      branches (branches_rules world head below))
      (copied_kept more all.2)

-- A whole map

-- the tree is the node of a map, with nodes below it of which this holds
pub record IsMapTree (P : Head → Type 0) (tree : MapTree) : Type 0 where
  pub head : Head
  pub below : MapTree
  pub is : tree ≡ MapNode head below NoNodes
  pub kind : head.kind ≡ kinds.Map
  pub all : AllHeads P below

-- filtering keeps the root, and of the others those that the rules leave
filtered_kept : (world : World) (rules : List Rule) (head : Head) (below : MapTree) → head.kind ≡ kinds.Map
    → AllHeads HasNoFilters below
    → IsMapTree (IsKept world rules) (filtered world rules (MapNode head below NoNodes)).tree
filtered_kept world rules head below is all = record {
  head = head;
  below = (judged world rules below).tree;
  is = refl;
  kind = is;
  all = subst (AllHeads (IsKept world rules)) (sym (judged_kept world rules below))
      (heads_weaker (IsLeft HasNoFilters world rules) (IsKept world rules)
      (λ own left. record {
        by_rules = left.left;
        by_filters = ap (list_any (is_excluded_in world own)) left.held;
      })
      (kept world rules below) (kept_left HasNoFilters world rules below all));
}

-- the same of a tree that is a map
pub filtered_map : (world : World) (rules : List Rule) (tree : MapTree) → IsMapTree HasNoFilters tree
    → IsMapTree (IsKept world rules) (filtered world rules tree).tree
filtered_map world rules tree whole =
    subst (λ tree. IsMapTree (IsKept world rules) (filtered world rules tree).tree) (sym whole.is)
    (filtered_kept world rules whole.head whole.below whole.kind whole.all)

-- copying its branches keeps the root
root_copies : (world : World) (rules : List Rule) (head : Head) (below : MapTree) → head.kind ≡ kinds.Map
    → AllHeads (IsKept world rules) below → (branches : List Branch) → HaveTheirRules world branches
    → IsMapTree (IsKept world rules) (copies world head below branches)
root_copies world rules head below is all [] each = record {
  head = head;
  below = below;
  is = refl;
  kind = is;
  all = all;
}
root_copies world rules head below is all (branch ∷ branches) each = record {
  head = head;
  below = all_beside (map (group_for world head below) (branch ∷ branches));
  is = ap (λ kind. if is_map_node kind
      then MapNode head (all_beside (map (group_for world head below) (branch ∷ branches))) NoNodes
      else all_beside (map (copy_for world head below) (branch ∷ branches))) is;
  kind = is;
  all = heads_of_each (IsKept world rules) (group_for world head below) (branch ∷ branches)
      (each_group world rules head below all (branch ∷ branches) each);
}

-- with nothing beside it
alone : (P : Head → Type 0) (tree : MapTree) → IsMapTree P tree → IsMapTree P (trees_beside tree NoNodes)
alone P tree whole = subst (λ tree. IsMapTree P (trees_beside tree NoNodes)) (sym whole.is) (record {
  head = whole.head;
  below = whole.below;
  is = refl;
  kind = whole.kind;
  all = whole.all;
})

-- copying all branches keeps the root, and of the others those that are kept
root_copied : (world : World) (rules : List Rule) (head : Head) (below : MapTree) → head.kind ≡ kinds.Map
    → AllHeads (IsKept world rules) below
    → IsMapTree (IsKept world rules) (copied world (MapNode head below NoNodes))
root_copied world rules head below is all =
    let named = with_scope_names world head below in
    let made = copies world named (copied world below) (branches_of world head below) in
    subst (λ kind. IsMapTree (IsKept world rules)
    (if is_ditavalref kind then NoNodes else trees_beside made NoNodes)) (sym is)
    (alone (IsKept world rules) made
    (root_copies world rules named (copied world below) is (copied_kept world rules below all)
    (branches_of world head below) (branches_rules world head below)))

-- the same of a tree that is a map
pub copied_map : (world : World) (rules : List Rule) (tree : MapTree) → IsMapTree (IsKept world rules) tree
    → IsMapTree (IsKept world rules) (copied world tree)
copied_map world rules tree whole =
    subst (λ tree. IsMapTree (IsKept world rules) (copied world tree)) (sym whole.is)
    (root_copied world rules whole.head whole.below whole.kind whole.all)
