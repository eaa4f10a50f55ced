-- What holds of each head of a map goes on to hold where its branches are copied, if what is put on copies keeps it.
use Rattle.std.specs.Prelude.{◌≡◌, ◌++◌, ℕ, List, [], ◌∷◌, Option, Some, None, map, option_map}
use Rattle.std.specs.List.{AllByRecursion, flat_map}
use Rattle.std.specs.Option.{option_to_list}
use Rattle.std.proofs.Common.{refl}
use Rattle.std.proofs.lemmas.Bool.{cond_both}
use Rattle.dita_doc.specs.declared.content.Rule.{Rule}
use Rattle.dita_doc.specs.declared.plan.PlanKind.TheVariants as kinds
use Rattle.map_spec.specs.Branches.{Branch, all_beside, all_marked, branch_of, branches_of, copied, copies, copy_below, copy_for, ditavalrefs, group_for, has_branches, is_ditavalref, is_map_node, marked, with_scope_names}
use Rattle.map_spec.specs.Judged.{is_excluded, kept, whole_of}
use Rattle.map_spec.specs.MapTree.{Head, MapTree, MapNode, NoNodes, trees_beside}
use Rattle.map_spec.specs.Written.{Whole}
use Rattle.map_lemmas.proofs.HeadLaws.{AllHeads, heads_beside, heads_of_each, heads_unless}
use Rattle.reader_spec.specs.World.{World}

-- if R holds of each head before, then K of each branch that is read, and P of each head of a copy
pub record IsCarried (world : World) (R P : Head → Type 0) (K : Branch → Type 0) : Type 0 where
  pub holds : (head : Head) → R head → P head
  pub reads : (head : Head) (whole : Whole) → whole_of world head ≡ Some whole → R head
      → K (branch_of world head whole)
  pub names : (head : Head) (names : List (List ℕ)) → P head → P (record head { scope_names = names })
  pub marks : (branch : Branch) (head : Head) → K branch → P head → P (marked branch head)
  pub groups : (branch : Branch) (level : ℕ) (names : List (List ℕ)) → K branch
      → P (record (marked branch branch.head) { kind = kinds.Group; level = level; scope_names = names })

module _ (world : World) (R P : Head → Type 0) (K : Branch → Type 0) (carried : IsCarried world R P K) where
  -- What stands in copies

  -- what rules leave
  heads_kept : (rules : List Rule) (tree : MapTree) → AllHeads P tree → AllHeads P (kept world rules tree)
  heads_kept rules NoNodes all = tt
  heads_kept rules (MapNode head below more) all =
      let inner = heads_kept rules below all.1 in
      let behind = heads_kept rules more all.2 in
      heads_unless P (is_excluded world rules head) (kept world rules more)
      (MapNode head (kept world rules below) (kept world rules more)) behind (λ stays. (all.0, inner, behind))

  -- with the marks of a branch
  heads_marked : (branch : Branch) (tree : MapTree) → K branch → AllHeads P tree → AllHeads P (all_marked branch tree)
  heads_marked branch NoNodes known all = tt
  heads_marked branch (MapNode head below more) known all = (
    carried.marks branch head known all.0,
    heads_marked branch below known all.1,
    heads_marked branch more known all.2,
  )

  module _ (head : Head) (below : MapTree) (here : P head) (inner : AllHeads P below) where
    -- below the top of a copy
    heads_inside : (branch : Branch) → K branch → AllHeads P (copy_below world branch below)
    heads_inside branch known = heads_marked branch (kept world branch.filter.rules below) known
        (heads_kept branch.filter.rules below inner)

    -- a copy of a node
    one_copy : (branch : Branch) → K branch → AllHeads P (copy_for world head below branch)
    one_copy branch known = heads_unless P (is_excluded world branch.filter.rules head) NoNodes _ tt (λ stays. (
      carried.names (marked branch head) _ (carried.marks branch head known here),
      heads_inside branch known,
      tt,
    ))

    -- a group under a map
    one_group : (branch : Branch) → K branch → AllHeads P (group_for world head below branch)
    one_group branch known = (carried.groups branch head.level _ known, heads_inside branch known, tt)

    -- what is made of each branch
    each_made : (made : Branch → MapTree) → ((branch : Branch) → K branch → AllHeads P (made branch))
        → (branches : List Branch) → AllByRecursion K branches → AllHeads P (all_beside (map made branches))
    each_made made one branches known = heads_of_each P made branches (each branches known)
      where
        each : (some : List Branch) → AllByRecursion K some → AllByRecursion (λ branch. AllHeads P (made branch)) some
        each [] all = tt
        each (branch ∷ some) all = (one branch all.0, each some all.1)

    -- the copies of a node, or the node itself
    heads_copies : (branches : List Branch) → AllByRecursion K branches → AllHeads P (copies world head below branches)
    heads_copies [] known = (here, inner, tt)
    heads_copies (branch ∷ branches) known = heads_unless P (is_map_node head.kind)
        (MapNode head (all_beside (map (group_for world head below) (branch ∷ branches))) NoNodes)
        (all_beside (map (copy_for world head below) (branch ∷ branches)))
        (here, each_made (group_for world head below) one_group (branch ∷ branches) known, tt)
        (λ no_map. each_made (copy_for world head below) one_copy (branch ∷ branches) known)

  -- Which branches are read

  -- by the ditavalrefs among nodes
  each_ref : (tree : MapTree) → AllHeads R tree → AllByRecursion R (ditavalrefs tree)
  each_ref NoNodes all = tt
  each_ref (MapNode head below more) all =
      let behind = each_ref more all.2 in
      cond_both (is_ditavalref head.kind) (head ∷ ditavalrefs more) (ditavalrefs more) (AllByRecursion R)
      (λ is. (all.0, behind)) (λ other. behind)

  -- that of one ditavalref, and more
  read_of : (ref : Head) (found : Option Whole) (more : List Branch) → whole_of world ref ≡ found → R ref
      → AllByRecursion K more → AllByRecursion K (option_to_list (option_map (branch_of world ref) found) ++ more)
  read_of ref None more is here behind = behind
  read_of ref (Some whole) more is here behind = (carried.reads ref whole is here, behind)

  -- those of ditavalrefs
  each_read : (refs : List Head) → AllByRecursion R refs → AllByRecursion K
      (flat_map (λ ref. option_to_list (option_map (branch_of world ref) (whole_of world ref))) refs)
  each_read [] all = tt
  each_read (ref ∷ refs) all = read_of ref (whole_of world ref) _ refl all.0 (each_read refs all.1)

  -- those on a node
  each_branch : (head : Head) (below : MapTree) → AllHeads R below → AllByRecursion K (branches_of world head below)
  each_branch head below all = cond_both (has_branches head.kind)
      (flat_map (λ ref. option_to_list (option_map (branch_of world ref) (whole_of world ref))) (ditavalrefs below)) []
      (AllByRecursion K) (λ has. each_read (ditavalrefs below) (each_ref below all)) (λ none. tt)

  -- The whole

  pub heads_copied : (tree : MapTree) → AllHeads R tree → AllHeads P (copied world tree)
  heads_copied NoNodes all = tt
  heads_copied (MapNode head below more) all =
      let named = with_scope_names world head below in
      let here = copies world named (copied world below) (branches_of world head below) in
      let behind = heads_copied more all.2 in
      heads_unless P (is_ditavalref head.kind) (copied world more) (trees_beside here (copied world more)) behind
      (λ other. heads_beside P here (copied world more)
      (heads_copies named (copied world below) (carried.names head _ (carried.holds head all.0))
      (heads_copied below all.1) (branches_of world head below) (each_branch head below all.1)) behind)
