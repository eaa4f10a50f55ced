-- What the first of some nodes makes within the branches around it.
use Rattle.std.specs.Prelude.{◌≡◌, ◌||◌, Bool, true, false, List, [], ◌∷◌, map, if◌then◌else◌}
use Rattle.std.proofs.Common.{refl, ap, ◌∙◌}
use Rattle.map_spec.specs.Branches.{Branch, all_beside, branches_of, copied, copies, copy_for, group_for, is_ditavalref, is_map_node, marked, names_in_copy, with_scope_names}
use Rattle.map_spec.specs.Judged.{is_excluded}
use Rattle.map_spec.specs.MapTree.{Head, MapTree, NoNodes, MapNode, trees_beside}
use Rattle.dita_doc.specs.declared.plan.PlanKind.TheVariants as kinds
use Rattle.dita_doc.proofs.Tests.{or_true}
use Rattle.reader_spec.specs.World.{World}
use Rattle.branch_copies.specs.Leaves.{copies_of, copy_of}
use Rattle.branch_copies.specs.Through.{excluded_by, marked_by, through}
use Rattle.branch_copies.proofs.ThroughLaws.{through_alone, through_beside, through_copy, through_group, through_none}

module _ (world : World) (head : Head) (below more : MapTree) where
  abbrev first : MapTree
  first = copies world (with_scope_names world head below) (copied world below) (branches_of world head below)

  pub copied_node : is_ditavalref head.kind ≡ false
      → copied world (MapNode head below more) ≡ trees_beside first (copied world more)
  copied_node other = ap (λ b. if b then copied world more else trees_beside first (copied world more)) other

  pub copied_ref : is_ditavalref head.kind ≡ true → copied world (MapNode head below more) ≡ copied world more
  copied_ref ref = ap (λ b. if b then copied world more else trees_beside first (copied world more)) ref

excluded_named : (world : World) (head : Head) (below : MapTree) (chain : List Branch)
    → excluded_by world chain (with_scope_names world head below) ≡ excluded_by world chain head
excluded_named world head below [] = refl
excluded_named world head below (branch ∷ chain) =
    ap (λ b. is_excluded world branch.filter.rules head || b) (excluded_named world head below chain)

module _ (world : World) (chain : List Branch) (head : Head) (below : MapTree) where
  abbrev named : Head
  named = with_scope_names world head below

  -- a node with these below it goes through, if no branch excludes it
  alone : (inside : MapTree) (out : Bool) → excluded_by world chain head ≡ out
      → through world chain (MapNode named inside NoNodes)
      ≡ (if out then NoNodes else MapNode (marked_by chain named) (through world chain inside) NoNodes)
  alone inside out is =
      through_alone world chain named inside
      ∙ ap (λ b. if b then NoNodes else MapNode (marked_by chain named) (through world chain inside) NoNodes)
      (excluded_named world head below chain ∙ is)

  pub first_whole : (branches : List Branch) → branches ≡ [] → excluded_by world chain head ≡ false
      → through world chain (copies world named (copied world below) branches)
      ≡ MapNode (marked_by chain named) (through world chain (copied world below)) NoNodes
  first_whole branches none stays =
      ap (λ all. through world chain (copies world named (copied world below) all)) none
      ∙ alone (copied world below) false stays

  some_copies : (branch : Branch) (branches : List Branch)
      → copies world named (copied world below) (branch ∷ branches)
      ≡ (if is_map_node head.kind then MapNode named (copies_of world head below (branch ∷ branches)) NoNodes
      else copies_of world head below (branch ∷ branches))
  some_copies branch branches = by_kind (is_map_node head.kind)
    where
      by_kind : (is_map : Bool)
          → (if is_map
          then MapNode named (all_beside (map (group_for world named (copied world below)) (branch ∷ branches))) NoNodes
          else all_beside (map (copy_for world named (copied world below)) (branch ∷ branches)))
          ≡ (if is_map
          then MapNode named (all_beside (map (λ (one : Branch). if is_map then group_for world named
          (copied world below) one
          else copy_for world named (copied world below) one) (branch ∷ branches))) NoNodes
          else all_beside (map (λ (one : Branch). if is_map then group_for world named (copied world below) one
          else copy_for world named (copied world below) one) (branch ∷ branches)))
      by_kind true = refl
      by_kind false = refl

  pub first_map : (branch : Branch) (branches : List Branch) → is_map_node head.kind ≡ true
      → excluded_by world chain head ≡ false
      → through world chain (copies world named (copied world below) (branch ∷ branches))
      ≡ MapNode (marked_by chain named) (through world chain (copies_of world head below (branch ∷ branches))) NoNodes
  first_map branch branches is stays =
      ap (through world chain) (some_copies branch branches)
      ∙ ap (λ b. through world chain (if b then MapNode named (copies_of world head below (branch ∷ branches)) NoNodes
      else copies_of world head below (branch ∷ branches))) is
      ∙ alone (copies_of world head below (branch ∷ branches)) false stays

  pub first_copies : (branch : Branch) (branches : List Branch) → is_map_node head.kind ≡ false
      → through world chain (copies world named (copied world below) (branch ∷ branches))
      ≡ through world chain (copies_of world head below (branch ∷ branches))
  first_copies branch branches is =
      ap (through world chain) (some_copies branch branches)
      ∙ ap (λ b. through world chain (if b then MapNode named (copies_of world head below (branch ∷ branches)) NoNodes
      else copies_of world head below (branch ∷ branches))) is

  -- a branch around it excludes it
  copy_excluded : (branch : Branch) → excluded_by world chain head ≡ true
      → through world chain (copy_for world named (copied world below) branch) ≡ NoNodes
  copy_excluded branch out =
      through_copy world chain named (copied world below) branch
      ∙ ap (λ b. if is_excluded world branch.filter.rules head || b then NoNodes
      else MapNode (marked_by chain (record (marked branch named) {
        scope_names = names_in_copy branch.keyscope named.scope_names;
      })) (through world (branch ∷ chain) (copied world below)) NoNodes) (excluded_named world head below chain ∙ out)
      ∙ ap (λ b. if b then NoNodes
      else MapNode (marked_by chain (record (marked branch named) {
        scope_names = names_in_copy branch.keyscope named.scope_names;
      })) (through world (branch ∷ chain) (copied world below)) NoNodes)
      (or_true (is_excluded world branch.filter.rules head))

  all_excluded : (branches : List Branch) → excluded_by world chain head ≡ true
      → through world chain (all_beside (map (copy_for world named (copied world below)) branches)) ≡ NoNodes
  all_excluded [] out = through_none world chain
  all_excluded (branch ∷ branches) out =
      through_beside world chain (copy_for world named (copied world below) branch)
      (all_beside (map (copy_for world named (copied world below)) branches))
      ∙ ap (λ tree. trees_beside tree (through world chain
      (all_beside (map (copy_for world named (copied world below)) branches)))) (copy_excluded branch out)
      ∙ all_excluded branches out

  pub first_excluded : (branches : List Branch) → excluded_by world chain head ≡ true
      → through world chain (copies world named (copied world below) branches) ≡ NoNodes
  first_excluded [] out = alone (copied world below) true out
  first_excluded (branch ∷ branches) out =
      by_kind (is_map_node head.kind)
    where
      by_kind : (is_map : Bool) → through world chain (if is_map
          then MapNode named (all_beside (map (group_for world named (copied world below)) (branch ∷ branches))) NoNodes
          else all_beside (map (copy_for world named (copied world below)) (branch ∷ branches))) ≡ NoNodes
      by_kind true = alone (all_beside (map (group_for world named (copied world below)) (branch ∷ branches))) true out
      by_kind false = all_excluded (branch ∷ branches) out

  -- the copy for a branch, which does not exclude it
  pub top_copy : (branch : Branch) → is_map_node head.kind ≡ false → excluded_by world (branch ∷ chain) head ≡ false
      → through world chain (copy_of world named (copied world below) branch)
      ≡ MapNode (marked_by (branch ∷ chain)
      (record head { scope_names = names_in_copy branch.keyscope named.scope_names }))
      (through world (branch ∷ chain) (copied world below)) NoNodes
  top_copy branch is stays =
      ap (λ b. through world chain (if b then group_for world named (copied world below) branch
      else copy_for world named (copied world below) branch)) is
      ∙ through_copy world chain named (copied world below) branch
      ∙ ap (λ b. if b then NoNodes
      else MapNode (marked_by chain (record (marked branch named) {
        scope_names = names_in_copy branch.keyscope named.scope_names;
      })) (through world (branch ∷ chain) (copied world below)) NoNodes)
      (excluded_named world head below (branch ∷ chain) ∙ stays)

  pub top_out : (branch : Branch) → is_map_node head.kind ≡ false → excluded_by world (branch ∷ chain) head ≡ true
      → through world chain (copy_of world named (copied world below) branch) ≡ NoNodes
  top_out branch is out =
      ap (λ b. through world chain (if b then group_for world named (copied world below) branch
      else copy_for world named (copied world below) branch)) is
      ∙ through_copy world chain named (copied world below) branch
      ∙ ap (λ b. if b then NoNodes
      else MapNode (marked_by chain (record (marked branch named) {
        scope_names = names_in_copy branch.keyscope named.scope_names;
      })) (through world (branch ∷ chain) (copied world below)) NoNodes)
      (excluded_named world head below (branch ∷ chain) ∙ out)

  -- or the group, which no branch excludes
  pub top_group : (branch : Branch) → is_map_node head.kind ≡ true
      → through world chain (copy_of world named (copied world below) branch)
      ≡ MapNode (marked_by (branch ∷ chain) (record branch.head {
        kind = kinds.Group;
        level = head.level;
        scope_names = names_in_copy branch.keyscope [];
      })) (through world (branch ∷ chain) (copied world below)) NoNodes
  top_group branch is =
      ap (λ b. through world chain (if b then group_for world named (copied world below) branch
      else copy_for world named (copied world below) branch)) is
      ∙ through_group world chain named (copied world below) branch
