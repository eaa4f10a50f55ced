-- Trees within chains of branches.
use Rattle.std.specs.Prelude.{◌≡◌, ◌||◌, Bool, true, false, List, [], ◌∷◌, None, map, if◌then◌else◌}
use Rattle.std.specs.Option.{option_map_or}
use Rattle.std.proofs.Common.{refl, ap, ◌∙◌}
use Rattle.dita_doc.specs.declared.content.Rule.{Rule}
use Rattle.dita_doc.specs.declared.plan.PlanKind.TheVariants as kinds
use Rattle.ditaval_rules.specs.Verdict.{excluded}
use Rattle.map_spec.specs.Branches.{Branch, all_beside, all_marked, copy_below, copy_for, group_for, marked, names_in_copy}
use Rattle.map_spec.specs.Judged.{declared_of, has_element, is_excluded, kept}
use Rattle.map_spec.specs.MapTree.{Head, MapNode, MapTree, NoNodes, trees_beside}
use Rattle.map_spec.specs.Written.{Whole, element_in}
use Rattle.reader_spec.specs.World.{World}
use Rattle.branch_copies.specs.Through.{excluded_by, marked_by, through}

pub through_none : (world : World) (chain : List Branch) → through world chain NoNodes ≡ NoNodes
through_none world [] = refl
through_none world (branch ∷ chain) = through_none world chain

-- marks don't change what is excluded
pub excluded_marked : (world : World) (branch : Branch) (chain : List Branch) (head : Head)
    → excluded_by world chain (marked branch head) ≡ excluded_by world chain head
excluded_marked world branch [] head = refl
excluded_marked world branch (next ∷ chain) head =
    ap (λ b. is_excluded world next.filter.rules head || b) (excluded_marked world branch chain head)

-- a node goes through if no branch of the chain excludes it
pub through_node : (world : World) (chain : List Branch) (head : Head) (below more : MapTree)
    → through world chain (MapNode head below more)
    ≡ (if excluded_by world chain head then through world chain more
    else MapNode (marked_by chain head) (through world chain below) (through world chain more))
through_node world [] head below more = refl
through_node world (branch ∷ chain) head below more =
    by_first (is_excluded world branch.filter.rules head)
    (through_node world chain (marked branch head) (all_marked branch (kept world branch.filter.rules below))
    (all_marked branch (kept world branch.filter.rules more)))
    (excluded_marked world branch chain head)
  where
    by_first : (out : Bool)
        → through world chain (MapNode (marked branch head) (all_marked branch (kept world branch.filter.rules below))
        (all_marked branch (kept world branch.filter.rules more)))
        ≡ (if excluded_by world chain (marked branch head) then through world (branch ∷ chain) more
        else MapNode (marked_by (branch ∷ chain) head) (through world (branch ∷ chain) below)
        (through world (branch ∷ chain) more))
        → excluded_by world chain (marked branch head) ≡ excluded_by world chain head
        → through world chain (all_marked branch (if out then kept world branch.filter.rules more
        else MapNode head (kept world branch.filter.rules below) (kept world branch.filter.rules more)))
        ≡ (if out || excluded_by world chain head then through world (branch ∷ chain) more
        else MapNode (marked_by (branch ∷ chain) head) (through world (branch ∷ chain) below)
        (through world (branch ∷ chain) more))
    by_first true behind same = refl
    by_first false behind same = behind
        ∙ ap (λ b. if b then through world (branch ∷ chain) more
        else MapNode (marked_by (branch ∷ chain) head) (through world (branch ∷ chain) below)
        (through world (branch ∷ chain) more)) same

-- Trees side by side

marked_beside : (branch : Branch) (first second : MapTree)
    → all_marked branch (trees_beside first second) ≡ trees_beside (all_marked branch first) (all_marked branch second)
marked_beside branch NoNodes second = refl
marked_beside branch (MapNode head below more) second =
    ap (MapNode (marked branch head) (all_marked branch below)) (marked_beside branch more second)

kept_beside : (world : World) (rules : List Rule) (first second : MapTree)
    → kept world rules (trees_beside first second) ≡ trees_beside (kept world rules first) (kept world rules second)
kept_beside world rules NoNodes second = refl
kept_beside world rules (MapNode head below more) second =
    by_one (is_excluded world rules head) (kept_beside world rules more second)
  where
    by_one : (out : Bool)
        → kept world rules (trees_beside more second) ≡ trees_beside (kept world rules more) (kept world rules second)
        → (if out then kept world rules (trees_beside more second)
        else MapNode head (kept world rules below) (kept world rules (trees_beside more second)))
        ≡ trees_beside (if out then kept world rules more
        else MapNode head (kept world rules below) (kept world rules more)) (kept world rules second)
    by_one true behind = behind
    by_one false behind = ap (MapNode head (kept world rules below)) behind

pub through_beside : (world : World) (chain : List Branch) (first second : MapTree)
    → through world chain (trees_beside first second)
    ≡ trees_beside (through world chain first) (through world chain second)
through_beside world [] first second = refl
through_beside world (branch ∷ chain) first second =
    ap (λ tree. through world chain (all_marked branch tree)) (kept_beside world branch.filter.rules first second)
    ∙ ap (through world chain)
    (marked_beside branch (kept world branch.filter.rules first) (kept world branch.filter.rules second))
    ∙ through_beside world chain (all_marked branch (kept world branch.filter.rules first))
    (all_marked branch (kept world branch.filter.rules second))

pub through_all : (world : World) (chain : List Branch) (trees : List MapTree)
    → through world chain (all_beside trees) ≡ all_beside (map (through world chain) trees)
through_all world chain [] = through_none world chain
through_all world chain (tree ∷ trees) =
    through_beside world chain tree (all_beside trees)
    ∙ ap (trees_beside (through world chain tree)) (through_all world chain trees)

-- what is below a branch's copy goes through the chain with the branch before it
pub through_below : (world : World) (chain : List Branch) (branch : Branch) (below : MapTree)
    → through world chain (copy_below world branch below) ≡ through world (branch ∷ chain) below
through_below world chain branch below = refl

-- a node with no more beside it, within a chain
pub through_alone : (world : World) (chain : List Branch) (head : Head) (below : MapTree)
    → through world chain (MapNode head below NoNodes)
    ≡ (if excluded_by world chain head then NoNodes else MapNode (marked_by chain head) (through world chain below) NoNodes)
through_alone world chain head below =
    through_node world chain head below NoNodes
    ∙ ap (λ more. if excluded_by world chain head then more
    else MapNode (marked_by chain head) (through world chain below) more) (through_none world chain)

abbrev top_of : Branch → Head → Head
top_of branch head = record (marked branch head) { scope_names = names_in_copy branch.keyscope head.scope_names }

top_excluded : (world : World) (chain : List Branch) (branch : Branch) (head : Head)
    → excluded_by world chain (top_of branch head) ≡ excluded_by world chain head
top_excluded world [] branch head = refl
top_excluded world (next ∷ chain) branch head =
    ap (λ b. is_excluded world next.filter.rules head || b) (top_excluded world chain branch head)

-- the copy of a node for a branch, within a chain
pub through_copy : (world : World) (chain : List Branch) (head : Head) (below : MapTree) (branch : Branch)
    → through world chain (copy_for world head below branch)
    ≡ (if excluded_by world (branch ∷ chain) head then NoNodes
    else MapNode (marked_by chain (record (marked branch head) {
      scope_names = names_in_copy branch.keyscope head.scope_names;
    })) (through world (branch ∷ chain) below) NoNodes)
through_copy world chain head below branch =
    by_one (is_excluded world branch.filter.rules head) (through_none world chain)
    (through_alone world chain (top_of branch head) (copy_below world branch below)) (top_excluded world chain branch head)
  where
    by_one : (out : Bool) → through world chain NoNodes ≡ NoNodes
        → through world chain (MapNode (top_of branch head) (copy_below world branch below) NoNodes)
        ≡ (if excluded_by world chain (top_of branch head) then NoNodes
        else MapNode (marked_by chain (top_of branch head)) (through world (branch ∷ chain) below) NoNodes)
        → excluded_by world chain (top_of branch head) ≡ excluded_by world chain head
        → through world chain (if out then NoNodes
        else MapNode (top_of branch head) (copy_below world branch below) NoNodes)
        ≡ (if out || excluded_by world chain head then NoNodes
        else MapNode (marked_by chain (top_of branch head)) (through world (branch ∷ chain) below) NoNodes)
    by_one true none whole same = none
    by_one false none whole same = whole
        ∙ ap (λ b. if b then NoNodes
        else MapNode (marked_by chain (top_of branch head)) (through world (branch ∷ chain) below) NoNodes) same

-- a group is never excluded
not_excluded : (world : World) (rules : List Rule) (head : Head) → head.kind ≡ kinds.Group
    → is_excluded world rules head ≡ false
not_excluded world rules head is =
    ap (λ kind. option_map_or (λ (whole : Whole). excluded rules (declared_of world head) whole.0.attributes)
    (if has_element kind then element_in world head.doc head.place else None) false) is

group_stays : (world : World) (chain : List Branch) (head : Head) → head.kind ≡ kinds.Group
    → excluded_by world chain head ≡ false
group_stays world [] head is = refl
group_stays world (branch ∷ chain) head is =
    ap (λ b. b || excluded_by world chain head) (not_excluded world branch.filter.rules head is)
    ∙ group_stays world chain head is

pub through_group : (world : World) (chain : List Branch) (head : Head) (below : MapTree) (branch : Branch)
    → through world chain (group_for world head below branch)
    ≡ MapNode (marked_by chain (record (marked branch branch.head) {
      kind = kinds.Group;
      level = head.level;
      scope_names = names_in_copy branch.keyscope [];
    })) (through world (branch ∷ chain) below) NoNodes
through_group world chain head below branch =
    let top : Head = record (marked branch branch.head) {
      kind = kinds.Group;
      level = head.level;
      scope_names = names_in_copy branch.keyscope [];
    } in
    through_alone world chain top (copy_below world branch below)
    ∙ ap (λ b. if b then NoNodes else MapNode (marked_by chain top) (through world (branch ∷ chain) below) NoNodes)
    (group_stays world chain top refl)
