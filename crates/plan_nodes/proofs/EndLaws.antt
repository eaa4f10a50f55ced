-- Ends that are set from the last node to the first.
use Rattle.std.specs.Prelude.{◌≡◌, ◌+◌, ◌-◌, ◌<◌, ℕ, zero, suc, Bool, true, false, List, [], ◌∷◌, ◌++◌, Some, length, map, max, nat_lt, slice_get, if◌then◌else◌}
use Rattle.std.proofs.Common.{refl, sym, ap, ◌∙◌, arith, append_assoc, get_or, length-append, ltb, set, subst}
use Rattle.std.proofs.lemmas.Bool.Decides.{nat_tests}
use Rattle.std.proofs.lemmas.List.{length-map, map-append}
use Rattle.std.proofs.lemmas.Option.{slice_get_read}
use Rattle.dita_doc.specs.declared.plan.PlanNode.{PlanNode}
use Rattle.map_spec.specs.MapTree.{Head, MapTree, MapNode, NoNodes, count, node_of, nodes_below, plan_nodes}
use Rattle.map_lemmas.proofs.TreeLaws.{length_below}
use Rattle.plan_nodes.specs.Ends.{ended, ended_before, parent_of_raised, raised}
use Rattle.plan_nodes.specs.Preorder.{HasOneRoot, without_end}

-- One end

-- it is a write
pub raised_write : (at end : ℕ) (nodes : List PlanNode) (node : PlanNode) → at < length nodes
    → set nodes at (record (get_or nodes at node) { end = max (get_or nodes at node).end end }) ≡ raised at end nodes
raised_write at end [] node within = absurd (omega arith)
raised_write zero end (first ∷ nodes) node within = refl
raised_write (suc at) end (first ∷ nodes) node within =
    ap (λ more. first ∷ more) (raised_write at end nodes node (omega arith))

-- nothing but the end is another
pub kept_raised : (at end : ℕ) (nodes : List PlanNode)
    → map without_end (raised at end nodes) ≡ map without_end nodes
kept_raised at end [] = refl
kept_raised zero end (node ∷ nodes) = refl
kept_raised (suc at) end (node ∷ nodes) = ap (λ more. without_end node ∷ more) (kept_raised at end nodes)

-- ends that are taken twice are taken once
pub cleared_twice : (nodes : List PlanNode) → map without_end (map without_end nodes) ≡ map without_end nodes
cleared_twice [] = refl
cleared_twice (node ∷ nodes) = ap (λ more. without_end node ∷ more) (cleared_twice nodes)

length_raised : (at end : ℕ) (nodes : List PlanNode) → length (raised at end nodes) ≡ length nodes
length_raised at end [] = refl
length_raised zero end (node ∷ nodes) = refl
length_raised (suc at) end (node ∷ nodes) = ap (λ some. suc some) (length_raised at end nodes)

raised_none : (at : ℕ) (nodes : List PlanNode) → raised at 0 nodes ≡ nodes
raised_none at [] = refl
raised_none zero (node ∷ nodes) =
    let same : max node.end 0 ≡ node.end = omega arith in ap (λ end. record node { end = end } ∷ nodes) same
raised_none (suc at) (node ∷ nodes) = ap (λ more. node ∷ more) (raised_none at nodes)

raised_twice : (at first second : ℕ) (nodes : List PlanNode)
    → raised at second (raised at first nodes) ≡ raised at (max first second) nodes
raised_twice at first second [] = refl
raised_twice zero first second (node ∷ nodes) =
    let same : max (max node.end first) second ≡ max node.end (max first second) = omega arith in
    ap (λ end. record node { end = end } ∷ nodes) same
raised_twice (suc at) first second (node ∷ nodes) = ap (λ more. node ∷ more) (raised_twice at first second nodes)

-- in front of others
raised_front : (at end : ℕ) (front others : List PlanNode) → at < length front
    → raised at end (front ++ others) ≡ raised at end front ++ others
raised_front at end [] others within = absurd (omega arith)
raised_front zero end (node ∷ front) others within = refl
raised_front (suc at) end (node ∷ front) others within =
    ap (λ more. node ∷ more) (raised_front at end front others (omega arith))

-- behind others
raised_behind : (at end : ℕ) (front : List PlanNode) (node : PlanNode) (others : List PlanNode) → length front ≡ at
    → raised at end (front ++ node ∷ others) ≡ front ++ record node { end = max node.end end } ∷ others
raised_behind zero end [] node others long = refl
raised_behind (suc at) end [] node others long = absurd (omega arith)
raised_behind zero end (first ∷ front) node others long = absurd (omega arith)
raised_behind (suc at) end (first ∷ front) node others long =
    ap (λ more. first ∷ more) (raised_behind at end front node others (omega arith))

get_behind : (at : ℕ) (front : List PlanNode) (node : PlanNode) (others : List PlanNode) → length front ≡ at
    → slice_get (front ++ node ∷ others) at ≡ Some node
get_behind zero [] node others long = refl
get_behind (suc at) [] node others long = absurd (omega arith)
get_behind zero (first ∷ front) node others long = absurd (omega arith)
get_behind (suc at) (first ∷ front) node others long = get_behind at front node others (omega arith)

-- The end of a node and of its parent

by_parent : (at : ℕ) (nodes : List PlanNode) (node : PlanNode) (before : Bool) → nat_lt node.parent at ≡ before
    → slice_get nodes at ≡ Some node
    → parent_of_raised at nodes ≡ (if before then raised node.parent node.end nodes else nodes)
by_parent at nodes node before e is = rw (is, e) refl

-- its parent stands before it, or not
pub ended_two : (at : ℕ) (nodes first : List PlanNode) (node : PlanNode) → first ≡ raised at (at + 1) nodes
    → at < length first → node ≡ get_or first at node → node.parent < at
    → raised node.parent node.end first ≡ ended at nodes
ended_two at nodes first node same within item before =
    let is : slice_get first at ≡ Some node = slice_get_read first (length first) at node refl within item in
    let less : ltb node.parent at ≡ true = grind (arith, nat_tests) in
    sym (ap (parent_of_raised at) (sym same) ∙ by_parent at first node true less is)

pub ended_one : (at : ℕ) (nodes first : List PlanNode) (node : PlanNode) → first ≡ raised at (at + 1) nodes
    → at < length first → node ≡ get_or first at node → at < node.parent + 1
    → first ≡ ended at nodes
ended_one at nodes first node same within item behind =
    let is : slice_get first at ≡ Some node = slice_get_read first (length first) at node refl within item in
    let less : ltb node.parent at ≡ false = grind (arith, nat_tests) in
    sym (ap (parent_of_raised at) (sym same) ∙ by_parent at first node false less is)

-- from the last of some places to the first, from the last node on
pub before_last : (at : ℕ) (nodes : List PlanNode) → 0 < at
    → ended_before at nodes ≡ ended_before (at - 1) (ended (at - 1) nodes)
before_last zero nodes some = absurd (omega arith)
before_last (suc at) nodes some =
    let same : at ≡ suc at - 1 = omega arith in ap (λ place. ended_before place (ended place nodes)) same

-- Places side by side

-- the ends of so many nodes, the first of them at this place, from the last on
abbrev pub ended_from : ℕ → ℕ → List PlanNode → List PlanNode
ended_from zero place nodes = nodes
ended_from (suc some) place nodes = ended_from some place (ended (place + some) nodes)

from_first : (some : ℕ) (nodes : List PlanNode) → ended_before some nodes ≡ ended_from some 0 nodes
from_first zero nodes = refl
from_first (suc some) nodes =
    let same : some ≡ 0 + some = omega arith in
    from_first some (ended some nodes) ∙ ap (λ place. ended_from some 0 (ended place nodes)) same

ended_parts : (first second place : ℕ) (nodes : List PlanNode)
    → ended_from (first + second) place nodes ≡ ended_from first place (ended_from second (place + first) nodes)
ended_parts first zero place nodes =
    let same : first + 0 ≡ first = omega arith in ap (λ some. ended_from some place nodes) same
ended_parts first (suc second) place nodes =
    let more : first + suc second ≡ suc (first + second) = omega arith in
    let same : place + (first + second) ≡ place + first + second = omega arith in
    ap (λ some. ended_from some place nodes) more
    ∙ ended_parts first second place (ended (place + (first + second)) nodes)
    ∙ ap (λ at. ended_from first place (ended_from second (place + first) (ended at nodes))) same

-- A tree

-- where the last of some nodes side by side ends; 0 if there is none
abbrev last_end : ℕ → MapTree → ℕ
last_end place NoNodes = 0
last_end place (MapNode head below more) = place + count (MapNode head below more)

-- the end of a node that was raised by those below it, and then by its own place
end_by : (place : ℕ) (below : MapTree)
    → max (max 0 (last_end (place + 1) below)) (place + 1) ≡ place + 1 + count below
end_by place NoNodes = omega arith
end_by place (MapNode head below more) = omega arith

-- A node, raised by its last child, and then by its own place

module _ (parent place : ℕ) (head : Head) (below : MapTree) (front : List PlanNode) (long : length front ≡ place) where
  abbrev own_end : ℕ
  own_end = place + 1 + count below

  abbrev node_without : PlanNode
  node_without = node_of head parent 0

  abbrev node_raised : PlanNode
  node_raised = node_of head parent (max 0 (last_end (place + 1) below))

  abbrev node_whole : PlanNode
  node_whole = node_of head parent own_end

  own_raised : (others : List PlanNode)
      → raised place (place + 1) (front ++ node_raised ∷ others) ≡ front ++ node_whole ∷ others
  own_raised others =
      raised_behind place (place + 1) front node_raised others long
      ∙ ap (λ end. front ++ node_of head parent end ∷ others) (end_by place below)

  -- so is its parent, if that stands before it
  abbrev with_parent : Bool → List PlanNode → List PlanNode
  with_parent before nodes = if before then raised parent own_end nodes else nodes

  own_ended : (others : List PlanNode) (before : Bool) → nat_lt parent place ≡ before
      → ended place (front ++ node_raised ∷ others) ≡ with_parent before (front ++ node_whole ∷ others)
  own_ended others before e =
      ap (parent_of_raised place) (own_raised others)
      ∙ by_parent place (front ++ node_whole ∷ others) node_whole before e
      (get_behind place front node_whole others long)

  -- the nodes below it have their ends
  abbrev InsideEnded : List PlanNode → Type 0
  InsideEnded others = ended_from (count below) (place + 1)
      ((front ++ node_without ∷ []) ++ (map without_end (nodes_below place (place + 1) below) ++ others))
      ≡ raised place (last_end (place + 1) below) (front ++ node_without ∷ [])
      ++ (nodes_below place (place + 1) below ++ others)

  abbrev inside : List PlanNode → List PlanNode
  inside others = nodes_below place (place + 1) below ++ others

  abbrev inside_without : List PlanNode → List PlanNode
  inside_without others = map without_end (nodes_below place (place + 1) below) ++ others

  inside_first : (others : List PlanNode) → InsideEnded others
      → ended_from (count below) (place + 1) (front ++ node_without ∷ inside_without others)
      ≡ front ++ node_raised ∷ inside others
  inside_first others ended_inside =
      ap (ended_from (count below) (place + 1)) (sym (append_assoc front (node_without ∷ []) (inside_without others)))
      ∙ ended_inside
      ∙ ap (λ nodes. nodes ++ inside others)
      (raised_behind place (last_end (place + 1) below) front node_without [] long)
      ∙ append_assoc front (node_raised ∷ []) (inside others)

  -- and then it has its own
  node_ended : (others : List PlanNode) (before : Bool) → nat_lt parent place ≡ before → InsideEnded others
      → ended_from (1 + count below) place (front ++ node_without ∷ inside_without others)
      ≡ with_parent before (front ++ node_whole ∷ inside others)
  node_ended others before e ended_inside =
      let here : place + 0 ≡ place = omega arith in
      ended_parts 1 (count below) place (front ++ node_without ∷ inside_without others)
      ∙ ap (ended_from 1 place) (inside_first others ended_inside)
      ∙ ap (λ at. ended at (front ++ node_raised ∷ inside others)) here ∙ own_ended (inside others) before e

-- the later of the end of a node and of those behind it
last_of : (end : ℕ) (more : MapTree) → max (last_end end more) end ≡ end + count more
last_of end NoNodes = omega arith
last_of end (MapNode head below more) = omega arith

-- Nodes side by side, and all below them

module _ (parent place : ℕ) (head : Head) (below more : MapTree) (front back : List PlanNode)
    (long : length front ≡ place) (before : parent < place) where
  abbrev inner : List PlanNode
  inner = nodes_below place (place + 1) below

  abbrev outer_end : ℕ
  outer_end = place + 1 + count below

  abbrev outer : List PlanNode
  outer = nodes_below parent outer_end more

  abbrev open_node : PlanNode
  open_node = node_of head parent 0

  abbrev front_raised : List PlanNode
  front_raised = raised parent (last_end outer_end more) front

  -- what stands before those beside the node
  abbrev front_more : List PlanNode
  front_more = front ++ open_node ∷ map without_end inner

  long_more : length front_more ≡ outer_end
  long_more =
      let both = length-append front (open_node ∷ map without_end inner) in
      let same = length-map inner without_end in
      let some = length_below place (place + 1) below in
      omega arith

  long_raised : length front_raised ≡ place
  long_raised = length_raised parent (last_end outer_end more) front ∙ long

  grouped : front ++ ((open_node ∷ map without_end (inner ++ outer)) ++ back)
      ≡ front_more ++ (map without_end outer ++ back)
  grouped =
      ap (λ nodes. front ++ open_node ∷ (nodes ++ back)) (map-append without_end inner outer)
      ∙ ap (λ nodes. front ++ open_node ∷ nodes) (append_assoc (map without_end inner) (map without_end outer) back)
      ∙ sym (append_assoc front (open_node ∷ map without_end inner) (map without_end outer ++ back))

  beside_first : ended_from (count more) outer_end (front_more ++ (map without_end outer ++ back))
      ≡ raised parent (last_end outer_end more) front_more ++ (outer ++ back)
      → ended_from (count more) outer_end (front_more ++ (map without_end outer ++ back))
      ≡ front_raised ++ open_node ∷ (map without_end inner ++ (outer ++ back))
  beside_first ended_beside =
      ended_beside
      ∙ ap (λ nodes. nodes ++ (outer ++ back))
      (raised_front parent (last_end outer_end more) front (open_node ∷ map without_end inner) (omega arith))
      ∙ append_assoc front_raised (open_node ∷ map without_end inner) (outer ++ back)

  front_twice : raised parent outer_end front_raised ≡ raised parent (place + (1 + (count below + count more))) front
  front_twice =
      let last : max (last_end outer_end more) outer_end ≡ place + (1 + (count below + count more)) =
      omega (arith, last_of outer_end more) in
      raised_twice parent (last_end outer_end more) outer_end front ∙ ap (λ end. raised parent end front) last

  side_by_side : ended_from (count more) outer_end (front_more ++ (map without_end outer ++ back))
      ≡ raised parent (last_end outer_end more) front_more ++ (outer ++ back)
      → InsideEnded parent place head below front_raised long_raised (outer ++ back)
      → ended_from (1 + (count below + count more)) place
      (front ++ ((open_node ∷ map without_end (inner ++ outer)) ++ back))
      ≡ raised parent (place + (1 + (count below + count more))) front
      ++ ((node_of head parent outer_end ∷ (inner ++ outer)) ++ back)
  side_by_side ended_beside ended_inside =
      let end = place + (1 + (count below + count more)) in
      let inside = inner ++ (outer ++ back) in
      let some : 1 + (count below + count more) ≡ 1 + count below + count more = omega arith in
      let there : place + (1 + count below) ≡ outer_end = omega arith in
      let less : ltb parent place ≡ true = grind (arith, nat_tests) in
      ap (ended_from (1 + (count below + count more)) place) grouped
      ∙ ap (λ some. ended_from some place (front_more ++ (map without_end outer ++ back))) some
      ∙ ended_parts (1 + count below) (count more) place (front_more ++ (map without_end outer ++ back))
      ∙ ap (λ at. ended_from (1 + count below) place
      (ended_from (count more) at (front_more ++ (map without_end outer ++ back)))) there
      ∙ ap (ended_from (1 + count below) place) (beside_first ended_beside)
      ∙ node_ended parent place head below front_raised long_raised (outer ++ back) true less ended_inside
      ∙ raised_front parent outer_end front_raised (node_of head parent outer_end ∷ inside)
      (omega (arith, long_raised))
      ∙ ap (λ nodes. nodes ++ node_of head parent outer_end ∷ inside) front_twice
      ∙ ap (λ nodes. raised parent end front ++ node_of head parent outer_end ∷ nodes)
      (sym (append_assoc inner outer back))

below_ended : (tree : MapTree) (parent place : ℕ) (front back : List PlanNode) → length front ≡ place → parent < place
    → ended_from (count tree) place (front ++ (map without_end (nodes_below parent place tree) ++ back))
    ≡ raised parent (last_end place tree) front ++ (nodes_below parent place tree ++ back)
below_ended NoNodes parent place front back long before = ap (λ nodes. nodes ++ back) (sym (raised_none parent front))
below_ended (MapNode head below more) parent place front back long before =
    let raised_first = long_raised parent place head below more front back long before in
    let open_front = raised parent (last_end (place + 1 + count below) more) front in
    let outer = nodes_below parent (place + 1 + count below) more in
    side_by_side parent place head below more front back long before
    (below_ended more parent (place + 1 + count below)
    (front ++ node_of head parent 0 ∷ map without_end (nodes_below place (place + 1) below)) back
    (long_more parent place head below more front back long before) (omega arith))
    (below_ended below place (place + 1) (open_front ++ node_of head parent 0 ∷ []) (outer ++ back)
    (omega (arith, length-append open_front (node_of head parent 0 ∷ []), raised_first)) (omega arith))

-- a whole map
root_ended : (head : Head) (below : MapTree)
    → ended_from (1 + (count below + 0)) 0 (map without_end (plan_nodes (MapNode head below NoNodes)))
    ≡ plan_nodes (MapNode head below NoNodes)
root_ended head below =
    let some : 1 + (count below + 0) ≡ 1 + count below = omega arith in
    let nodes = nodes_below 0 1 below in
    ap (λ inner. ended_from (1 + (count below + 0)) 0 (node_of head 0 0 ∷ inner)) (map-append without_end nodes [])
    ∙ ap (λ some. ended_from some 0 (node_of head 0 0 ∷ (map without_end nodes ++ []))) some
    ∙ node_ended 0 0 head below [] refl [] false refl
    (below_ended below 0 1 (node_of head 0 0 ∷ []) [] refl (omega arith))

tree_ended : (tree : MapTree) → HasOneRoot tree
    → ended_from (count tree) 0 (map without_end (plan_nodes tree)) ≡ plan_nodes tree
tree_ended NoNodes one = refl
tree_ended (MapNode head below more) one =
    let AreEnded : MapTree → Type 0 = λ more. ended_from (count (MapNode head below more)) 0
    (map without_end (plan_nodes (MapNode head below more))) ≡ plan_nodes (MapNode head below more) in
    subst AreEnded (sym one) (root_ended head below)

-- nodes that are those of a tree but for their ends get its ends
pub ends_of_tree : (nodes : List PlanNode) (tree : MapTree) → HasOneRoot tree
    → map without_end nodes ≡ map without_end (plan_nodes tree)
    → ended_before (length nodes) (map without_end nodes) ≡ plan_nodes tree
ends_of_tree nodes tree one same =
    let long : length nodes ≡ count tree =
    sym (length-map nodes without_end) ∙ ap length same ∙ length-map (plan_nodes tree) without_end
    ∙ length_below 0 0 tree in
    ap (λ some. ended_before some (map without_end nodes)) long ∙ ap (ended_before (count tree)) same
    ∙ from_first (count tree) (map without_end (plan_nodes tree)) ∙ tree_ended tree one
