-- The walk over the nodes of a plan writes the list of its items.
use Rattle.std.specs.Prelude.{◌≡◌, ◌+◌, ◌<◌, ◌≤◌, ◌==◌, ◌&&◌, ◌++◌, ℕ, zero, suc, Bool, true, false, not, List, [], ◌∷◌, Option, Some, None, codes, drop, filter, length, map, slice_get, if◌then◌else◌}
use Rattle.std.specs.List.{flat_map}
use Rattle.std.specs.Option.{option_map_or}
use Rattle.std.proofs.Common.{refl, sym, ap, ◌∙◌, arith, append_assoc, append-nil, length-append}
use Rattle.std.proofs.lemmas.List.{length-map}
use Rattle.std.proofs.lemmas.Option.{same_Some}
use Rattle.dita_doc.specs.HtmlEscapes.{escaped}
use Rattle.dita_doc.specs.declared.plan.Plan.{Plan}
use Rattle.dita_doc.specs.declared.plan.PlanNode.{PlanNode}
use Rattle.dita_doc.proofs.Lists.{some_at}
use Rattle.map_spec.specs.MapTree.{MapTree, MapNode, NoNodes, Head, count, plan_nodes}
use Rattle.map_spec.specs.Scopes.{places, places_from}
use Rattle.html_spec.specs.Contents.{data_text, href_by, is_item, items, items_from, label_of, linked, list_text, node_items}
use Rattle.link_spec.specs.Links.{is_child, plan_target}
use Rattle.plan_nodes.specs.Preorder.{HasOneRoot, IsTree, shape}
use Rattle.reader_spec.specs.World.{World}
use Rattle.toc_page.specs.Opened.{Page, Stack, before_item, ends_all, opened, stack_of}
use Rattle.toc_page.specs.Toc.{IsStep, end_at, front_at, is_item_at, item_front, open_at, text_at}
use Rattle.toc_page.specs.declared.list.OpenItems.{OpenItems}
use Rattle.toc_page.proofs.BelowLaws.{kids, long_shapes, root_text, text_below}
use Rattle.toc_page.proofs.TreeTexts.{Shape, shapes, shapes_are, texts_alike, tree_text}
use Rattle.toc_page.proofs.WalkLaws.{items_text, less, walked, walks}

-- Places in a list

get_seam : (before after : List PlanNode) (node : PlanNode) → slice_get (before ++ node ∷ after) (length before) ≡ Some node
get_seam [] after node = refl
get_seam (first ∷ before) after node = get_seam before after node

-- The children of a node

module _ (plan : Plan) (parent : ℕ) where
  kids_from : (before after : List PlanNode) (at : ℕ) → plan.nodes ≡ before ++ after → length before ≡ at
      → filter (is_child plan parent) (places_from at after) ≡ kids parent at (map shape after)
  kids_from before [] at is long = refl
  kids_from before (node ∷ after) at is long =
      by_node (kids_from (before ++ node ∷ []) after (at + 1) (is ∙ sym (append_assoc before (node ∷ []) after)) longer)
    where
      longer : length (before ++ node ∷ []) ≡ at + 1
      longer = length-append before (node ∷ []) ∙ ap (λ n. n + 1) long

      there : slice_get plan.nodes at ≡ Some node
      there = (λ i. slice_get (is i) (sym long i)) ∙ get_seam before after node

      by_node : filter (is_child plan parent) (places_from (at + 1) after) ≡ kids parent (at + 1) (map shape after)
          → filter (is_child plan parent) (places_from at (node ∷ after)) ≡ kids parent at (map shape (node ∷ after))
      by_node behind =
          ap (λ found. if not (at == 0) && option_map_or (λ (n : PlanNode). n.parent == parent) found false
          then at ∷ filter (is_child plan parent) (places_from (at + 1) after)
          else filter (is_child plan parent) (places_from (at + 1) after)) there
          ∙ ap (λ l. if not (at == 0) && (node.parent == parent) then at ∷ l else l) behind

  kids_are : filter (is_child plan parent) (places plan.nodes) ≡ kids parent 0 (map shape plan.nodes)
  kids_are = kids_from [] plan.nodes 0 refl refl

module _ (world : World) (plan : Plan) where
  -- what each node writes, by the definition

  abbrev defined_text : ℕ → List ℕ → List ℕ
  defined_text at below = option_map_or (node_items world plan at below) (slice_get plan.nodes at) []

  items_below : (steps parent : ℕ) → items_from steps world plan parent
      ≡ text_below defined_text (map shape plan.nodes) steps parent
  unfolding items_from
  items_below zero parent = refl
  items_below (suc steps) parent =
      (λ i. flat_map (λ at. option_map_or (node_items world plan at (items_below steps at i)) (slice_get plan.nodes at) [])
      (kids_are plan parent i))

  -- the same, as the walk has it

  abbrev start_of : ℕ → PlanNode → List ℕ
  start_of at node = codes "li" ++ flat_map data_text node.cascaded ++ codes ">"
      ++ linked (href_by plan at (plan_target plan at)) (escaped (label_of world plan at node))

  abbrev start_at : ℕ → List ℕ
  start_at at = option_map_or (start_of at) (slice_get plan.nodes at) []

  abbrev pub walk : ℕ → List Shape → Stack → List ℕ
  walk at nodes stack = walked (is_item_at world plan) start_at at nodes stack

  abbrev walked_text : ℕ → List ℕ → List ℕ
  walked_text at below = items_text (is_item_at world plan) start_at at below

  front_is : (at : ℕ) (node : PlanNode) → item_front world plan at node ≡ less ∷ start_of at node
  front_is at node = refl

  same_text : (at : ℕ) (below : List ℕ) → at < length plan.nodes → defined_text at below ≡ walked_text at below
  same_text at below within = by_node (some_at plan.nodes at within)
    where
      by_node : (node : PlanNode) × (slice_get plan.nodes at ≡ Some node) → defined_text at below ≡ walked_text at below
      by_node found =
          ap (λ node. option_map_or (node_items world plan at below) node []) found.1
          ∙ sym (ap (λ node. if option_map_or (is_item world plan at) node false
          then (less ∷ option_map_or (start_of at) node []) ++ list_text below ++ codes "</li>" else below) found.1)

  -- one node more

  front_there : (at : ℕ) → is_item_at world plan at ≡ true → front_at world plan at ≡ less ∷ start_at at
  front_there at is = by_node (slice_get plan.nodes at) is
    where
      by_node : (node : Option PlanNode) → option_map_or (is_item world plan at) node false ≡ true
          → option_map_or (item_front world plan at) node [] ≡ less ∷ option_map_or (start_of at) node []
      by_node None e = cc
      by_node (Some node) e = front_is at node

  pub walk_step : (at : ℕ) (node : Shape) (nodes : List Shape) (stack : Stack)
      → walk at (node ∷ nodes) stack
      ≡ text_at (is_item_at world plan at) at stack (front_at world plan at)
      ++ walk (at + 1) nodes (open_at (is_item_at world plan at) at node.1 stack)
  walk_step at node nodes stack = by_item (is_item_at world plan at) refl
    where
      by_item : (b : Bool) → is_item_at world plan at ≡ b
          → (if b then before_item at stack ++ ((less ∷ start_at at) ++ walk (at + 1) nodes (opened at node.1 stack))
          else walk (at + 1) nodes stack)
          ≡ text_at b at stack (front_at world plan at) ++ walk (at + 1) nodes (open_at b at node.1 stack)
      by_item true e =
          ap (λ front. before_item at stack ++ (front ++ walk (at + 1) nodes (opened at node.1 stack)))
          (sym (front_there at e))
          ∙ sym (append_assoc (before_item at stack) (front_at world plan at) (walk (at + 1) nodes (opened at node.1 stack)))
      by_item false e = refl

  -- the whole

  long_nodes : (nodes : List Shape) → map shape plan.nodes ≡ nodes → length plan.nodes ≡ length nodes
  long_nodes nodes is = sym (length-map plan.nodes shape) ∙ ap length is

  no_items : map shape plan.nodes ≡ [] → items world plan ≡ []
  no_items none =
      items_below (length plan.nodes) 0
      ∙ ap (λ steps. text_below defined_text (map shape plan.nodes) steps 0) (long_nodes [] none)

  root_shapes : (head : Head) (below more : MapTree) → more ≡ NoNodes
      → map shape (plan_nodes (MapNode head below more)) ≡ (0, 0 + 1 + count below) ∷ shapes 0 1 below
  root_shapes head below more one =
      shapes_are (MapNode head below more) 0 0
      ∙ ap (λ tree. (0, 0 + 1 + count below) ∷ (shapes 0 1 below ++ shapes 0 (0 + 1 + count below) tree)) one
      ∙ ap (λ l. (0, 0 + 1 + count below) ∷ l) (append-nil (shapes 0 1 below))

  below_root : (below : MapTree) (end : ℕ) → map shape plan.nodes ≡ (0, end) ∷ shapes 0 1 below
      → items world plan ≡ tree_text walked_text 1 below
  below_root below end is =
      let long : length plan.nodes ≡ suc (count below) =
      long_nodes ((0, end) ∷ shapes 0 1 below) is ∙ ap suc (long_shapes below 0 1) in
      items_below (length plan.nodes) 0
      ∙ (λ i. text_below defined_text (is i) (long i) 0)
      ∙ root_text defined_text below end
      ∙ texts_alike defined_text walked_text (length plan.nodes) same_text below 1 (omega (arith, long))

  pub list_written : IsTree plan.nodes
      → walk 1 (drop 1 (map shape plan.nodes)) (Page false) ≡ list_text (items world plan)
  list_written tree = by_tree tree.tree tree.one tree.is
    where
      by_tree : (whole : MapTree) → HasOneRoot whole → map shape plan.nodes ≡ map shape (plan_nodes whole)
          → walk 1 (drop 1 (map shape plan.nodes)) (Page false) ≡ list_text (items world plan)
      by_tree NoNodes one is =
          ap (λ nodes. walk 1 (drop 1 nodes) (Page false)) is ∙ sym (ap list_text (no_items is))
      by_tree (MapNode head below more) one is =
          let all = is ∙ root_shapes head below more one in
          ap (λ nodes. walk 1 (drop 1 nodes) (Page false)) all
          ∙ walks (is_item_at world plan) start_at below
          ∙ sym (ap list_text (below_root below (0 + 1 + count below) all))

  -- the walk, node by node

  drop_there : (nodes : List PlanNode) (at : ℕ) (node : PlanNode) → slice_get nodes at ≡ Some node
      → drop at (map shape nodes) ≡ shape node ∷ drop (at + 1) (map shape nodes)
  drop_there [] zero node there = cc
  drop_there [] (suc at) node there = cc
  drop_there (first ∷ nodes) zero node there =
      ap (λ (n : PlanNode). shape n ∷ map shape nodes) (same_Some first node there)
  drop_there (first ∷ nodes) (suc at) node there =
      let further : suc at + 1 ≡ suc (at + 1) = omega arith in
      drop_there nodes at node there
      ∙ ap (λ n. shape node ∷ drop n (map shape (first ∷ nodes))) (sym further)

  pub walk_node : (at : ℕ) (old new : OpenItems) (before after : List ℕ) → at < length plan.nodes
      → IsStep world plan at old new before after
      → before ++ walk at (drop at (map shape plan.nodes)) (stack_of old)
      ≡ after ++ walk (at + 1) (drop (at + 1) (map shape plan.nodes)) (stack_of new)
  walk_node at old new before after within step = by_node (some_at plan.nodes at within)
    where
      by_node : (node : PlanNode) × (slice_get plan.nodes at ≡ Some node)
          → before ++ walk at (drop at (map shape plan.nodes)) (stack_of old)
          ≡ after ++ walk (at + 1) (drop (at + 1) (map shape plan.nodes)) (stack_of new)
      by_node found =
          let further = drop (at + 1) (map shape plan.nodes) in
          let is = is_item_at world plan at in
          let text = text_at is at (stack_of old) (front_at world plan at) in
          let end : end_at plan at ≡ found.0.end = ap (λ node. option_map_or (λ (n : PlanNode). n.end) node 0) found.1 in
          ap (λ nodes. before ++ walk at nodes (stack_of old)) (drop_there plan.nodes at found.0 found.1)
          ∙ ap (λ l. before ++ l) (walk_step at (shape found.0) further (stack_of old))
          ∙ sym (append_assoc before text (walk (at + 1) further (open_at is at found.0.end (stack_of old))))
          ∙ (λ i. sym step.text i ++ walk (at + 1) further (open_at is at (sym end i) (stack_of old)))
          ∙ ap (λ stack. after ++ walk (at + 1) further stack) (sym step.stack)

  drop_all : (nodes : List Shape) (at : ℕ) → length nodes ≤ at → drop at nodes ≡ []
  drop_all [] zero past = refl
  drop_all [] (suc at) past = refl
  drop_all (node ∷ nodes) zero past = absurd (omega (arith, past))
  drop_all (node ∷ nodes) (suc at) past = drop_all nodes at (omega (arith, past))

  -- all of it
  pub walk_all : (at : ℕ) (items_left : OpenItems) (before middle after : List ℕ) → IsTree plan.nodes
      → length plan.nodes ≤ at
      → before ++ walk 1 (drop 1 (map shape plan.nodes)) (Page false)
      ≡ middle ++ walk at (drop at (map shape plan.nodes)) (stack_of items_left)
      → after ≡ middle ++ ends_all (stack_of items_left)
      → after ≡ before ++ list_text (items world plan)
  walk_all at items_left before middle after tree past is ended =
      let long = length-map plan.nodes shape in
      ended
      ∙ ap (λ nodes. middle ++ walk at nodes (stack_of items_left))
      (sym (drop_all (map shape plan.nodes) at (omega (arith, past, long))))
      ∙ sym is
      ∙ ap (λ l. before ++ l) (list_written tree)
