-- Each step of a plan gives what is defined, if the one before it did.
use Rattle.std.specs.Prelude.{◌≡◌, ◌+◌, ◌++◌, ℕ, List, [], ◌∷◌, Some, Ok, Err, map, slice_get}
use Rattle.std.specs.Result.{result_map_both}
use Rattle.std.proofs.Common.{refl, sym, ap, subst, ◌∙◌}
use Rattle.dita_doc.specs.Gives.{Gives}
use Rattle.dita_doc.specs.declared.content.Rule.{Rule}
use Rattle.dita_doc.specs.declared.fault.Fault.{Fault}
use Rattle.dita_doc.specs.declared.plan.Expanded.{Expanded}
use Rattle.dita_doc.specs.declared.plan.PlanNode.{PlanNode}
use Rattle.dita_doc.specs.declared.plan.PlanStop.{PlanStop}
use Rattle.dita_doc.specs.declared.stop.Stop.{Stop}
use Rattle.dita_doc.specs.declared.stop.Stop.TheVariants as stop
use Rattle.map_spec.specs.Branches.{branched, copied}
use Rattle.map_spec.specs.Cascade.{cascaded, whole_at}
use Rattle.map_spec.specs.Included.{expanded, included, map_node_limit}
use Rattle.map_spec.specs.Judged.{filtered}
use Rattle.map_spec.specs.MapTree.{Grown, MapNode, NoNodes, plan_nodes, with_faults}
use Rattle.map_spec.specs.PlanOf.{then_plan}
use Rattle.reader_spec.specs.World.{World}
use Rattle.plan_nodes.specs.Carried.{CarryValues}
use Rattle.plan_nodes.specs.Given.{AreTold}
use Rattle.plan_nodes.specs.Preorder.{HasParentsBefore, IsTree, shape}
use Rattle.plan_nodes.proofs.PreorderLaws.{tree_has_parents}
use Rattle.node_filter.specs.Filtered.{IsFiltered}
use Rattle.branch_copies.specs.Copied.{AreCopied}
use Rattle.build_plan.specs.Documents.{filters_of}
use Rattle.build_plan.specs.Stages.{AreMapNodes, AreNew, IsMapTree, branched_map, cascaded_map, copied_map, judged_map}
use Rattle.build_plan.proofs.FoundLaws.{Found, none_of, some_of}
use Rattle.build_plan.proofs.HomeLaws.{Fewer, fewer_copied, fewer_filtered}
use Rattle.build_plan.proofs.IncludedLaws.{HasNoFilters, IsNew, included_new}
use Rattle.build_plan.proofs.GivenLaws.{filters_may}
use Rattle.build_plan.proofs.TreeLaws.{copied_tree, filtered_tree, included_tree, one_root}
use Rattle.map_lemmas.proofs.AlikeLaws.{same_shapes}
use Rattle.map_lemmas.proofs.CarriedLaws.{alike_cascaded, cascaded_carry}
use Rattle.map_lemmas.proofs.GrownLaws.{included_made, within}
use Rattle.map_lemmas.proofs.HeadLaws.{heads_filtered, node_at}
use Rattle.readers.specs.Founded.{AreAllowed, homes}
use Rattle.readers.specs.Told.{Told}

same_made : (a b : List PlanNode) (f h : List Fault) → a ≡ b → f ≡ h
    → (let one : Expanded = record { nodes = a; faults = f } in one) ≡ record { nodes = b; faults = h }
same_made a b f h e g = rw (e, g) refl

module _ (world : World) (rules : List Rule) (name : List ℕ) where
  abbrev Judged : Grown → Expanded
  Judged grown = expanded (judged_map world rules grown)

  -- filtered
  pub filtered_gives : (made filter : Expanded) (faults : List Fault)
      → result_map_both expanded (λ e. e) (included map_node_limit world name) ≡ Ok made
      → IsFiltered world rules made.nodes filter → faults ≡ made.faults ++ filter.faults
      → result_map_both Judged (λ e. e) (included map_node_limit world name)
      ≡ Ok (record { nodes = filter.nodes; faults = faults })
  filtered_gives made filter faults given is added =
      let found = some_of expanded (included map_node_limit world name) made given in
      let tree = found.value.tree in
      let root = included_tree map_node_limit world name found.value found.is in
      let nodes : made.nodes ≡ plan_nodes tree = ap (λ (m : Expanded). m.nodes) (sym found.gives) in
      let same : filter ≡ expanded (filtered world rules tree) = is tree nodes (one_root tree root) in
      ap (result_map_both Judged (λ e. e)) found.is
      ∙ ap Ok (same_made _ _ _ _ (sym (ap (λ (m : Expanded). m.nodes) same))
      (ap (λ f. f ++ (filtered world rules tree).faults) (ap (λ (m : Expanded). m.faults) found.gives)
      ∙ ap (λ f. made.faults ++ f) (sym (ap (λ (m : Expanded). m.faults) same)) ∙ sym added))

  module _ (made : Expanded)
      (given : result_map_both Judged (λ e. e) (included map_node_limit world name) ≡ Ok made) where
    abbrev before : Found Judged (included map_node_limit world name) made
    before = some_of Judged (included map_node_limit world name) made given

    root : IsMapTree (judged_map world rules before.value).tree
    root = filtered_tree world rules before.value.tree (included_tree map_node_limit world name before.value before.is)

    step_is : copied_map world rules name ≡ branched_map world (judged_map world rules before.value)
    step_is = ap (λ x. then_plan x (λ grown. branched_map world (judged_map world rules grown))) before.is

    nodes_are : made.nodes ≡ plan_nodes (MapNode root.head root.below NoNodes)
    nodes_are = ap (λ (m : Expanded). m.nodes) (sym before.gives) ∙ ap plan_nodes root.is

    branched_is : branched map_node_limit world (judged_map world rules before.value).tree
        ≡ branched map_node_limit world (MapNode root.head root.below NoNodes)
    branched_is = ap (branched map_node_limit world) root.is

    -- and branches copied
    pub branched_gives : (copy : Expanded) (faults : List Fault) → AreCopied world made.nodes (Ok copy)
        → faults ≡ made.faults ++ copy.faults
        → result_map_both expanded (λ e. e) (copied_map world rules name)
        ≡ Ok (record { nodes = copy.nodes; faults = faults })
    branched_gives copy faults are added =
        let found = some_of expanded (branched map_node_limit world (MapNode root.head root.below NoNodes)) copy
        (are root.head root.below root.kind nodes_are) in
        let judged = judged_map world rules before.value in
        ap (result_map_both expanded (λ e. e)) (step_is
        ∙ ap (result_map_both (with_faults judged.faults) (λ e. e)) (branched_is ∙ found.is))
        ∙ ap Ok (same_made _ _ _ _ (ap (λ (m : Expanded). m.nodes) found.gives)
        (ap (λ f. f ++ found.value.faults) (ap (λ (m : Expanded). m.faults) before.gives)
        ∙ ap (λ f. made.faults ++ f) (ap (λ (m : Expanded). m.faults) found.gives) ∙ sym added))

    pub branched_stops : (end : Stop PlanStop) → AreCopied world made.nodes (Err end)
        → Gives {A = Expanded} (Err end) (result_map_both expanded (λ e. e) (copied_map world rules name))
    branched_stops (stop.Fault fault) are =
        let none = none_of expanded (branched map_node_limit world (MapNode root.head root.below NoNodes)) fault
        (are root.head root.below root.kind nodes_are) in
        let judged = judged_map world rules before.value in
        ap (result_map_both expanded (λ e. e)) (step_is
        ∙ ap (result_map_both (with_faults judged.faults) (λ e. e)) (branched_is ∙ none))
    branched_stops stop.NoMemory are = tt

  pub judged_stops : (end : Stop PlanStop)
      → Gives {A = Expanded} (Err end) (result_map_both Judged (λ e. e) (included map_node_limit world name))
      → Gives {A = Expanded} (Err end) (result_map_both expanded (λ e. e) (copied_map world rules name))
  judged_stops (stop.Fault fault) given =
      ap (λ x. result_map_both expanded (λ e. e) (then_plan x (λ grown. branched_map world (judged_map world rules grown))))
      (none_of Judged (included map_node_limit world name) fault given)
  judged_stops stop.NoMemory given = tt

  -- and cascaded
  module _ (made : Expanded) (given : result_map_both expanded (λ e. e) (copied_map world rules name) ≡ Ok made) where
    abbrev copied_before : Found expanded (copied_map world rules name) made
    copied_before = some_of expanded (copied_map world rules name) made given

    pub copied_parents : HasParentsBefore made.nodes
    copied_parents = subst HasParentsBefore (ap (λ (m : Expanded). m.nodes) copied_before.gives)
        (tree_has_parents copied_before.value.tree)

    pub cascaded_gives : (nodes : List PlanNode) → nodes ≡ cascaded world made.nodes
        → result_map_both (cascaded_map world) (λ e. e) (copied_map world rules name)
        ≡ Ok (record { nodes = nodes; faults = made.faults })
    cascaded_gives nodes are =
        ap (result_map_both (cascaded_map world) (λ e. e)) copied_before.is
        ∙ ap Ok (same_made _ _ _ _
        (ap (cascaded world) (ap (λ (m : Expanded). m.nodes) copied_before.gives) ∙ sym are)
        (ap (λ (m : Expanded). m.faults) copied_before.gives))

  pub copied_stops : (end : Stop PlanStop)
      → Gives {A = Expanded} (Err end) (result_map_both expanded (λ e. e) (copied_map world rules name))
      → Gives {A = Expanded} (Err end) (result_map_both (cascaded_map world) (λ e. e) (copied_map world rules name))
  copied_stops (stop.Fault fault) given = ap (result_map_both (cascaded_map world) (λ e. e))
      (none_of expanded (copied_map world rules name) fault given)
  copied_stops stop.NoMemory given = tt

-- The trees of these nodes, and the documents in which they stand

module _ (world : World) (rules : List Rule) (name : List ℕ) where
  module _ (made filter : Expanded) (given : result_map_both expanded (λ e. e) (included map_node_limit world name) ≡ Ok made)
      (is : IsFiltered world rules made.nodes filter) where
    abbrev expanded_before : Found expanded (included map_node_limit world name) made
    expanded_before = some_of expanded (included map_node_limit world name) made given

    expanded_root : IsMapTree expanded_before.value.tree
    expanded_root = included_tree map_node_limit world name expanded_before.value expanded_before.is

    expanded_are : made.nodes ≡ plan_nodes expanded_before.value.tree
    expanded_are = ap (λ (m : Expanded). m.nodes) (sym expanded_before.gives)

    filter_are : filter.nodes ≡ plan_nodes (filtered world rules expanded_before.value.tree).tree
    filter_are = ap (λ (m : Expanded). m.nodes)
        (is expanded_before.value.tree expanded_are (one_root expanded_before.value.tree expanded_root))

    pub filtered_nodes_are : AreMapNodes filter.nodes
    filtered_nodes_are = record {
      tree = (filtered world rules expanded_before.value.tree).tree;
      map = filtered_tree world rules expanded_before.value.tree expanded_root;
      are = filter_are;
    }

    -- none has a filter yet
    pub filtered_new : AreNew filter.nodes
    filtered_new =
        let whole = included_made map_node_limit world name expanded_before.value expanded_before.is in
        let tree = (filtered world rules expanded_before.value.tree).tree in
        let all = heads_filtered HasNoFilters world rules expanded_before.value.tree
        (subst IsNew whole.is (included_new (map_node_limit + 1) world (name ∷ []) 0 whole.root)) in
        record {
          each = λ at node there. node_at HasNoFilters (λ (own : PlanNode). own.filters ≡ []) (λ head parent end is. is)
              0 0 tree at node all (subst (λ nodes. slice_get nodes at ≡ Some node) filter_are there);
        }

    pub fewer_when_filtered : Fewer (homes filter.nodes) (homes made.nodes)
    fewer_when_filtered = subst (λ nodes. Fewer (homes nodes) (homes made.nodes)) (sym filter_are)
        (subst (λ nodes. Fewer (homes (plan_nodes (filtered world rules expanded_before.value.tree).tree)) (homes nodes))
        (sym expanded_are) (fewer_filtered world rules expanded_before.value.tree))

-- copied of the nodes of a map
module _ (world : World) (nodes : List PlanNode) (of : AreMapNodes nodes) (copy : Expanded)
    (are : AreCopied world nodes (Ok copy)) where
  alone_are : nodes ≡ plan_nodes (MapNode of.map.head of.map.below NoNodes)
  alone_are = of.are ∙ ap plan_nodes of.map.is

  abbrev copied_found : Found expanded (branched map_node_limit world (MapNode of.map.head of.map.below NoNodes)) copy
  copied_found = some_of expanded (branched map_node_limit world (MapNode of.map.head of.map.below NoNodes)) copy
      (are of.map.head of.map.below of.map.kind alone_are)

  copy_are : copy.nodes ≡ plan_nodes (copied world (MapNode of.map.head of.map.below NoNodes))
  copy_are = ap (λ (m : Expanded). m.nodes) (sym copied_found.gives)
      ∙ ap (λ (g : Grown). plan_nodes g.tree) (sym (within map_node_limit _ copied_found.value copied_found.is))

  pub copied_nodes_are : AreMapNodes copy.nodes
  copied_nodes_are = record {
    tree = copied world (MapNode of.map.head of.map.below NoNodes);
    map = copied_tree world (MapNode of.map.head of.map.below NoNodes)
        (record { head = of.map.head; below = of.map.below; is = refl; kind = of.map.kind });
    are = copy_are;
  }

  -- if none had a filter, and their elements were told, then their DITAVALs may be asked about
  pub filters_when_copied : (told : List Told) (roots : List (List ℕ)) → AreNew nodes
      → AreTold told (map (whole_at world) nodes) → AreAllowed roots told (filters_of copy.nodes)
  filters_when_copied told roots new were = subst (λ all. AreAllowed roots told (filters_of all)) (sym copy_are)
      (filters_may world told roots (MapNode of.map.head of.map.below NoNodes) (subst AreNew alone_are new)
      (subst (λ all. AreTold told (map (whole_at world) all)) alone_are were))

  pub fewer_when_copied : Fewer (homes copy.nodes) (homes nodes)
  fewer_when_copied = subst (λ all. Fewer (homes all) (homes nodes)) (sym copy_are)
      (subst (λ all. Fewer (homes (plan_nodes (copied world (MapNode of.map.head of.map.below NoNodes)))) (homes all))
      (sym alone_are) (fewer_copied world (MapNode of.map.head of.map.below NoNodes)))

-- and cascaded
module _ (world : World) (nodes made : List PlanNode) (are : made ≡ cascaded world nodes) where
  pub cascaded_stand : AreMapNodes nodes → IsTree made
  cascaded_stand of = record {
    tree = of.tree;
    one = one_root of.tree of.map;
    is = ap (map shape) are ∙ sym (same_shapes nodes (cascaded world nodes) (alike_cascaded world nodes))
        ∙ ap (map shape) of.are;
  }

  pub cascaded_values : CarryValues world made
  cascaded_values = subst (CarryValues world) (sym are) (record { each = cascaded_carry world nodes })
