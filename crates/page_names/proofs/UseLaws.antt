-- What the nodes so far lead to and use, and one node more.
use Rattle.std.specs.Prelude.{◌≡◌, ◌+◌, ◌-◌, ◌<◌, ◌&&◌, ◌++◌, ℕ, zero, suc, Bool, true, false, List, [], ◌∷◌, Option, Some, None, OnOk, Result, length, map, option_map, slice_get, take, unwrap_or, if◌then◌else◌}
use Rattle.std.specs.List.{filter_map, flat_map}
use Rattle.std.specs.Option.{option_and_then, option_map_or, option_to_list}
use Rattle.std.proofs.Common.{refl, sym, ap, subst, ◌∙◌, arith, append-nil, append_assoc}
use Rattle.std.proofs.lemmas.Grind.{flat_map-append}
use Rattle.std.proofs.lemmas.List.{map-append, take_all}
use Rattle.std.proofs.lemmas.List.Elements.{filter_map-append}
use Rattle.std.proofs.lemmas.Option.{slice_get-map, slice_get_within}
use Rattle.dita_doc.specs.declared.plan.PlanNode.{PlanNode}
use Rattle.dita_doc.specs.declared.plan.Target.{Target}
use Rattle.dita_doc.specs.declared.stop.NoMemory.{NoMemory}
use Rattle.map_spec.specs.Branches.{each_once}
use Rattle.map_spec.specs.Pages as pages_spec
use Rattle.map_spec.specs.Pages.{aim_of, aim_at, fault_of_kind, fault_of_use, faults_at, first_uses, ignored_at, is_normal, is_page_kind, local_name, use_at, use_of, used_at, with_more}
use Rattle.map_spec.specs.Scopes.{places, scope_at}
use Rattle.map_spec.specs.Titles.{kind_in}
use Rattle.plan_nodes.specs.Preorder.{is_in_table_at, tables_around}
use Rattle.reader_spec.specs.World.{World}
use Rattle.page_names.specs.Aims.{Carries, IsAim}
use Rattle.page_names.specs.PageUses.{AreFirst, use_by, with_use}
use Rattle.dita_doc.specs.declared.question.DocKind.{DocKind}
use Rattle.dita_doc.proofs.Lists.{one_found}
use Rattle.map_lemmas.proofs.ListedLaws.{count_places, place_there, places_more}
use Rattle.page_names.specs.Used.{AreUsed, IsKindOf, with_names}
use Rattle.page_names.specs.Uses.{AreReady, AreUses, IsAdded, faults_of, target_at, told_at, use_made, with_uses}
use Rattle.page_names.specs.declared.uses.Uses.{Uses}
use Rattle.page_names.proofs.OnceLaws.{once_push, uses_push}

-- Places

pub all_places : (nodes : List PlanNode) → take (length nodes) (places nodes) ≡ places nodes
all_places nodes = take_all (length nodes) (places nodes) (omega (arith, count_places nodes 0))

-- whether a node stands in a table, as the list for all nodes tells it
pub told_there : (nodes : List PlanNode) (at : ℕ) (inside items : List Bool) (is_in : Bool) → at < length nodes
    → items ≡ tables_around nodes → inside ≡ items → is_in ≡ told_at inside at → is_in ≡ is_in_table_at nodes at
told_there nodes at inside items is_in below are same told =
    told ∙ ap (λ all. told_at all at) (same ∙ are)
    ∙ ap (λ found. unwrap_or found false) (slice_get-map (is_in_table_at nodes) (places nodes) at
    ∙ ap (option_map (is_in_table_at nodes)) (place_there nodes 0 at below ∙ ap Some (omega arith)))

-- Lists with one more

names_more : (names : List (List ℕ)) (used : Option (List ℕ))
    → each_once (names ++ option_to_list used) ≡ with_names (each_once names) used
names_more names None = ap each_once (append-nil names)
names_more names (Some name) = once_push names name

uses_more : (uses : List pages_spec.Use) (page : Option pages_spec.Use)
    → first_uses (uses ++ option_to_list page) ≡ with_uses (first_uses uses) page
uses_more uses None = ap first_uses (append-nil uses)
uses_more uses (Some page) = uses_push uses page

-- A node's use

pub carried : (known : List PlanNode) (world : World) (nodes : List PlanNode) (at : ℕ) (node : PlanNode)
    → AreReady known world nodes → slice_get nodes at ≡ Some node → Carries world nodes at node
carried known world nodes at node ready there =
    record { values = ready.values.each at node there; scope = ready.scopes.each at node there }

aim_there : (world : World) (nodes : List PlanNode) (at : ℕ) (node : PlanNode) → slice_get nodes at ≡ Some node
    → aim_at world nodes at ≡ aim_of world nodes at node
aim_there world nodes at node there =
    ap (λ found. option_map_or (aim_of world nodes at) found pages_spec.no_aim) there

used_there : (world : World) (nodes : List PlanNode) (at : ℕ) (node : PlanNode) (target : Target) (is_in : Bool)
    (used : Option (List ℕ)) → slice_get nodes at ≡ Some node → is_in ≡ is_in_table_at nodes at
    → target ≡ (aim_of world nodes at node).target → used ≡ (if is_in then None else local_name target)
    → used ≡ used_at world nodes at
used_there world nodes at node target is_in used there inside leads is =
    is ∙ ap (λ b. if b then None else local_name target) inside
    ∙ ap (λ t. if is_in_table_at nodes at then None else local_name t)
    (leads ∙ sym (ap (λ (aim : pages_spec.Aim). aim.target) (aim_there world nodes at node there)))

made_there : (world : World) (nodes : List PlanNode) (at : ℕ) (node : PlanNode) → slice_get nodes at ≡ Some node
    → node.scope ≡ scope_at nodes at → use_made world nodes at node (used_at world nodes at) ≡ use_at world nodes at
made_there world nodes at node there scope = by_used (used_at world nodes at)
  where
    same : (name : List ℕ) → Some (use_by at name node) ≡ option_map (use_of nodes at name) (slice_get nodes at)
    same name = rw there (rw scope refl)

    by_test : (name : List ℕ) (test : Bool)
        → (if test then Some (use_by at name node) else None)
        ≡ option_and_then (λ n. option_map (use_of nodes at n) (slice_get nodes at))
        (if test then Some name else None)
    by_test name true = same name
    by_test name false = refl

    by_used : (used : Option (List ℕ)) → use_made world nodes at node used
        ≡ option_and_then (λ n. option_map (use_of nodes at n) (slice_get nodes at))
        (option_and_then (λ name. if is_page_kind (kind_in world name)
        && is_normal world nodes at then Some name else None) used)
    by_used None = refl
    by_used (Some name) = by_test name (is_page_kind (kind_in world name) && is_normal world nodes at)

-- one more node
pub node_added : (world : World) (nodes : List PlanNode) (at : ℕ) (node : PlanNode) (target : Target) (is_in : Bool)
    (used : Option (List ℕ)) (old middle added new : Uses) → slice_get nodes at ≡ Some node
    → Carries world nodes at node → is_in ≡ is_in_table_at nodes at → AreUses world nodes at old
    → IsAim (with_more (ignored_at world node) (aim_of world nodes at node)) target old.faults middle.faults
    → middle.targets ≡ old.targets
    → used ≡ (if is_in then None else local_name target)
    → IsAdded world nodes at node (each_once (filter_map (used_at world nodes) (take at (places nodes))))
    (first_uses (filter_map (use_at world nodes) (take at (places nodes)))) used middle added
    → new.targets ≡ added.targets ++ target ∷ [] → new.documents ≡ added.documents → new.pages ≡ added.pages
    → new.faults ≡ added.faults → AreUses world nodes (at + 1) new
node_added world nodes at node target is_in used old middle added new there carries inside before aim kept is_used adds
    targets_new documents_new pages_new faults_new =
    let so_far = take at (places nodes) in
    let more : take (at + 1) (places nodes) ≡ so_far ++ at ∷ [] = places_more nodes at
    (slice_get_within nodes at node there) in
    let use_is : used ≡ used_at world nodes at =
    used_there world nodes at node target is_in used there inside aim.leads is_used in
    let names_are : with_names (each_once (filter_map (used_at world nodes) so_far)) used
    ≡ each_once (filter_map (used_at world nodes) (take (at + 1) (places nodes))) =
    sym (names_more (filter_map (used_at world nodes) so_far) used)
    ∙ ap (λ n. each_once (filter_map (used_at world nodes) so_far ++ n))
    (sym (one_found (used_at world nodes) at used (sym use_is)))
    ∙ ap each_once (sym (filter_map-append (used_at world nodes) so_far (at ∷ [])))
    ∙ ap (λ all. each_once (filter_map (used_at world nodes) all)) (sym more) in
    let page : use_at world nodes at ≡ use_made world nodes at node used =
    sym (ap (use_made world nodes at node) use_is ∙ made_there world nodes at node there carries.scope) in
    let uses_are : with_uses (first_uses (filter_map (use_at world nodes) so_far)) (use_made world nodes at node used)
    ≡ first_uses (filter_map (use_at world nodes) (take (at + 1) (places nodes))) =
    sym (uses_more (filter_map (use_at world nodes) so_far) (use_made world nodes at node used))
    ∙ ap (λ n. first_uses (filter_map (use_at world nodes) so_far ++ n))
    (sym (one_found (use_at world nodes) at (use_made world nodes at node used) page))
    ∙ ap first_uses (sym (filter_map-append (use_at world nodes) so_far (at ∷ [])))
    ∙ ap (λ all. first_uses (filter_map (use_at world nodes) all)) (sym more) in
    let here : faults_of world nodes at ≡ faults_at world nodes at node =
    ap (λ found. option_map_or (faults_at world nodes at) found []) there in
    record {
      targets =
          targets_new ∙ ap (λ ts. ts ++ target ∷ []) (adds.targets ∙ kept ∙ before.targets)
          ∙ ap (λ t. map (target_at world nodes) so_far ++ t ∷ [])
          (aim.leads ∙ sym (ap (λ (a : pages_spec.Aim). a.target) (aim_there world nodes at node there)))
          ∙ sym (map-append (target_at world nodes) so_far (at ∷ []))
          ∙ ap (map (target_at world nodes)) (sym more);
      documents = subst (AreUsed world (each_once (filter_map (used_at world nodes) (take (at + 1) (places nodes)))))
          (sym documents_new) (subst (λ names. AreUsed world names added.documents) names_are adds.documents);
      pages = subst (AreFirst (first_uses (filter_map (use_at world nodes) (take (at + 1) (places nodes)))))
          (sym pages_new) (subst (λ uses. AreFirst uses added.pages) uses_are adds.pages);
      faults =
          faults_new ∙ adds.faults ∙ ap (λ fs. fs ++ fault_of_use world node used) (aim.faults
          ∙ ap (λ fs. fs ++ (ignored_at world node ++ (aim_of world nodes at node).faults)) before.faults)
          ∙ append_assoc _ (ignored_at world node ++ (aim_of world nodes at node).faults) (fault_of_use world node used)
          ∙ ap (λ fs. flat_map (faults_of world nodes) so_far ++ fs)
          (ap (λ u. (ignored_at world node ++ (aim_of world nodes at node).faults) ++ fault_of_use world node u) use_is
          ∙ sym here ∙ sym (append-nil (faults_of world nodes at)))
          ∙ sym (flat_map-append (faults_of world nodes) so_far (at ∷ []))
          ∙ ap (flat_map (faults_of world nodes)) (sym more);
    }

pub no_uses : (world : World) (nodes : List PlanNode) (uses : Uses) → AreFirst [] uses.pages → uses.targets ≡ []
    → AreUsed world [] uses.documents → uses.faults ≡ [] → AreUses world nodes 0 uses
no_uses world nodes uses pages targets documents faults =
    record { targets = targets; documents = documents; pages = pages; faults = faults }

-- A use was added

pub added : (world : World) (nodes : List PlanNode) (at : ℕ) (node : PlanNode) (names : List (List ℕ))
    (uses : List pages_spec.Use) (found : Option (List ℕ)) (name : List ℕ) (kind : DocKind) (test : Bool)
    (old new : Uses)
    → found ≡ Some name → IsKindOf world names name kind new.documents → new.targets ≡ old.targets
    → new.faults ≡ old.faults ++ fault_of_kind node name kind
    → (is_page_kind kind && is_normal world nodes at) ≡ test
    → AreFirst (if test then with_use uses (use_by at name node) else uses) new.pages
    → IsAdded world nodes at node names uses found old new
added world nodes at node names uses found name kind test old new some known kept met tested first = record {
  targets = kept;
  documents = subst (λ f. AreUsed world (with_names names f) new.documents) (sym some) known.used;
  pages = subst (λ f. AreFirst (with_uses uses (use_made world nodes at node f)) new.pages) (sym some)
      (subst (λ us. AreFirst us new.pages) (by_test test
      (ap (λ k. is_page_kind k && is_normal world nodes at) (sym known.is) ∙ tested)) first);
  faults =
      met ∙ ap (λ k. old.faults ++ fault_of_kind node name k) known.is
      ∙ ap (λ f. old.faults ++ fault_of_use world node f) (sym some);
}
  where
    by_test : (test : Bool) → (is_page_kind (kind_in world name) && is_normal world nodes at) ≡ test
        → (if test then with_use uses (use_by at name node) else uses)
        ≡ with_uses uses (use_made world nodes at node (Some name))
    by_test true is = ap (λ b. with_uses uses (if b then Some (use_by at name node) else None)) (sym is)
    by_test false is = ap (λ b. with_uses uses (if b then Some (use_by at name node) else None)) (sym is)

pub some_added : {A : Type 0} (world : World) (nodes : List PlanNode) (at : ℕ) (node : PlanNode) (names : List (List ℕ))
    (uses : List pages_spec.Use) (found : Option (List ℕ)) (name : List ℕ) (result : Result A NoMemory) (old new : Uses)
    → found ≡ Some name → OnOk result (IsAdded world nodes at node names uses (Some name) old new)
    → OnOk result (IsAdded world nodes at node names uses found old new)
some_added world nodes at node names uses found name result old new some is =
    subst (λ f. OnOk result (IsAdded world nodes at node names uses f old new)) (sym some) is
