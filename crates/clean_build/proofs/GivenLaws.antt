-- The documents that a plan names may be asked about: hrefs of its nodes' elements give them, which were told.
use Rattle.std.specs.Prelude.{◌≡◌, ◌+◌, ◌&&◌, ℕ, zero, suc, Bool, true, false, not, List, [], ◌∷◌, Option, Some, None, IsTrue, bytes_eq, codes, filter, is_some, map, option_map, slice_get, unwrap_or, if◌then◌else◌}
use Rattle.std.specs.List.{filter_map, flat_map}
use Rattle.std.specs.Option.{option_and_then}
use Rattle.std.proofs.Common.{refl, sym, ap, subst}
use Rattle.std.proofs.Math.Logic.{⊎_elim}
use Rattle.std.proofs.lemmas.Bool.{false≢true, or_cases, or_left, or_right}
use Rattle.std.proofs.lemmas.Slice.Eq.{bytes_eq-Decides}
use Rattle.dita_doc.specs.declared.content.KeyAnswer.{KeyAnswer}
use Rattle.dita_doc.specs.declared.plan.PlanNode.{PlanNode}
use Rattle.dita_doc.specs.declared.plan.Target.{Target}
use Rattle.dita_doc.specs.declared.plan.Target.TheVariants as targets
use Rattle.map_spec.specs.Branches.{each_once}
use Rattle.map_spec.specs.Cascade.{attribute_at, cascaded_value, is_in_table, walk, whole_at}
use Rattle.map_spec.specs.Included.{is_reference}
use Rattle.map_spec.specs.Keys.{chain, href_target, key_answer, key_of, last_of, target_of_definition, target_of_chain}
use Rattle.map_spec.specs.Pages.{Use, aim_at, aim_by_href, aim_by_key, aim_of, aim_read, aim_with, base_of, contents_name, documents_of, first_uses, free_name, good_base, is_normal, is_page_kind, is_same_page, local_name, named_from, page_used_at, pages_of, node_targets, use_at, use_of, used_at, uses_of}
use Rattle.map_spec.specs.Scopes.{places, scope_at}
use Rattle.map_spec.specs.Target.{target_by}
use Rattle.map_spec.specs.Titles.{kind_in}
use Rattle.plan_nodes.specs.Given.{AreTold}
use Rattle.plan_nodes.proofs.TargetLaws.{may_target_at}
use Rattle.reader_spec.specs.World.{World}
use Rattle.readers.specs.Founded.{AreAllowed, is_allowed, is_among}
use Rattle.readers.specs.Told.{Told}
use Rattle.readers.proofs.AmongLaws.{among_back, among_either, among_front}
use Rattle.build_plan.specs.Documents.{filters_of}
use Rattle.clean_build.specs.Names.{names_of_page}

module _ (told : List Told) (roots : List (List ℕ)) where
  -- Some names, each of which may be asked about

  abbrev Allowed : List ℕ → Type 0
  Allowed m = IsTrue (is_allowed roots told m)

  one_of : (name : List ℕ) (names : List (List ℕ)) (m : List ℕ) → Allowed name
      → (IsTrue (is_among names m) → Allowed m) → IsTrue (is_among (name ∷ names) m) → Allowed m
  one_of name names m first behind among = ⊎_elim
      (λ here. subst Allowed ((bytes_eq-Decides name m).0 here) first) behind
      (or_cases (bytes_eq name m) _ among)

  module _ {X : Type 0} (see : X → Option (List ℕ)) (may : (x : X) (name : List ℕ) → see x ≡ Some name → Allowed name)
    where
      pub all_seen : (xs : List X) (m : List ℕ) → IsTrue (is_among (filter_map see xs) m) → Allowed m
      all_seen [] m among = absurd (false≢true among)
      all_seen (x ∷ xs) m among = by_name (all_seen xs m) (see x) refl among
        where
          by_name : (IsTrue (is_among (filter_map see xs) m) → Allowed m) → (found : Option (List ℕ)) → see x ≡ found
              → IsTrue (is_among (filter_map see (x ∷ xs)) m) → Allowed m
          by_name behind None e = rw e (λ here. behind here)
          by_name behind (Some name) e = rw e (λ here. one_of name (filter_map see xs) m (may x name e) behind here)

  -- of these, each once
  among_filtered : (keeps : List ℕ → Bool) (names : List (List ℕ)) (m : List ℕ)
      → IsTrue (is_among (filter keeps names) m) → IsTrue (is_among names m)
  among_filtered keeps [] m among = among
  among_filtered keeps (name ∷ names) m among = by_test (among_filtered keeps names m) (keeps name) refl among
    where
      by_test : (IsTrue (is_among (filter keeps names) m) → IsTrue (is_among names m)) → (test : Bool)
          → keeps name ≡ test → IsTrue (is_among (filter keeps (name ∷ names)) m) → IsTrue (is_among (name ∷ names) m)
      by_test behind true e = rw e (λ here. ⊎_elim (λ is. or_left (bytes_eq name m) _ is)
          (λ more. or_right (bytes_eq name m) _ (behind more)) (or_cases (bytes_eq name m) _ here))
      by_test behind false e = rw e (λ here. or_right (bytes_eq name m) _ (behind here))

  among_once : (names : List (List ℕ)) (m : List ℕ) → IsTrue (is_among (each_once names) m) → IsTrue (is_among names m)
  among_once [] m among = among
  among_once (name ∷ names) m among = ⊎_elim (λ is. or_left (bytes_eq name m) _ is)
      (λ more. or_right (bytes_eq name m) _
      (among_once names m (among_filtered (λ other. not (bytes_eq name other)) (each_once names) m more)))
      (or_cases (bytes_eq name m) _ among)

  -- The targets of nodes whose elements were told

  abbrev May : Target → Type 0
  May target = (name : List ℕ) → local_name target ≡ Some name → Allowed name

  may_nothing : May targets.Nothing
  may_nothing name is = cc

  no_local : (target : Target) → local_name target ≡ None → May target
  no_local target none name is = cc

  module _ {X : Type 0} (leads : X → Target) (may : (x : X) → May (leads x)) where
    led_to : (xs : List X) (m : List ℕ) → IsTrue (is_among (filter_map local_name (map leads xs)) m) → Allowed m
    led_to [] m among = absurd (false≢true among)
    led_to (x ∷ xs) m among = by_name (led_to xs m) (local_name (leads x)) refl among
      where
        by_name : (IsTrue (is_among (filter_map local_name (map leads xs)) m) → Allowed m) → (found : Option (List ℕ))
            → local_name (leads x) ≡ found
            → IsTrue (is_among (filter_map local_name (map leads (x ∷ xs))) m) → Allowed m
        by_name behind None e = rw e (λ here. behind here)
        by_name behind (Some name) e = rw e
            (λ here. one_of name (filter_map local_name (map leads xs)) m (may x name e) behind here)

  module _ (world : World) (nodes : List PlanNode) (were : AreTold told (map (whole_at world) nodes)) where
    module _ (around : List PlanNode) (at : ℕ) (node : PlanNode) (there : slice_get nodes at ≡ Some node) where
      may_found : (target : Target) → target_of_definition world node around ≡ Some target → May target
      may_found (targets.Local own reference) is name named =
          let same : own ≡ name = cc in
          subst Allowed same (may_target_at told world nodes around at node own reference were there is roots)
      may_found (targets.File own rest) is name named = cc
      may_found (targets.Other value) is name named = cc
      may_found targets.Nothing is name named = cc

      may_read : (href : List ℕ) (found : Option Target) → target_of_definition world node around ≡ found
          → May (aim_read node href found).target
      may_read href None is = may_nothing
      may_read href (Some target) is = may_found target is

      may_href : (href : Option (List ℕ)) → attribute_at world (codes "href") node ≡ href
          → May (aim_by_href world node around href).target
      may_href None is = may_nothing
      may_href (Some href) is = may_read href
          (target_by href (cascaded_value world (codes "format") around) (cascaded_value world (codes "scope") around)
          node.doc)
          (ap (option_and_then (λ h. target_by h (cascaded_value world (codes "format") around)
          (cascaded_value world (codes "scope") around) node.doc)) is)

    -- a key leads to what the href of its last definition leads to

    may_or : (found : Option Target) → ((target : Target) → found ≡ Some target → May target)
        → May (unwrap_or found targets.Nothing)
    may_or None may = may_nothing
    may_or (Some target) may = may target refl

    may_defined : (at : ℕ) (found : Option PlanNode) → slice_get nodes at ≡ found → (target : Target)
        → option_and_then (λ node. target_of_definition world node (walk nodes at)) found ≡ Some target → May target
    may_defined at None is target leads = cc
    may_defined at (Some node) is target leads = may_found (walk nodes at) at node is target leads

    may_last : (last : Option ℕ) (target : Target) → option_and_then (href_target world nodes) last ≡ Some target
        → May target
    may_last None target leads = cc
    may_last (Some at) target leads = may_defined at (slice_get nodes at) refl target leads

    may_chain : (met : List ℕ) → May (target_of_chain world nodes met)
    may_chain met = may_or (option_and_then (href_target world nodes) (last_of met)) (may_last (last_of met))

    may_key : (scope : ℕ) (key : List ℕ) → May (key_answer world nodes scope key).target
    may_key scope key = by_first (slice_get (chain world nodes scope key).met 0) refl
      where
        by_first : (first : Option ℕ) → slice_get (chain world nodes scope key).met 0 ≡ first
            → May (key_answer world nodes scope key).target
        by_first None e = rw e may_nothing
        by_first (Some at) e = rw e (may_chain (chain world nodes scope key).met)

    -- the target of a reference

    module _ (at : ℕ) (node : PlanNode) (there : slice_get nodes at ≡ Some node) where
      may_by_key : (key : List ℕ) (answer : KeyAnswer) → May answer.target
          → May (aim_by_key world node (walk nodes at) key (attribute_at world (codes "href") node) answer).target
      may_by_key key answer may = by_node (is_some answer.node) refl
        where
          by_node : (defined : Bool) → is_some answer.node ≡ defined
              → May (aim_by_key world node (walk nodes at) key (attribute_at world (codes "href") node) answer).target
          by_node true e = rw e may
          by_node false e = rw e (may_href (walk nodes at) at node there (attribute_at world (codes "href") node) refl)

      may_with : (keyref : Option (List ℕ)) → May (aim_with world nodes at node keyref).target
      may_with None = may_href (walk nodes at) at node there (attribute_at world (codes "href") node) refl
      may_with (Some keyref) = may_by_key (key_of keyref) (key_answer world nodes (scope_at nodes at) (key_of keyref))
          (may_key (scope_at nodes at) (key_of keyref))

      may_of : May (aim_of world nodes at node).target
      may_of = by_kind (is_reference node.kind) refl
        where
          by_kind : (reference : Bool) → is_reference node.kind ≡ reference → May (aim_of world nodes at node).target
          by_kind true e = rw e (may_with (attribute_at world (codes "keyref") node))
          by_kind false e = rw e may_nothing

    may_at : (at : ℕ) → May (aim_at world nodes at).target
    may_at at = by_node (slice_get nodes at) refl
      where
        by_node : (found : Option PlanNode) → slice_get nodes at ≡ found → May (aim_at world nodes at).target
        by_node None e = rw e may_nothing
        by_node (Some node) e = rw e (may_of at node e)

    pub targets_allowed : AreAllowed roots told (filter_map local_name (node_targets world nodes))
    targets_allowed = record { each = led_to (λ at. (aim_at world nodes at).target) may_at (places nodes) }

    -- the documents that are used

    used_allowed : (at : ℕ) (name : List ℕ) → used_at world nodes at ≡ Some name → Allowed name
    used_allowed at name = by_place (is_in_table (walk nodes at))
      where
        by_place : (inside : Bool) → (if inside then None else local_name (aim_at world nodes at).target) ≡ Some name
            → Allowed name
        by_place true is = cc
        by_place false is = may_at at name is

    pub documents_allowed : AreAllowed roots told (documents_of world nodes)
    documents_allowed = record {
      each = λ m among. all_seen (used_at world nodes) used_allowed (places nodes) m
          (among_once (filter_map (used_at world nodes) (places nodes)) m among);
    }

    -- Pages, by DITAVALs of nodes that may be asked about

    module _ (filters : AreAllowed roots told (filters_of nodes)) where
      filters_at : (all : List PlanNode) (at : ℕ) (node : PlanNode) → slice_get all at ≡ Some node → (m : List ℕ)
          → IsTrue (is_among node.filters m) → IsTrue (is_among (filters_of all) m)
      filters_at [] at node there m among = cc
      filters_at (first ∷ all) zero node there m among =
          let same : first ≡ node = cc in
          among_front first.filters (filters_of all) m
          (subst (λ (n : PlanNode). IsTrue (is_among n.filters m)) (sym same) among)
      filters_at (first ∷ all) (suc at) node there m among =
          among_back first.filters (filters_of all) m (filters_at all at node there m among)

      abbrev Makes : Use → Type 0
      Makes made = (m : List ℕ) → IsTrue (is_among (made.id.doc ∷ made.id.filters) m) → Allowed m

      abbrev MakeEach : List Use → Type 0
      MakeEach [] = Unit {0}
      MakeEach (made ∷ uses) = Makes made × MakeEach uses

      makes_page : (at : ℕ) (name : List ℕ) (found : Option PlanNode) → slice_get nodes at ≡ found → Allowed name
          → (made : Use) → option_map (use_of nodes at name) found ≡ Some made → Makes made
      makes_page at name None there may made is = cc
      makes_page at name (Some node) there may made is =
          let same : use_of nodes at name node ≡ made = cc in
          subst Makes same (λ m. one_of name node.filters m may
          (λ among. filters.each m (filters_at nodes at node there m among)))

      page_used : (at : ℕ) (name : List ℕ) (used : Option (List ℕ)) → used_at world nodes at ≡ used
          → option_and_then (λ n. if is_page_kind (kind_in world n) && is_normal world nodes at then Some n else None)
          used ≡ Some name → Allowed name
      page_used at name None was is = cc
      page_used at name (Some own) was is = by_test (is_page_kind (kind_in world own) && is_normal world nodes at) is
        where
          by_test : (test : Bool) → (if test then Some own else None) ≡ Some name → Allowed name
          by_test true e = let same : own ≡ name = cc in subst Allowed same (used_allowed at own was)
          by_test false e = cc

      makes_use : (at : ℕ) (named : Option (List ℕ)) → page_used_at world nodes at ≡ named → (made : Use)
          → option_and_then (λ name. option_map (use_of nodes at name) (slice_get nodes at)) named ≡ Some made
          → Makes made
      makes_use at None was made is = cc
      makes_use at (Some name) was made is = makes_page at name (slice_get nodes at) refl
          (page_used at name (used_at world nodes at) refl was) made is

      make_each : (ats : List ℕ) → MakeEach (filter_map (use_at world nodes) ats)
      make_each [] = tt
      make_each (at ∷ ats) = by_use (make_each ats) (use_at world nodes at) refl
        where
          by_use : MakeEach (filter_map (use_at world nodes) ats) → (found : Option Use) → use_at world nodes at ≡ found
              → MakeEach (filter_map (use_at world nodes) (at ∷ ats))
          by_use behind None e = rw e behind
          by_use behind (Some made) e = rw e (makes_use at (page_used_at world nodes at) refl made e, behind)

      make_left : (stays : Use → Bool) (uses : List Use) → MakeEach uses → MakeEach (filter stays uses)
      make_left stays [] each = tt
      make_left stays (made ∷ uses) each = by_test (make_left stays uses each.1) (stays made) refl
        where
          by_test : MakeEach (filter stays uses) → (test : Bool) → stays made ≡ test
              → MakeEach (filter stays (made ∷ uses))
          by_test behind true e = rw e (each.0, behind)
          by_test behind false e = rw e behind

      make_first : (uses : List Use) → MakeEach uses → MakeEach (first_uses uses)
      make_first [] each = tt
      make_first (made ∷ uses) each = (
        each.0,
        make_left (λ other. not (is_same_page made.id other.id)) (first_uses uses) (make_first uses each.1),
      )

      pages_named : (index : ℕ) (taken : List (List ℕ)) (uses : List Use) → MakeEach uses → (m : List ℕ)
          → IsTrue (is_among (flat_map names_of_page (named_from index taken uses)) m) → Allowed m
      pages_named index taken [] each m among = absurd (false≢true among)
      pages_named index taken (made ∷ uses) each m among =
          let name = free_name taken (good_base index (base_of made.id)) in
          among_either (made.id.doc ∷ made.id.filters)
          (flat_map names_of_page (named_from (index + 1) (name ∷ taken) uses)) m (Allowed m)
          (each.0 m) (pages_named (index + 1) (name ∷ taken) uses each.1 m) among

      pub pages_allowed : AreAllowed roots told (flat_map names_of_page (pages_of world nodes))
      pages_allowed = record {
        each = pages_named 0 (contents_name ∷ []) (uses_of world nodes)
            (make_first (filter_map (use_at world nodes) (places nodes)) (make_each (places nodes)));
      }
