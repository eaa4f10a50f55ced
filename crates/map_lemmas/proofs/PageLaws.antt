-- The targets of nodes and the pages of a plan are the same for nodes that are alike.
use Rattle.std.specs.Prelude.{◌≡◌, ◌&&◌, ℕ, List, [], ◌∷◌, ◌++◌, Option, Some, None, is_some, map, option_map, slice_get, codes, bytes_eq, if◌then◌else◌}
use Rattle.std.specs.List.{filter_map, flat_map}
use Rattle.std.specs.Option.{option_and_then}
use Rattle.std.proofs.Common.{refl}
use Rattle.dita_doc.specs.declared.content.KeyAnswer.{KeyAnswer}
use Rattle.dita_doc.specs.declared.fault.FaultCode.TheVariants as faults
use Rattle.dita_doc.specs.declared.plan.PagePlan.{PagePlan}
use Rattle.dita_doc.specs.declared.plan.PlanNode.{PlanNode}
use Rattle.reader_spec.specs.World.{World}
use Rattle.map_spec.specs.Branches.{each_once}
use Rattle.map_spec.specs.Cascade.{attribute_at, walk}
use Rattle.map_spec.specs.Included.{is_reference}
use Rattle.map_spec.specs.Keys.{key_of}
use Rattle.map_spec.specs.Pages.{aim_at, aim_by_href, aim_by_key, aim_of, aim_read, aim_with, base_of, contents_name, documents_of, fault_of_use, faults_at, first_uses, html, ignored_at, is_normal, is_page_kind, local_name, name_fault, named_from, no_aim, page_faults, page_used_at, pages_of, node_targets, undefined_key, use_at, use_of, used_at, uses_of, with_more}
use Rattle.map_spec.specs.Target.{target_by}
use Rattle.map_spec.specs.Titles.{kind_in}
use Rattle.map_lemmas.specs.Alike.{AreAlike, IsLike}
use Rattle.map_lemmas.proofs.AlikeLaws.{same_read_map, same_read_or}
use Rattle.map_lemmas.proofs.KeyLaws.{same_fault_of_place, same_key_answer}
use Rattle.map_lemmas.proofs.ScopeLaws.{same_places, same_scope_at}
use Rattle.map_lemmas.proofs.WalkLaws.{same_cascaded_value, same_table_at, same_value_at, same_walk}

-- The target of a node, with the nodes around it

module _ (world : World) (node other : PlanNode) (like : IsLike node other)
    (around more : List PlanNode) (walks : AreAlike around more) where
  same_aim_by_href : (href : Option (List ℕ)) → aim_by_href world node around href ≡ aim_by_href world other more href
  same_aim_by_href None = refl
  same_aim_by_href (Some href) = λ i. aim_read (like i) href
      (target_by href (same_cascaded_value world (codes "format") around more walks i)
      (same_cascaded_value world (codes "scope") around more walks i) (like i).doc)

  same_aim_by_key : (key : List ℕ) (href : Option (List ℕ)) (answer : KeyAnswer)
      → aim_by_key world node around key href answer ≡ aim_by_key world other more key href answer
  same_aim_by_key key href answer = λ i.
      if is_some answer.node then record { target = answer.target; faults = answer.faults }
      else with_more (answer.faults ++ undefined_key (like i) key href) (same_aim_by_href href i)

module _ (world : World) (nodes others : List PlanNode) (alike : AreAlike nodes others) where
  -- Targets

  same_aim_with : (at : ℕ) (node other : PlanNode) → IsLike node other → (keyref : Option (List ℕ))
      → aim_with world nodes at node keyref ≡ aim_with world others at other keyref
  same_aim_with at node other like None = λ i.
      same_aim_by_href world node other like (walk nodes at) (walk others at) (same_walk nodes others alike at)
      (attribute_at world (codes "href") (like i)) i
  same_aim_with at node other like (Some keyref) = λ i.
      same_aim_by_key world node other like (walk nodes at) (walk others at) (same_walk nodes others alike at)
      (key_of keyref) (attribute_at world (codes "href") (like i))
      (same_key_answer world nodes others alike (same_scope_at nodes others alike at i) (key_of keyref) i) i

  pub same_aim_of : (at : ℕ) (node other : PlanNode) → IsLike node other
      → aim_of world nodes at node ≡ aim_of world others at other
  same_aim_of at node other like = λ i. if is_reference (like i).kind
      then same_aim_with at node other like (attribute_at world (codes "keyref") (like i)) i else no_aim

  pub same_aim_at : (at : ℕ) → aim_at world nodes at ≡ aim_at world others at
  same_aim_at at =
      same_read_or nodes others alike (aim_of world nodes at) (aim_of world others at) no_aim at (same_aim_of at)

  pub same_targets_of : node_targets world nodes ≡ node_targets world others
  same_targets_of = λ i. map (λ at. (same_aim_at at i).target) (same_places nodes others alike i)

  -- Uses

  pub same_used_at : (at : ℕ) → used_at world nodes at ≡ used_at world others at
  same_used_at at = λ i.
      if same_table_at nodes others alike at i then None else local_name (same_aim_at at i).target

  pub same_documents_of : documents_of world nodes ≡ documents_of world others
  same_documents_of = λ i. each_once (filter_map (λ at. same_used_at at i) (same_places nodes others alike i))

  same_is_normal : (at : ℕ) → is_normal world nodes at ≡ is_normal world others at
  same_is_normal at = λ i.
      bytes_eq (same_value_at world nodes others alike (codes "processing-role") at i) (codes "normal")

  pub same_page_used_at : (at : ℕ) → page_used_at world nodes at ≡ page_used_at world others at
  same_page_used_at at = λ i. option_and_then
      (λ name. if is_page_kind (kind_in world name) && same_is_normal at i then Some name else None) (same_used_at at i)

  -- Pages

  same_use_of : (at : ℕ) (name : List ℕ)
      → option_map (use_of nodes at name) (slice_get nodes at)
      ≡ option_map (use_of others at name) (slice_get others at)
  same_use_of at name = same_read_map nodes others alike (use_of nodes at name) (use_of others at name) at
      (λ node other like i. record {
        id = record {
          doc = name;
          scope = same_scope_at nodes others alike at i;
          filters = (like i).filters;
          affixes = (like i).affixes;
        };
        node = at;
      })

  pub same_use_at : (at : ℕ) → use_at world nodes at ≡ use_at world others at
  same_use_at at = λ i. option_and_then (λ name. same_use_of at name i) (same_page_used_at at i)

  pub same_uses_of : uses_of world nodes ≡ uses_of world others
  same_uses_of = λ i. first_uses (filter_map (λ at. same_use_at at i) (same_places nodes others alike i))

  pub same_pages_of : pages_of world nodes ≡ pages_of world others
  same_pages_of = λ i. named_from 0 (contents_name ∷ []) (same_uses_of i)

  -- Faults

  same_faults_at : (at : ℕ) (node other : PlanNode) → IsLike node other
      → faults_at world nodes at node ≡ faults_at world others at other
  same_faults_at at node other like = λ i. ignored_at world (like i) ++ (same_aim_of at node other like i).faults
      ++ fault_of_use world (like i) (same_used_at at i)

  same_name_fault : (page : PagePlan) → name_fault nodes page ≡ name_fault others page
  same_name_fault page = λ i. if bytes_eq page.name (html (base_of page.id)) then []
      else same_fault_of_place nodes others alike page.node faults.NameChanged page.name i

  pub same_page_faults : page_faults world nodes ≡ page_faults world others
  same_page_faults = λ i.
      flat_map (λ at. same_read_or nodes others alike (faults_at world nodes at) (faults_at world others at) [] at
      (same_faults_at at) i) (same_places nodes others alike i)
      ++ flat_map (λ page. same_name_fault page i) (same_pages_of i)
