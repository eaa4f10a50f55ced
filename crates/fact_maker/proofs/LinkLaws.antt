-- The links of a plan are the same in each world in which its nodes have the same elements.
use Rattle.std.specs.Prelude.{◌≡◌, ◌&&◌, ℕ, not, List, [], ◌∷◌, Option, Some, None, Ok, codes, filter, map, option_map, slice_get, unwrap_or, if◌then◌else◌}
use Rattle.std.specs.Arc.{arc_value}
use Rattle.std.specs.List.{cons_option, filter_map}
use Rattle.std.specs.Option.{option_and_then, option_or}
use Rattle.std.proofs.Common.{refl, ap, subst, ◌∙◌}
use Rattle.dita_doc.specs.declared.plan.Plan.{Plan}
use Rattle.dita_doc.specs.declared.plan.PlanNode.{PlanNode}
use Rattle.fact_judge.specs.Agreed.{PlanAnswers}
use Rattle.fact_judge.specs.Sound.{IsSound}
use Rattle.facts.specs.declared.fact.Fact.{Fact}
use Rattle.family_links.specs.Collected.{IsMade}
use Rattle.family_links.specs.Grouped.{groups}
use Rattle.link_groups.specs.LinkNodes.{link_node_at}
use Rattle.link_spec.specs.Links.{cascaded_at, is_child, is_one_of, node_attribute, page_of_node}
use Rattle.map_spec.specs.Cascade.{attribute_at, default_of, is_in_table, nearest, passed, places_up, walk, whole_at}
use Rattle.map_spec.specs.Elements.{attribute, is_value}
use Rattle.map_spec.specs.Scopes.{places}
use Rattle.map_spec.specs.Written.{Whole}
use Rattle.node_links.specs.NodeTable.{AreNodeLinks}
use Rattle.node_links.specs.declared.table.NodeLinks.{NodeLinks}
use Rattle.plan_nodes.proofs.WorldLaws.{same_at}
use Rattle.reader_spec.specs.World.{World}
use Rattle.reltable_links.specs.CellTable.{cell_at, is_below, is_row_cell, node_at}
use Rattle.fact_maker.proofs.GroundLaws.{same_elements}

module _ (a b : World) (plan : Plan) (same : map (whole_at a) plan.nodes ≡ map (whole_at b) plan.nodes) where
  -- What a node's element says

  same_attribute : (name : List ℕ) (node : PlanNode) → whole_at a node ≡ whole_at b node
      → attribute_at a name node ≡ attribute_at b name node
  same_attribute name node is = ap (option_and_then (λ (whole : Whole). attribute name whole.0)) is

  found_attribute : (name : List ℕ) (found : Option PlanNode)
      → ((node : PlanNode) → found ≡ Some node → whole_at a node ≡ whole_at b node)
      → option_and_then (attribute_at a name) found ≡ option_and_then (attribute_at b name) found
  found_attribute name None each = refl
  found_attribute name (Some node) each = same_attribute name node (each node refl)

  attribute_same : (name : List ℕ) (at : ℕ) → node_attribute a plan name at ≡ node_attribute b plan name at
  attribute_same name at = found_attribute name (slice_get plan.nodes at) (same_at a b plan.nodes same at)

  -- What cascades on the walk from it

  abbrev AreSame : List PlanNode → Type 0
  AreSame [] = Unit {0}
  AreSame (node ∷ around) = (whole_at a node ≡ whole_at b node) × AreSame around

  in_front : (found : Option PlanNode) (around : List PlanNode)
      → ((node : PlanNode) → found ≡ Some node → whole_at a node ≡ whole_at b node) → AreSame around
      → AreSame (cons_option found around)
  in_front None around each behind = behind
  in_front (Some node) around each behind = (each node refl, behind)

  places_same : (at : List ℕ) → AreSame (filter_map (slice_get plan.nodes) at)
  places_same [] = tt
  places_same (at ∷ more) = in_front (slice_get plan.nodes at) (filter_map (slice_get plan.nodes) more)
      (same_at a b plan.nodes same at) (places_same more)

  nearest_same : (name : List ℕ) (around : List PlanNode) → AreSame around → nearest a name around ≡ nearest b name around
  nearest_same name [] each = refl
  nearest_same name (node ∷ around) each = λ i. option_or (same_attribute name node each.0 i)
      (passed name node around (nearest_same name around each.1 i))

  cascaded_same : (name : List ℕ) (at : ℕ) → cascaded_at a plan name at ≡ cascaded_at b plan name at
  cascaded_same name at = ap (λ (value : Option (List ℕ)). unwrap_or value (default_of name (walk plan.nodes at)))
      (nearest_same name (walk plan.nodes at) (places_same (places_up plan.nodes at)))

  -- The nodes that are linked

  node_same : (at : ℕ) → link_node_at a plan at ≡ link_node_at b plan at
  node_same at = λ i. option_map (λ page. record {
    at = at;
    page = page;
    is_source = is_one_of (codes "normal" ∷ codes "sourceonly" ∷ []) (cascaded_same (codes "linking") at i);
    is_target = is_one_of (codes "normal" ∷ codes "targetonly" ∷ []) (cascaded_same (codes "linking") at i);
  }) (page_of_node plan at)

  groups_same : (value : List ℕ) → groups a plan value ≡ groups b plan value
  groups_same value = λ i. map
      (λ parent. filter_map (λ at. node_same at i) (filter (is_child plan parent) (places plan.nodes)))
      (filter (λ at. is_value value (attribute_same (codes "collection-type") at i)
      && not (is_in_table (walk plan.nodes at))) (places plan.nodes))

  cells_same : (all : List ℕ) → filter_map (cell_at a plan) all ≡ filter_map (cell_at b plan) all
  cells_same all = λ i. filter_map (λ at. option_and_then (λ (node : PlanNode).
      if is_row_cell plan.nodes at node then Some (record {
        row = node.parent;
        at = at;
        end = node.end;
        is_family = is_value (codes "family") (attribute_same (codes "collection-type") at i);
      }) else None) (slice_get plan.nodes at)) all

  below_same : (all : List ℕ) → filter_map (node_at a plan) all ≡ filter_map (node_at b plan) all
  below_same all = λ i. filter_map (λ at. if is_below plan at then node_same at i else None) all

  pub links_stay : (links : NodeLinks) → AreNodeLinks a plan links → AreNodeLinks b plan links
  links_stay links are = record {
    collections = subst (λ ordered. IsMade ordered (groups b plan (codes "family")) links.collections)
        (groups_same (codes "sequence"))
        (subst (λ others. IsMade (groups a plan (codes "sequence")) others links.collections)
        (groups_same (codes "family")) are.collections);
    rows = record {
      tree = are.rows.tree;
      cells = record {
        rows = are.rows.cells.rows;
        cells = are.rows.cells.cells ∙ cells_same (places plan.nodes);
        nodes = are.rows.cells.nodes ∙ below_same (places plan.nodes);
        lost = are.rows.cells.lost;
        end = are.rows.cells.end;
      };
      standings = are.rows.standings;
    };
    faults = are.faults;
  }

-- So they are the same in each world that gives the questions of a sound fact's plan their answers
pub links_same : (fact : Fact) → IsSound fact → (plan : Plan) → (arc_value fact.plan).value ≡ Ok plan → (world : World)
    → PlanAnswers (arc_value fact.plan) world → (other : World) → PlanAnswers (arc_value fact.plan) other
    → (links : NodeLinks) → AreNodeLinks world plan links → AreNodeLinks other plan links
links_same fact sound plan is world here other there links are =
    links_stay world other plan (same_elements fact sound plan is world here other there) links are
