-- What is seen of the nodes that define keys (own): by their elements, whatever the world is that these are from.
use Rattle.std.specs.Prelude.{◌≡◌, ℕ, List, [], ◌∷◌, ◌++◌, Option, codes, map, slice_get, unwrap_or}
use Rattle.std.specs.Option.{option_map_or}
use Rattle.dita_doc.specs.ClassValue.{value_of}
use Rattle.dita_doc.specs.declared.plan.PlanNode.{PlanNode}
use Rattle.dita_doc.specs.declared.plan.Target.{Target}
use Rattle.dita_doc.specs.declared.plan.Target.TheVariants as targets
use Rattle.map_spec.specs.Cascade as cascade
use Rattle.map_spec.specs.Elements.{attribute}
use Rattle.map_spec.specs.Keys as keys
use Rattle.map_spec.specs.Keys.{last_of, metadata_texts, text_of_definition, title_of_target}
use Rattle.map_spec.specs.Target.{default_format, default_scope, target_by}
use Rattle.map_spec.specs.Titles.{first_text}
use Rattle.map_spec.specs.Written.{Element, Whole}
use Rattle.plan_nodes.specs.Carried.{CarryScopes, CarryValues}
use Rattle.plan_nodes.specs.Home.{element_among, whole_at}
use Rattle.reader_spec.specs.World.{World}
use Rattle.key_scopes.specs.Made.{IsTableOf}
use Rattle.key_answers.specs.declared.chain.Chain as declared
use Rattle.key_answers.specs.declared.defined.Defined.{Defined}

-- the elements, the table and what the nodes carry are those of a world
pub record AreOf (world : World) (defined : Defined) : Type 0 where
  pub homes : defined.homes.now ≡ map (cascade.whole_at world) defined.nodes.now
  pub table : IsTableOf world defined.nodes.now defined.table.now
  pub values : CarryValues world defined.nodes.now
  pub scopes : CarryScopes defined.nodes.now

abbrev pub scope_seen : List PlanNode → ℕ → ℕ
scope_seen nodes at = option_map_or (λ (node : PlanNode). node.scope) (slice_get nodes at) 0

-- what a value leads to from a document, under what a node carries
abbrev pub target_carried : PlanNode → (href doc : List ℕ) → Target
target_carried node href doc =
    unwrap_or (target_by href (unwrap_or (value_of (codes "format") node.cascaded) default_format)
    (unwrap_or (value_of (codes "scope") node.cascaded) default_scope) doc) targets.Nothing

abbrev pub href_seen : PlanNode → Element → Target
href_seen node element =
    option_map_or (λ href. target_carried node href element.doc) (attribute (codes "href") element) targets.Nothing

abbrev pub target_seen : List (Option Whole) → List PlanNode → ℕ → Target
target_seen homes nodes at = option_map_or (λ node.
    option_map_or (href_seen node) (element_among homes at) targets.Nothing) (slice_get nodes at) targets.Nothing

-- that of the last definition's href
abbrev pub last_target : List (Option Whole) → List PlanNode → List ℕ → Target
last_target homes nodes met = option_map_or (target_seen homes nodes) (last_of met) targets.Nothing

-- the texts that an element has itself
abbrev pub texts_of_whole : Whole → List (List ℕ)
texts_of_whole whole = metadata_texts whole.1 ++ unwrap_or (attribute (codes "navtitle") whole.0) [] ∷ []

abbrev pub text_seen : List (Option Whole) → ℕ → List ℕ
text_seen homes at = option_map_or (λ (whole : Whole). first_text (texts_of_whole whole)) (whole_at homes at) []

-- the texts of definitions, and behind them the title of a target
abbrev pub texts_with : World → List PlanNode → List ℕ → Target → List (List ℕ)
texts_with world nodes met target = map (text_of_definition world nodes) met ++ title_of_target world target ∷ []

-- a chain that was followed, as the definition has it
abbrev pub chain_seen : declared.Chain → keys.Chain
chain_seen chain = record { met = chain.met.items; faults = chain.faults }
