-- What a key gives (DITA 1.3, "Using keys for addressing", "Processing key references to generate text or link text",
-- "Key-based addressing, processing"). The order of its texts, and the faults, are our own.
use Rattle.std.specs.Prelude.{◌+◌, ◌==◌, ℕ, zero, suc, List, [], ◌∷◌, ◌++◌, Option, Some, None, is_some, length, map, slice_get, unwrap_or, codes, if◌then◌else◌}
use Rattle.std.specs.List.{after_first, before_first, list_any}
use Rattle.std.specs.Option.{option_and_then, option_map_or}
use Rattle.dita_doc.specs.Bytes.{is_slash}
use Rattle.dita_doc.specs.declared.content.KeyAnswer.{KeyAnswer}
use Rattle.dita_doc.specs.declared.fault.Fault.{Fault}
use Rattle.dita_doc.specs.declared.fault.FaultCode.TheVariants as faults
use Rattle.dita_doc.specs.declared.plan.PlanNode.{PlanNode}
use Rattle.dita_doc.specs.declared.plan.Target.{Target}
use Rattle.dita_doc.specs.declared.plan.Target.TheVariants as targets
use Rattle.reader_spec.specs.World.{World}
use Rattle.map_spec.specs.Cascade.{attribute_at, cascaded_value, walk, whole_at}
use Rattle.map_spec.specs.Elements.{first_under, text_of}
use Rattle.map_spec.specs.Scopes.{definition_found, node_fault, scope_at}
use Rattle.map_spec.specs.Target.{target_by}
use Rattle.map_spec.specs.Titles.{first_text, title_in}
use Rattle.map_spec.specs.Written.{Whole, Written}

-- A key reference: a key, and perhaps the id of an element behind the first `/`

abbrev pub key_of : List ℕ → List ℕ
key_of keyref = before_first is_slash keyref

abbrev pub if_text : List ℕ → Option (List ℕ)
if_text [] = None
if_text (b ∷ text) = Some (b ∷ text)

abbrev pub id_of_key : List ℕ → Option (List ℕ)
id_of_key keyref = if list_any is_slash keyref then if_text (after_first is_slash keyref) else None

-- The chain of definitions: the places of those that were met, and the faults of the last step

pub record Chain : Type 0 where
  pub met : List ℕ
  pub faults : List Fault

abbrev pub attribute_of : World → List PlanNode → List ℕ → ℕ → Option (List ℕ)
attribute_of world nodes name at = option_and_then (attribute_at world name) (slice_get nodes at)

abbrev pub fault_of_place : List PlanNode → ℕ → (PlanNode → Fault) → List Fault
fault_of_place nodes at fault = option_map_or (λ node. fault node ∷ []) (slice_get nodes at) []

abbrev pub last_of : List ℕ → Option ℕ
last_of [] = None
last_of (at ∷ []) = Some at
last_of (at ∷ next ∷ more) = last_of (next ∷ more)

-- an undefined key of a definition is its fault, unless an href stands beside it
abbrev pub undefined_at : World → List PlanNode → List ℕ → Option ℕ → List Fault
undefined_at world nodes key None = []
undefined_at world nodes key (Some at) = if is_some (attribute_of world nodes (codes "href") at) then []
    else fault_of_place nodes at (λ node. node_fault node faults.KeyUndefined key)

abbrev pub met_again : List PlanNode → List ℕ → List ℕ → ℕ → Chain
met_again nodes met key at =
    record { met = met; faults = fault_of_place nodes at (λ node. node_fault node faults.KeyCycle key) }

-- `follow` goes on with the key reference of the definition that was met last
abbrev pub chain_at : (List ℕ → ℕ → List ℕ → Chain) → World → List PlanNode → List ℕ → List ℕ → Option ℕ → Chain
chain_at follow world nodes met key None =
    record { met = met; faults = undefined_at world nodes key (last_of met) }
chain_at follow world nodes met key (Some at) =
    if list_any (λ other. other == at) met then met_again nodes met key at
    else option_map_or (λ keyref. follow (met ++ at ∷ []) (scope_at nodes at) (key_of keyref))
    (attribute_of world nodes (codes "keyref") at) (record { met = met ++ at ∷ []; faults = [] })

-- no definition is met twice, so that one step more than there are nodes is enough
unfoldable pub chain_from : ℕ → World → List PlanNode → List ℕ → ℕ → List ℕ → Chain
chain_from zero world nodes met scope key = record { met = met; faults = [] }
chain_from (suc steps) world nodes met scope key =
    chain_at (chain_from steps world nodes) world nodes met key (definition_found world nodes scope key)

abbrev pub chain : World → List PlanNode → ℕ → List ℕ → Chain
chain world nodes scope key = chain_from (length nodes + 1) world nodes [] scope key

-- The target: that of the last definition's href

abbrev pub target_of_definition : World → PlanNode → List PlanNode → Option Target
target_of_definition world node around = option_and_then (λ href.
    target_by href (cascaded_value world (codes "format") around) (cascaded_value world (codes "scope") around) node.doc)
    (attribute_at world (codes "href") node)

abbrev pub href_target : World → List PlanNode → ℕ → Option Target
href_target world nodes at =
    option_and_then (λ node. target_of_definition world node (walk nodes at)) (slice_get nodes at)

abbrev pub target_of_chain : World → List PlanNode → List ℕ → Target
target_of_chain world nodes met =
    unwrap_or (option_and_then (href_target world nodes) (last_of met)) targets.Nothing

-- The text

-- the texts that a definition has itself, in the order in which they count
abbrev pub metadata_texts : Written → List (List ℕ)
metadata_texts inside =
    map (λ token. text_of (first_under (codes "map/topicmeta") token inside))
    (codes "topic/keyword" ∷ codes "map/linktext" ∷ codes "topic/navtitle" ∷ [])

abbrev pub texts_of_node : World → PlanNode → List (List ℕ)
texts_of_node world node =
    option_map_or (λ (whole : Whole). metadata_texts whole.1) (whole_at world node) []
    ++ unwrap_or (attribute_at world (codes "navtitle") node) [] ∷ []

abbrev pub text_of_definition : World → List PlanNode → ℕ → List ℕ
text_of_definition world nodes at =
    option_map_or (λ node. first_text (texts_of_node world node)) (slice_get nodes at) []

abbrev pub title_of_target : World → Target → List ℕ
title_of_target world (targets.Local name reference) = title_in world name reference.topic
title_of_target world _ = []

abbrev pub text_of_chain : World → List PlanNode → List ℕ → List ℕ
text_of_chain world nodes met = first_text
    (map (text_of_definition world nodes) met ++ title_of_target world (target_of_chain world nodes met) ∷ [])

-- The whole

-- a key without a text shows its name, with a fault at its definition
abbrev pub untitled_at : List PlanNode → ℕ → List ℕ → List ℕ → List Fault
untitled_at nodes first key [] = fault_of_place nodes first (λ node. node_fault node faults.KeyNoText key)
untitled_at nodes first key (b ∷ text) = []

abbrev pub label_or : List ℕ → List ℕ → List ℕ
label_or key [] = key
label_or key (b ∷ text) = b ∷ text

abbrev pub undefined : KeyAnswer
undefined = record { node = None; target = targets.Nothing; label = []; faults = [] }

abbrev pub answer_of_chain : World → List PlanNode → List ℕ → Chain → KeyAnswer
answer_of_chain world nodes key chain = option_map_or (λ first.
    let text = text_of_chain world nodes chain.met in
    record {
      node = Some first;
      target = target_of_chain world nodes chain.met;
      label = label_or key text;
      faults = chain.faults ++ untitled_at nodes first key text;
    }) (slice_get chain.met 0) undefined

-- what a key gives in a scope: its definition, target, text and faults
abbrev pub key_answer : World → List PlanNode → ℕ → List ℕ → KeyAnswer
key_answer world nodes scope key = answer_of_chain world nodes key (chain world nodes scope key)
