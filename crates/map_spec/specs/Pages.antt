-- Which nodes make pages, and how pages are named (own; DITA 1.3, "DITA maps", "The @processing-role attribute",
-- "Effect of filtering on file names").
use Rattle.std.specs.Prelude.{◌+◌, ◌==◌, ◌&&◌, ℕ, zero, suc, Bool, true, false, not, List, [], ◌∷◌, ◌++◌, Option, Some, None, filter, is_some, length, map, nat_le, option_map, slice_get, unwrap_or, codes, bytes_eq, if◌then◌else◌}
use Rattle.std.specs.Fmt.{decimal}
use Rattle.std.specs.List.{filter_map, flat_map, list_any}
use Rattle.std.specs.Option.{option_and_then, option_map_or, option_or}
use Rattle.dita_doc.specs.Bytes.{slash, is_slash, parts_by}
use Rattle.dita_doc.specs.Name.{is_name}
use Rattle.dita_doc.specs.declared.content.KeyAnswer.{KeyAnswer}
use Rattle.dita_doc.specs.declared.fault.Fault.{Fault}
use Rattle.dita_doc.specs.declared.fault.FaultCode.{FaultCode}
use Rattle.dita_doc.specs.declared.fault.FaultCode.TheVariants as faults
use Rattle.dita_doc.specs.declared.plan.Affix.{Affix}
use Rattle.dita_doc.specs.declared.plan.PageId.{PageId}
use Rattle.dita_doc.specs.declared.plan.PagePlan.{PagePlan}
use Rattle.dita_doc.specs.declared.plan.PlanNode.{PlanNode}
use Rattle.dita_doc.specs.declared.plan.Target.{Target}
use Rattle.dita_doc.specs.declared.plan.Target.TheVariants as targets
use Rattle.dita_doc.specs.declared.question.DocKind.{DocKind}
use Rattle.dita_doc.specs.declared.question.DocKind.TheVariants as doc_kinds
use Rattle.href_text.specs.Joined.{without_last}
use Rattle.reader_spec.specs.World.{World}
use Rattle.map_spec.specs.Branches.{each_once}
use Rattle.map_spec.specs.Cascade.{attribute_at, cascaded_value, is_in_table, walk}
use Rattle.map_spec.specs.Included.{is_reference}
use Rattle.map_spec.specs.Keys.{key_answer, key_of}
use Rattle.map_spec.specs.Scopes.{node_fault, places, scope_at}
use Rattle.map_spec.specs.Target.{target_by}
use Rattle.map_spec.specs.Titles.{kind_in}

-- The target of a node: by its key, else by its href

pub record Aim : Type 0 where
  pub target : Target
  pub faults : List Fault

abbrev pub aim_read : PlanNode → List ℕ → Option Target → Aim
aim_read node href None = record { target = targets.Nothing; faults = node_fault node faults.BadReference href ∷ [] }
aim_read node href (Some target) = record { target = target; faults = [] }

abbrev pub aim_by_href : World → PlanNode → List PlanNode → Option (List ℕ) → Aim
aim_by_href world node around None = record { target = targets.Nothing; faults = [] }
aim_by_href world node around (Some href) = aim_read node href
    (target_by href (cascaded_value world (codes "format") around) (cascaded_value world (codes "scope") around) node.doc)

abbrev pub with_more : List Fault → Aim → Aim
with_more faults aim = record aim { faults = faults ++ aim.faults }

-- an undefined key is a fault of the node, unless an href stands beside it
abbrev pub undefined_key : PlanNode → List ℕ → Option (List ℕ) → List Fault
undefined_key node key None = node_fault node faults.KeyUndefined key ∷ []
undefined_key node key (Some href) = []

abbrev pub aim_by_key : World → PlanNode → List PlanNode → List ℕ → Option (List ℕ) → KeyAnswer → Aim
aim_by_key world node around key href answer =
    if is_some answer.node then record { target = answer.target; faults = answer.faults }
    else with_more (answer.faults ++ undefined_key node key href) (aim_by_href world node around href)

abbrev pub aim_with : World → List PlanNode → ℕ → PlanNode → Option (List ℕ) → Aim
aim_with world nodes at node None =
    aim_by_href world node (walk nodes at) (attribute_at world (codes "href") node)
aim_with world nodes at node (Some keyref) =
    aim_by_key world node (walk nodes at) (key_of keyref) (attribute_at world (codes "href") node)
    (key_answer world nodes (scope_at nodes at) (key_of keyref))

abbrev pub no_aim : Aim
no_aim = record { target = targets.Nothing; faults = [] }

-- only a reference has a target
abbrev pub aim_of : World → List PlanNode → ℕ → PlanNode → Aim
aim_of world nodes at node =
    if is_reference node.kind then aim_with world nodes at node (attribute_at world (codes "keyref") node) else no_aim

abbrev pub aim_at : World → List PlanNode → ℕ → Aim
aim_at world nodes at = option_map_or (aim_of world nodes at) (slice_get nodes at) no_aim

abbrev pub node_targets : World → List PlanNode → List Target
node_targets world nodes = map (λ at. (aim_at world nodes at).target) (places nodes)

-- Uses: references outside relationship tables to DITA documents

abbrev pub local_name : Target → Option (List ℕ)
local_name (targets.Local name reference) = Some name
local_name _ = None

-- the document that a node uses
abbrev pub used_at : World → List PlanNode → ℕ → Option (List ℕ)
used_at world nodes at =
    if is_in_table (walk nodes at) then None else local_name (aim_at world nodes at).target

-- the documents that are used, by first use
abbrev pub documents_of : World → List PlanNode → List (List ℕ)
documents_of world nodes = each_once (filter_map (used_at world nodes) (places nodes))

abbrev pub is_page_kind : DocKind → Bool
is_page_kind doc_kinds.Topic = true
is_page_kind doc_kinds.Dita = true
is_page_kind _ = false

-- a use makes a page if its document is one of topics and it is no mere resource
abbrev pub is_normal : World → List PlanNode → ℕ → Bool
is_normal world nodes at =
    bytes_eq (cascaded_value world (codes "processing-role") (walk nodes at)) (codes "normal")

abbrev pub page_used_at : World → List PlanNode → ℕ → Option (List ℕ)
page_used_at world nodes at = option_and_then
    (λ name. if is_page_kind (kind_in world name) && is_normal world nodes at then Some name else None)
    (used_at world nodes at)

-- Pages: one for each document, scope, filters and affixes, at its first use

-- a page before it has its name
pub record Use : Type 0 where
  pub id : PageId
  pub node : ℕ

abbrev pub use_of : List PlanNode → ℕ → List ℕ → PlanNode → Use
use_of nodes at name node = record {
  id = record { doc = name; scope = scope_at nodes at; filters = node.filters; affixes = node.affixes };
  node = at;
}

abbrev pub use_at : World → List PlanNode → ℕ → Option Use
use_at world nodes at =
    option_and_then (λ name. option_map (use_of nodes at name) (slice_get nodes at)) (page_used_at world nodes at)

abbrev pub are_same_texts : List (List ℕ) → List (List ℕ) → Bool
are_same_texts [] [] = true
are_same_texts [] (text ∷ texts) = false
are_same_texts (text ∷ texts) [] = false
are_same_texts (text ∷ texts) (other ∷ others) = bytes_eq text other && are_same_texts texts others

abbrev pub are_same_affixes : List Affix → List Affix → Bool
are_same_affixes [] [] = true
are_same_affixes [] (affix ∷ affixes) = false
are_same_affixes (affix ∷ affixes) [] = false
are_same_affixes (affix ∷ affixes) (other ∷ others) =
    bytes_eq affix.prefix other.prefix && bytes_eq affix.suffix other.suffix && are_same_affixes affixes others

abbrev pub is_same_context : PageId → PageId → Bool
is_same_context id other = (id.scope == other.scope) && are_same_texts id.filters other.filters
    && are_same_affixes id.affixes other.affixes

abbrev pub is_same_page : PageId → PageId → Bool
is_same_page id other = bytes_eq id.doc other.doc && is_same_context id other

abbrev pub first_uses : List Use → List Use
first_uses [] = []
first_uses (first ∷ uses) = first ∷ filter (λ other. not (is_same_page first.id other.id)) (first_uses uses)

abbrev pub uses_of : World → List PlanNode → List Use
uses_of world nodes = first_uses (filter_map (use_at world nodes) (places nodes))

-- Names

-- the last segment of a path, and the folders before it with their `/`
abbrev pub last_segment : List (List ℕ) → List ℕ
last_segment [] = []
last_segment (segment ∷ []) = segment
last_segment (segment ∷ next ∷ segments) = last_segment (next ∷ segments)

abbrev pub folders : List (List ℕ) → List ℕ
folders segments = flat_map (λ segment. segment ++ slash ∷ []) (without_last segments)

abbrev pub on_last_segment : (List ℕ → List ℕ) → List ℕ → List ℕ
on_last_segment change path =
    let segments = parts_by is_slash path in folders segments ++ change (last_segment segments)

abbrev pub is_dot : ℕ → Bool
is_dot b = b == 46

-- what stands before the last `.`, if one stands there
abbrev pub before_last_dot : List ℕ → Option (List ℕ)
before_last_dot [] = None
before_last_dot (b ∷ text) = option_map_or (λ front. Some (b ∷ front)) (before_last_dot text)
    (if is_dot b then Some [] else None)

-- a segment without its extension; a dot in front begins none
abbrev pub without_extension : List ℕ → List ℕ
without_extension [] = []
without_extension (b ∷ segment) = b ∷ unwrap_or (before_last_dot segment) segment

abbrev pub with_affix : List ℕ → Affix → List ℕ
with_affix path affix = on_last_segment (λ segment. affix.prefix ++ segment ++ affix.suffix) path

abbrev pub with_affixes : List ℕ → List Affix → List ℕ
with_affixes path [] = path
with_affixes path (affix ∷ affixes) = with_affixes (with_affix path affix) affixes

abbrev pub base_of : PageId → List ℕ
base_of id = with_affixes (on_last_segment without_extension id.doc) id.affixes

abbrev pub html : List ℕ → List ℕ
html base = base ++ codes ".html"

-- a page's name is a document name, also under the folder of its build
abbrev pub longest_name : ℕ
longest_name = 240

abbrev pub is_page_name : List ℕ → Bool
is_page_name name = is_name name && nat_le (length name) longest_name

abbrev pub good_base : ℕ → List ℕ → List ℕ
good_base index base = if is_page_name (html base) then base else codes "page" ++ decimal index

abbrev pub with_number : List ℕ → ℕ → List ℕ
with_number base number = html (base ++ codes "_" ++ decimal number)

-- the first of the names from this number on that is not taken; of one name more than are taken one is free
abbrev pub free_from : ℕ → ℕ → List (List ℕ) → List ℕ → List ℕ
free_from zero number taken base = with_number base number
free_from (suc others) number taken base =
    if list_any (bytes_eq (with_number base number)) taken then free_from others (number + 1) taken base
    else with_number base number

abbrev pub free_name : List (List ℕ) → List ℕ → List ℕ
free_name taken base =
    if list_any (bytes_eq (html base)) taken then free_from (length taken) 2 taken base else html base

abbrev pub page_of_use : Use → List ℕ → PagePlan
page_of_use made name = record { id = made.id; node = made.node; name = name }

-- the uses with their names, in order, behind names that are taken
abbrev pub named_from : ℕ → List (List ℕ) → List Use → List PagePlan
named_from index taken [] = []
named_from index taken (first ∷ uses) =
    let name = free_name taken (good_base index (base_of first.id)) in
    page_of_use first name ∷ named_from (index + 1) (name ∷ taken) uses

abbrev pub contents_name : List ℕ
contents_name = codes "index.html"

abbrev pub pages_of : World → List PlanNode → List PagePlan
pages_of world nodes = named_from 0 (contents_name ∷ []) (uses_of world nodes)

-- Faults

abbrev pub fault_of_value : PlanNode → FaultCode → Option (List ℕ) → List Fault
fault_of_value node code None = []
fault_of_value node code (Some value) = node_fault node code value ∷ []

abbrev pub ignored_at : World → PlanNode → List Fault
ignored_at world node =
    fault_of_value node faults.CopyTo (attribute_at world (codes "copy-to") node)
    ++ fault_of_value node faults.Chunk (attribute_at world (codes "chunk") node)

abbrev pub fault_of_kind : PlanNode → List ℕ → DocKind → List Fault
fault_of_kind node name doc_kinds.Absent = node_fault node faults.TopicMissing name ∷ []
fault_of_kind node name kind = if is_page_kind kind then [] else node_fault node faults.NotTopic name ∷ []

abbrev pub fault_of_use : World → PlanNode → Option (List ℕ) → List Fault
fault_of_use world node None = []
fault_of_use world node (Some name) = fault_of_kind node name (kind_in world name)

abbrev pub faults_at : World → List PlanNode → ℕ → PlanNode → List Fault
faults_at world nodes at node =
    ignored_at world node ++ (aim_of world nodes at node).faults ++ fault_of_use world node (used_at world nodes at)

-- a page that has another name than its base gives it
abbrev pub name_fault : List PlanNode → PagePlan → List Fault
name_fault nodes page = if bytes_eq page.name (html (base_of page.id)) then []
    else option_map_or (λ node. node_fault node faults.NameChanged page.name ∷ []) (slice_get nodes page.node) []

abbrev pub page_faults : World → List PlanNode → List Fault
page_faults world nodes =
    flat_map (λ at. option_map_or (faults_at world nodes at) (slice_get nodes at) []) (places nodes)
    ++ flat_map (name_fault nodes) (pages_of world nodes)

-- The page of a document for a context: that of the same context, else the document's first

abbrev pub is_page_for : List ℕ → PageId → PagePlan → Bool
is_page_for name context page = bytes_eq page.id.doc name && is_same_context page.id context

abbrev pub is_page_of : List ℕ → PagePlan → Bool
is_page_of name page = bytes_eq page.id.doc name

-- the place of the first that a test holds of
abbrev pub place_of : {X : Type 0} → (X → Bool) → ℕ → List X → Option ℕ
place_of test at [] = None
place_of test at (x ∷ xs) = if test x then Some at else place_of test (at + 1) xs

abbrev pub page_for : List PagePlan → List ℕ → PageId → Option ℕ
page_for pages name context =
    option_or (place_of (is_page_for name context) 0 pages) (place_of (is_page_of name) 0 pages)
