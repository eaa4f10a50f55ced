-- The first use of each page, with the set of what tells pages apart (own).
use Rattle.std.specs.Prelude.{◌≡◌, ℕ, Bool, List, [], ◌∷◌, ◌++◌, if◌then◌else◌}
use Rattle.std.specs.BTreeMap.{is_at}
use Rattle.std.specs.Cmp.Lexicographic.{slice_cmp}
use Rattle.std.specs.List.{list_any}
use Rattle.std.specs.Ordering.{nat_cmp, ordering_then}
use Rattle.std.specs.declared.cmp.Ordering.{Ordering}
use Rattle.dita_doc.specs.declared.plan.PageId.{PageId}
use Rattle.dita_doc.specs.declared.plan.PlanNode.{PlanNode}
use Rattle.map_spec.specs.Pages as pages_spec
use Rattle.map_spec.specs.Pages.{is_same_page}
use Rattle.plan_nodes.specs.Affixes.{texts_of}
use Rattle.page_names.specs.declared.page_uses.PageKey.{PageKey}
use Rattle.page_names.specs.declared.page_uses.PageUses.{PageUses}
use Rattle.page_names.specs.Shown.{uses_shown}

abbrev pub Uses : Type 0
Uses = List pages_spec.Use

-- the page that a node's use of a document makes, by the scope that the node carries
abbrev pub id_by : List ℕ → PlanNode → PageId
id_by name node = record { doc = name; scope = node.scope; filters = node.filters; affixes = node.affixes }

abbrev pub use_by : ℕ → List ℕ → PlanNode → pages_spec.Use
use_by at name node = record { id = id_by name node; node = at }

abbrev pub key_of : PageId → PageKey
key_of id = record { doc = id.doc; scope = id.scope; filters = id.filters; affixes = texts_of id.affixes }

-- the order of keys
abbrev pub order : PageKey → PageKey → Ordering
order a b = ordering_then (slice_cmp nat_cmp a.doc b.doc) (ordering_then (nat_cmp a.scope b.scope)
    (ordering_then (slice_cmp (slice_cmp nat_cmp) a.filters b.filters)
    (slice_cmp (slice_cmp nat_cmp) a.affixes b.affixes)))

abbrev pub is_used : List pages_spec.Use → PageId → Bool
is_used uses id = list_any (λ (page : pages_spec.Use). is_same_page page.id id) uses

-- one more, unless one like it is there
abbrev pub with_use : List pages_spec.Use → pages_spec.Use → List pages_spec.Use
with_use uses page = if is_used uses page.id then uses else uses ++ page ∷ []

pub record AreFirst (uses : List pages_spec.Use) (made : PageUses) : Type 0 where
  pub are : uses_shown made.uses.items ≡ uses
  pub seen : (id : PageId) → list_any (is_at (order (key_of id))) made.seen.keys ≡ is_used uses id
