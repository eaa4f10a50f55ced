-- The collections of a plan, by the pages that link in them, and the links that they give (own).
use Rattle.std.specs.Prelude.{◌≡◌, ◌++◌, ℕ, zero, suc, Bool, true, false, List, [], ◌∷◌, Option, Some, None, codes, length, if◌then◌else◌}
use Rattle.std.specs.List.{flat_map}
use Rattle.std.specs.declared.alloc.Global.{Global}
use Rattle.std.specs.declared.vec.Vec.{Vec}
use Rattle.dita_doc.specs.declared.content.LinkKind.TheVariants as links
use Rattle.dita_doc.specs.declared.plan.PagePlan.{PagePlan}
use Rattle.dita_doc.specs.declared.plan.Plan.{Plan}
use Rattle.link_groups.specs.LinkNodes.{AreLinkNodes}
use Rattle.link_groups.specs.declared.link_nodes.LinkNode.{LinkNode}
use Rattle.link_groups.specs.declared.link_nodes.LinkNodes.{LinkNodes}
use Rattle.link_spec.specs.Links.{LinkTo, links_of_kind}
use Rattle.plan_nodes.specs.Carried.{CarryValues}
use Rattle.plan_nodes.specs.Preorder.{HasParentsBefore}
use Rattle.reader_spec.specs.World.{World}
use Rattle.family_links.specs.Families.{AreFamilies}
use Rattle.family_links.specs.Grouped.{groups, kind_in}
use Rattle.family_links.specs.Lists.{listed}
use Rattle.family_links.specs.Sequenced.{AreSequences}
use Rattle.family_links.specs.declared.groups.GroupKind.{GroupKind}
use Rattle.family_links.specs.declared.groups.GroupKind.TheVariants.{Sequence, Family}
use Rattle.family_links.specs.declared.table.Collections.{Collections}

-- a plan whose pages the reader knows, and whose nodes carry their values and stand behind their parents
pub record IsReady (world : World) (plan : Plan) (known : List PagePlan) : Type 0 where
  pub pages : known ≡ plan.pages
  pub values : CarryValues world plan.nodes
  pub before : HasParentsBefore plan.nodes

-- these are the sequences and the families
pub record IsMade (ordered others : List (List LinkNode)) (made : Collections) : Type 0 where
  pub sequences : AreSequences ordered made.sequences
  pub families : AreFamilies others made.families

-- those of a plan
abbrev pub IsCollectionsOf : World → Plan → Collections → Type 0
IsCollectionsOf world plan made =
    IsMade (groups world plan (codes "sequence")) (groups world plan (codes "family")) made

pub record AreCollected (world : World) (plan : Plan) (made : Collections) (nodes : LinkNodes) : Type 0 where
  pub are : IsCollectionsOf world plan made
  pub kept : AreLinkNodes world plan nodes

-- By children and kinds

abbrev pub is_kind : GroupKind → GroupKind → Bool
is_kind Sequence Sequence = true
is_kind Family Family = true
is_kind _ _ = false

-- the children of a node, if they are a collection of this kind
abbrev pub group_of : GroupKind → Option GroupKind → List (ℕ × Vec LinkNode Global) → ℕ → List (List LinkNode)
group_of wanted None entries at = []
group_of wanted (Some kind) entries at = if is_kind wanted kind then listed at entries ∷ [] else []

-- of the first nodes
abbrev pub groups_of : GroupKind → List (Option GroupKind) → List (ℕ × Vec LinkNode Global) → ℕ → List (List LinkNode)
groups_of wanted kinds entries zero = []
groups_of wanted kinds entries (suc at) =
    groups_of wanted kinds entries at ++ group_of wanted (kind_in kinds at) entries at

abbrev pub sequences_of : List (Option GroupKind) → List (ℕ × Vec LinkNode Global) → List (List LinkNode)
sequences_of kinds entries = groups_of Sequence kinds entries (length kinds)

abbrev pub families_of : List (Option GroupKind) → List (ℕ × Vec LinkNode Global) → List (List LinkNode)
families_of kinds entries = groups_of Family kinds entries (length kinds)

-- one node more
pub record IsMadeMore (kind : Option GroupKind) (entries : List (ℕ × Vec LinkNode Global)) (at : ℕ)
    (old new : Collections)
    : Type 0 where
  pub more : (ordered others : List (List LinkNode)) → IsMade ordered others old
      → IsMade (ordered ++ group_of Sequence kind entries at) (others ++ group_of Family kind entries at) new

-- What they give

-- the links of a page by all collections
abbrev pub links_by_collections : World → Plan → ℕ → List LinkTo
links_by_collections world plan page =
    flat_map (links_of_kind world plan page) (links.Previous ∷ links.Next ∷ links.Sibling ∷ [])
