-- What pages link to by families (own; DITA 1.3, "The @collection-type attribute").
use Rattle.std.specs.Prelude.{◌≡◌, ◌<◌, ◌==◌, ◌&&◌, ◌++◌, ℕ, Bool, not, List, [], ◌∷◌, codes, filter, length, slice_get, if◌then◌else◌}
use Rattle.std.specs.BTreeSet.{BTreeSet, contains}
use Rattle.std.specs.List.{flat_map, list_any}
use Rattle.std.specs.Option.{option_map_or}
use Rattle.std.specs.Ordering.{nat_cmp}
use Rattle.std.specs.declared.alloc.Global.{Global}
use Rattle.std.specs.declared.vec.Vec.{Vec}
use Rattle.dita_doc.specs.declared.content.LinkKind.TheVariants as links
use Rattle.dita_doc.specs.declared.plan.Plan.{Plan}
use Rattle.link_groups.specs.declared.link_nodes.LinkNode.{LinkNode}
use Rattle.link_spec.specs.Links.{LinkTo, links_of_kind}
use Rattle.reader_spec.specs.World.{World}
use Rattle.family_links.specs.Grouped.{groups}
use Rattle.family_links.specs.Lists.{listed}
use Rattle.family_links.specs.declared.families.Families.{Families}

-- the first node of each page that may be linked to
abbrev pub first_targets : List LinkNode → List LinkNode
first_targets [] = []
first_targets (node ∷ more) = if node.is_target
    then node ∷ filter (λ (other : LinkNode). not (other.page == node.page)) (first_targets more)
    else first_targets more

-- links may go from one of the nodes' pages, this one
abbrev pub is_linking : ℕ → List LinkNode → Bool
is_linking page nodes = list_any (λ (node : LinkNode). (page == node.page) && node.is_source) nodes

-- the place of a family, if the page may link in it
abbrev pub if_linking : ℕ → List LinkNode → ℕ → List ℕ
if_linking page nodes place = if is_linking page nodes then place ∷ [] else []

-- what a page may link to in a family, its own nodes among it
abbrev pub siblings_of : ℕ → List LinkNode → List LinkNode
siblings_of page nodes = if is_linking page nodes then first_targets nodes else []

abbrev pub targets_at : List (Vec LinkNode Global) → ℕ → List LinkNode
targets_at targets place = option_map_or (λ (nodes : Vec LinkNode Global). nodes.items) (slice_get targets place) []

abbrev pub targets_from : ℕ → Families → List LinkNode
targets_from page families = flat_map (targets_at families.targets.items) (listed page families.of_pages.entries)

abbrev pub AreBelow : ℕ → List ℕ → Type 0
AreBelow count [] = Unit {0}
AreBelow count (place ∷ places) = (place < count) × AreBelow count places

pub record AreFamilies (groups : List (List LinkNode)) (families : Families) : Type 0 where
  pub within : (page : ℕ) → AreBelow (length families.targets.items) (listed page families.of_pages.entries)
  pub are : (page : ℕ) → targets_from page families ≡ flat_map (siblings_of page) groups

abbrev pub AreFamiliesOf : World → Plan → Families → Type 0
AreFamiliesOf world plan families = AreFamilies (groups world plan (codes "family")) families

abbrev pub links_to_siblings : World → Plan → ℕ → List LinkTo
links_to_siblings world plan page = links_of_kind world plan page links.Sibling

-- Node by node

-- a page has a node among these
abbrev pub has_page : List LinkNode → ℕ → Bool
has_page nodes page = list_any (λ (node : LinkNode). page == node.page) nodes

-- a set has the pages of the nodes that were found
pub record AreFound (found : List LinkNode) (linked : BTreeSet ℕ) : Type 0 where
  pub each : (page : ℕ) → contains nat_cmp linked page ≡ has_page found page

abbrev pub with_target : List LinkNode → LinkNode → List LinkNode
with_target found node = if node.is_target && not (has_page found node.page) then found ++ node ∷ [] else found

pub record IsTargetPut (old : List LinkNode) (node : LinkNode) (new : List LinkNode)
    (linked : BTreeSet ℕ) : Type 0 where
  pub is : new ≡ with_target old node
  pub found : AreFound new linked

-- a set has the pages that may link
pub record ArePages (nodes : List LinkNode) (linking : BTreeSet ℕ) : Type 0 where
  pub each : (page : ℕ) → contains nat_cmp linking page ≡ is_linking page nodes

-- behind what was listed before the first of the nodes stands the family, if the page may link
pub record IsPagePut (nodes : List LinkNode) (node : LinkNode) (place : ℕ) (linking : BTreeSet ℕ)
    (old new : List (ℕ × Vec ℕ Global)) : Type 0 where
  pub pages : ArePages (nodes ++ node ∷ []) linking
  pub listed_so : (page : ℕ) (before : List ℕ) → listed page old ≡ before ++ if_linking page nodes place
      → listed page new ≡ before ++ if_linking page (nodes ++ node ∷ []) place
