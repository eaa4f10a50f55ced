-- The links of a page before they are written (own): as `to_each_once` has them, with the set of the pages that they lead
-- to.
use Rattle.std.specs.Prelude.{◌≡◌, ◌==◌, ℕ, Bool, List, [], ◌++◌, Option, Some, None, map, option_map, slice_get, if◌then◌else◌}
use Rattle.std.specs.List.{filter_map, list_any}
use Rattle.std.specs.List.Sorted.{IsNonDecreasingBy, IsPermutation}
use Rattle.std.specs.Option.{option_to_list}
use Rattle.dita_doc.specs.declared.content.LinkKind.{LinkKind}
use Rattle.dita_doc.specs.declared.content.PageLink.{PageLink}
use Rattle.dita_doc.specs.declared.plan.PagePlan.{PagePlan}
use Rattle.href_text.specs.Joined.{relative_path}
use Rattle.link_groups.specs.PageMarks.{has_mark}
use Rattle.link_groups.specs.declared.link_list.LinkList.{LinkList}
use Rattle.link_groups.specs.declared.link_list.LinkTo as declared
use Rattle.link_groups.specs.declared.link_nodes.LinkNode.{LinkNode}
use Rattle.map_spec.specs.Titles.{title_in}
use Rattle.link_spec.specs.Links.{LinkTo, to_each_once}
use Rattle.reader_spec.specs.World.{World}

abbrev pub Links : Type 0
Links = List LinkTo

abbrev pub link_shown : declared.LinkTo → LinkTo
link_shown link = record { kind = link.kind; page = link.page }

abbrev pub leads_to : ℕ → LinkTo → Bool
leads_to page link = link.page == page

-- the list of a page holds these links, to each page once
pub record HoldsLinks (own : ℕ) (all : List LinkTo) (list : LinkList) : Type 0 where
  pub page : list.page ≡ own
  pub are : map link_shown list.links.items ≡ to_each_once all
  pub seen : (other : ℕ) → has_mark other list.seen ≡ list_any (leads_to other) all

-- a link to a page, unless it is the list's own
abbrev pub link_beside : ℕ → LinkKind → ℕ → Option LinkTo
link_beside own kind other = if other == own then None else Some (record { kind = kind; page = other })

-- one link more
abbrev pub with_link : ℕ → List LinkTo → LinkKind → ℕ → List LinkTo
with_link own all kind other = all ++ option_to_list (link_beside own kind other)

-- links to the pages of nodes
abbrev pub links_to_nodes : ℕ → LinkKind → List LinkNode → List LinkTo
links_to_nodes own kind nodes = filter_map (λ (node : LinkNode). link_beside own kind node.page) nodes

-- links to the pages of these nodes were appended, in the order in which the nodes stand
pub record AppendsLinks (own : ℕ) (all : List LinkTo) (kind : LinkKind) (nodes : List LinkNode) (list : LinkList)
    : Type 0 where
  pub ordered : List LinkNode
  pub permuted : IsPermutation nodes ordered
  pub sorted : IsNonDecreasingBy (λ (node : LinkNode). node.at) ordered
  pub holds : HoldsLinks own (all ++ links_to_nodes own kind ordered) list

-- a link as it is written, if its page is one of these
abbrev pub page_link_to : World → LinkKind → PagePlan → PagePlan → PageLink
page_link_to world kind own other = record {
  kind = kind;
  href = relative_path own.name other.name;
  label = title_in world other.id.doc [];
}

abbrev pub page_link_in : World → List PagePlan → PagePlan → LinkTo → Option PageLink
page_link_in world pages own link = option_map (page_link_to world link.kind own) (slice_get pages link.page)
