-- The cells that a page reaches, and links to the nodes below them.
use Rattle.std.specs.Prelude.{◌≡◌, ◌+◌, ◌<◌, ◌==◌, ◌&&◌, ◌||◌, ℕ, Bool, true, false, not, List, ◌++◌, filter, length, nat_lt, take}
use Rattle.std.specs.List.{list_any}
use Rattle.std.specs.List.Sorted.{IsNonDecreasingBy, IsPermutation}
use Rattle.std.proofs.Common.{refl, sym, ap, subst, ◌∙◌, append_assoc, get_or}
use Rattle.std.proofs.lemmas.List.Elements.{filter_agree, filter_map-append}
use Rattle.std.proofs.lemmas.List.Sorted.{list_any-IsPermutation}
use Rattle.dita_doc.specs.declared.content.LinkKind.TheVariants as links
use Rattle.dita_doc.proofs.Lists.{any_swap}
use Rattle.link_groups.specs.LinkLists.{HoldsLinks, link_beside, links_to_nodes}
use Rattle.link_groups.specs.declared.link_list.LinkList.{LinkList}
use Rattle.link_groups.specs.declared.link_nodes.LinkNode.{LinkNode}
use Rattle.link_groups.proofs.OnceLaws.{filter_both, filter_twice}
use Rattle.link_spec.specs.Links.{LinkTo}
use Rattle.reltable_links.specs.Below.{ends_behind_one, is_below_one, new_below}
use Rattle.reltable_links.specs.CellTable.{contains}
use Rattle.reltable_links.specs.Linked.{is_linked_node, is_target, is_target_below, linked_nodes, links_into}
use Rattle.reltable_links.specs.Standings.{AreStandings, is_in, listed, reached, reaches}
use Rattle.reltable_links.specs.declared.cells.RowCell.{RowCell}
use Rattle.reltable_links.specs.declared.standings.RowStanding.{RowStanding}
use Rattle.reltable_links.specs.declared.standings.Standings.{Standings}
use Rattle.reltable_links.proofs.BelowLaws.{below_more}
use Rattle.reltable_links.proofs.ListLaws.{any_filter}
use Rattle.reltable_links.proofs.StandingLaws.{any_back}

-- Links to the nodes below one cell more

module _ (own : ℕ) (all : List LinkTo) (cells : List RowCell) (nodes : List LinkNode) (index : ℕ) (d : RowCell)
    (done : ℕ)
    (within : index < length cells) (ends : (at : ℕ) → nat_lt at done ≡ ends_behind_one (take index cells) at)
    (order : IsNonDecreasingBy (λ (c : RowCell). c.at) cells)
    (rising : IsNonDecreasingBy (λ (node : LinkNode). node.at) nodes) where
  targets_are : (some : List RowCell) → filter is_target (filter (λ (node : LinkNode). is_below_one some node.at) nodes)
      ≡ filter (is_target_below some) nodes
  targets_are some = filter_twice is_target (λ (node : LinkNode). is_below_one some node.at) (is_target_below some)
      (λ node. refl) nodes

  more_targets : filter (is_target_below (take index cells)) nodes
      ++ filter is_target (new_below (λ (node : LinkNode). node.at) (get_or cells index d) done nodes)
      ≡ filter (is_target_below (take (index + 1) cells)) nodes
  more_targets =
      ap (λ l. l ++ filter is_target (new_below (λ (node : LinkNode). node.at) (get_or cells index d) done nodes))
      (sym (targets_are (take index cells)))
      ∙ sym (filter_both is_target (filter (λ (node : LinkNode). is_below_one (take index cells) node.at) nodes)
      (new_below (λ (node : LinkNode). node.at) (get_or cells index d) done nodes))
      ∙ ap (filter is_target) (sym (below_more cells index d done within ends order (λ (node : LinkNode). node.at) nodes
      rising))
      ∙ targets_are (take (index + 1) cells)

  pub targets_more : (list : LinkList)
      → HoldsLinks own ((all ++ links_to_nodes own links.Related (filter (is_target_below (take index cells)) nodes))
      ++ links_to_nodes own links.Related (filter is_target
      (new_below (λ (node : LinkNode). node.at) (get_or cells index d) done nodes))) list
      → HoldsLinks own (all ++ links_to_nodes own links.Related
      (filter (is_target_below (take (index + 1) cells)) nodes)) list
  targets_more list holds =
      let some = filter (is_target_below (take index cells)) nodes in
      let more = filter is_target (new_below (λ (node : LinkNode). node.at) (get_or cells index d) done nodes) in
      subst (λ l. HoldsLinks own l list) (
      append_assoc all (links_to_nodes own links.Related some) (links_to_nodes own links.Related more)
      ∙ ap (λ l. all ++ l) (
      sym (filter_map-append (λ (n : LinkNode). link_beside own links.Related n.page) some more)
      ∙ ap (links_to_nodes own links.Related) more_targets)) holds

-- The cells that a page reaches

module _ (cells : List RowCell) (nodes : List LinkNode) (standings : Standings)
    (are : AreStandings cells nodes standings)
    (page : ℕ) where
  reached_in : (test : RowCell → Bool) (standing : RowStanding)
      → reached test standings.rows.entries standing
      ≡ list_any (λ (cell : RowCell). reaches cell standing && test cell) cells
  reached_in test standing =
      ap (list_any (λ (cell : RowCell). reaches cell standing && test cell)) (are.rows standing.row)
      ∙ any_filter (is_in standing.row) (λ (cell : RowCell). reaches cell standing && test cell) cells
      ∙ (λ i. list_any (λ (cell : RowCell). again (standing.row == cell.row)
      (standing.is_several || (not (standing.cell == cell.at) || cell.is_family)) (test cell) i) cells)
    where
      again : (a b c : Bool) → (a && ((a && b) && c)) ≡ ((a && b) && c)
      again true b c = refl
      again false b c = refl

  pub reached_are : (test : RowCell → Bool)
      → list_any (reached test standings.rows.entries) (listed page standings.pages.entries)
      ≡ list_any (λ (cell : RowCell). links_into page cells nodes cell && test cell) cells
  reached_are test =
      (λ i. list_any (λ (standing : RowStanding). reached_in test standing i) (listed page standings.pages.entries))
      ∙ any_swap (λ (standing : RowStanding) (cell : RowCell). reaches cell standing && test cell)
      (listed page standings.pages.entries) cells
      ∙ (λ i. list_any (λ (cell : RowCell).
      any_back (test cell) (reaches cell) (listed page standings.pages.entries) i) cells)
      ∙ (λ i. list_any (λ (cell : RowCell). are.pages page cell i && test cell) cells)

  -- the nodes below them are those to which the page is linked
  pub linked_are : (linked ordered : List RowCell) → IsPermutation linked ordered
      → ((test : RowCell → Bool) → list_any test linked
      ≡ list_any (reached test standings.rows.entries) (listed page standings.pages.entries))
      → filter (is_target_below ordered) nodes ≡ linked_nodes page cells nodes
  linked_are linked ordered permuted reach =
      filter_agree (is_target_below ordered) (is_linked_node page cells nodes) (λ node. ap (λ b. node.is_target && b) (
      sym (list_any-IsPermutation (contains node.at) linked ordered permuted)
      ∙ reach (contains node.at) ∙ reached_are (contains node.at))) nodes
