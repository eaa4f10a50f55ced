-- The nodes to which a page is linked (own), by the cells and the nodes that are kept.
use Rattle.std.specs.Prelude.{◌==◌, ◌&&◌, ℕ, Bool, List, [], ◌∷◌, filter, if◌then◌else◌}
use Rattle.std.specs.List.{list_any}
use Rattle.link_groups.specs.declared.link_nodes.LinkNode.{LinkNode}
use Rattle.reltable_links.specs.CellTable.{contains, relates}
use Rattle.reltable_links.specs.declared.cells.RowCell.{RowCell}

-- links may go from the page by this node
abbrev pub is_from : ℕ → LinkNode → Bool
is_from page node = (node.page == page) && node.is_source

-- a node of the page stands below a cell that is related to this one
abbrev pub links_into : ℕ → List RowCell → List LinkNode → RowCell → Bool
links_into page cells nodes cell = list_any (λ (node : LinkNode).
    is_from page node && list_any (λ (own : RowCell). contains node.at own && relates own cell) cells) nodes

-- a place below such a cell
abbrev pub is_linked_at : ℕ → List RowCell → List LinkNode → ℕ → Bool
is_linked_at page cells nodes at =
    list_any (λ (cell : RowCell). links_into page cells nodes cell && contains at cell) cells

abbrev pub is_linked_node : ℕ → List RowCell → List LinkNode → LinkNode → Bool
is_linked_node page cells nodes node = node.is_target && is_linked_at page cells nodes node.at

abbrev pub linked_nodes : ℕ → List RowCell → List LinkNode → List LinkNode
linked_nodes page cells nodes = filter (is_linked_node page cells nodes) nodes

-- a node may be linked to
abbrev pub is_target : LinkNode → Bool
is_target node = node.is_target

abbrev pub if_target : LinkNode → List LinkNode
if_target node = if node.is_target then node ∷ [] else []

-- and stands below one of some cells
abbrev pub is_target_below : List RowCell → LinkNode → Bool
is_target_below cells node = node.is_target && list_any (contains node.at) cells
