-- The links of a page by the nodes of its plan: by collections, and then by relationship tables (DITA 1.3, "Relationship
-- tables in DITA maps", "The @collection-type attribute"). The order is our own.
use Rattle.std.specs.Prelude.{◌≡◌, ℕ, List, [], ◌∷◌}
use Rattle.std.specs.List.{flat_map}
use Rattle.dita_doc.specs.declared.content.LinkKind.TheVariants as links
use Rattle.dita_doc.specs.declared.content.PageLink.{PageLink}
use Rattle.dita_doc.specs.declared.plan.Plan.{Plan}
use Rattle.family_links.specs.Collected.{IsCollectionsOf}
use Rattle.node_links.specs.declared.table.NodeLinks.{NodeLinks}
use Rattle.link_spec.specs.Links.{LinkTo, links_of_kind, page_links}
use Rattle.reader_spec.specs.World.{World}
use Rattle.reltable_links.specs.RowTable.{AreRowsOf, cell_faults}

-- previous, next, sibling, related
abbrev pub links_by_nodes : World → Plan → ℕ → List LinkTo
links_by_nodes world plan page = flat_map (links_of_kind world plan page)
    (links.Previous ∷ links.Next ∷ links.Sibling ∷ links.Related ∷ [])

-- the links of a page, to each other page once
abbrev pub node_links : World → Plan → ℕ → List PageLink
node_links world plan page = page_links world plan page (links_by_nodes world plan page)

-- what is kept of a plan
pub record AreNodeLinks (world : World) (plan : Plan) (table : NodeLinks) : Type 0 where
  pub collections : IsCollectionsOf world plan table.collections
  pub rows : AreRowsOf world plan table.rows
  pub faults : table.faults ≡ cell_faults plan
