-- The links of a page by collections and by relationship tables are those of the four kinds.
use Rattle.std.specs.Prelude.{◌≡◌, ℕ, List, [], ◌∷◌, ◌++◌}
use Rattle.std.specs.List.{flat_map}
use Rattle.std.proofs.Common.{sym, ap, ◌∙◌, append-nil}
use Rattle.std.proofs.lemmas.Grind.{flat_map-append}
use Rattle.dita_doc.specs.declared.content.LinkKind.TheVariants as links
use Rattle.dita_doc.specs.declared.plan.Plan.{Plan}
use Rattle.family_links.specs.Collected.{links_by_collections}
use Rattle.node_links.specs.NodeTable.{links_by_nodes}
use Rattle.link_spec.specs.Links.{links_of_kind}
use Rattle.reader_spec.specs.World.{World}

pub both_are : (world : World) (plan : Plan) (page : ℕ)
    → links_by_collections world plan page ++ links_of_kind world plan page links.Related
    ≡ links_by_nodes world plan page
both_are world plan page =
    ap (λ l. links_by_collections world plan page ++ l) (sym (append-nil (links_of_kind world plan page links.Related)))
    ∙ sym (flat_map-append (links_of_kind world plan page) (links.Previous ∷ links.Next ∷ links.Sibling ∷ [])
    (links.Related ∷ []))
