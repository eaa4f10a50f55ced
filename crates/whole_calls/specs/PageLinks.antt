-- The links of one page alone (DITA 1.3, "Relationship tables in DITA maps", "The @collection-type attribute"), with the
-- faults that were met.
use Rattle.std.specs.Prelude.{◌≡◌, ℕ, []}
use Rattle.dita_doc.specs.declared.plan.Plan.{Plan}
use Rattle.link_spec.specs.Links.{family_links, row_faults, row_links}
use Rattle.reader_spec.specs.World.{World}
use Rattle.whole_calls.specs.declared.page_links.LinksMade.{LinksMade}

-- the links of a page and the faults of all rows
pub record AreRowLinks (world : World) (plan : Plan) (page : ℕ) (made : LinksMade) : Type 0 where
  pub links : made.links ≡ row_links world plan page
  pub faults : made.faults ≡ row_faults plan

-- the links of a page by collections, without faults
pub record AreFamilyLinks (world : World) (plan : Plan) (page : ℕ) (made : LinksMade) : Type 0 where
  pub links : made.links ≡ family_links world plan page
  pub faults : made.faults ≡ []
