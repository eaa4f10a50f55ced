-- Where the elements of a body are read (own): in a world, on the page of a plan that a context names.
use Rattle.std.specs.Prelude.{◌≡◌, ℕ, Some, slice_get}
use Rattle.dita_doc.specs.declared.plan.Context.{Context}
use Rattle.dita_doc.specs.declared.plan.PagePlan.{PagePlan}
use Rattle.dita_doc.specs.declared.plan.Plan.{Plan}
use Rattle.map_spec.specs.Keys.{key_answer}
use Rattle.map_spec.specs.Pages.{page_for}
use Rattle.map_spec.specs.Written.{Written}
use Rattle.html_spec.specs.Anchors.{Here, anchor_faults, anchors, element_links}
use Rattle.reader_spec.specs.World.{World}
use Rattle.readers.specs.Setting.{Setting}
use Rattle.xref_links.specs.declared.made.AnchorsMade.{AnchorsMade}

abbrev pub here_of : World → Plan → PagePlan → ℕ → Here
here_of world plan page number = record {
  world = world;
  pages = plan.pages;
  page = page;
  number = number;
  key = key_answer world plan.nodes page.id.scope;
}

-- a reader was made for a plan
pub record IsMadeFor (setting : Setting) (plan : Plan) : Type 0 where
  pub nodes : setting.nodes ≡ plan.nodes
  pub pages : setting.pages ≡ plan.pages

-- a context is that of a plan's page, which is the first of its document for the context
pub record IsPageOf (plan : Plan) (context : Context) (page : PagePlan) (number : ℕ) : Type 0 where
  pub there : slice_get plan.pages number ≡ Some page
  pub first : page_for plan.pages context.page.doc context.page ≡ Some number
  pub id : page.id ≡ context.page
  pub name : page.name ≡ context.name

-- what the elements of some content add to a page
pub record AreMade (here : Here) (nodes : Written) (made : AnchorsMade) : Type 0 where
  pub anchors : made.anchors ≡ anchors here nodes
  pub links : made.links ≡ element_links here nodes
  pub faults : made.faults ≡ anchor_faults here nodes
