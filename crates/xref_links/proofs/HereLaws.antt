-- Where elements are read.
use Rattle.std.specs.Arc.{arc_value}
use Rattle.std.specs.Prelude.{◌≡◌, ℕ, []}
use Rattle.std.proofs.Common.{refl, sym, ap, subst, ◌∙◌}
use Rattle.dita_doc.specs.declared.doc.Node as doc
use Rattle.dita_doc.specs.declared.content.Resolved.{Resolved}
use Rattle.dita_doc.specs.declared.plan.PageId.{PageId}
use Rattle.dita_doc.specs.declared.plan.PagePlan.{PagePlan}
use Rattle.doc_elements.specs.Walk.{element_of}
use Rattle.map_spec.specs.Keys.{key_answer}
use Rattle.html_spec.specs.Anchors.{Here}
use Rattle.reader_spec.specs.World.{World}
use Rattle.readers.specs.Setting.{Stand}
use Rattle.xref_links.specs.Adding.{IsHere}
use Rattle.xref_links.specs.Body.{body_element}
use Rattle.xref_links.specs.Here.{IsMadeFor, IsPageOf, here_of}
use Rattle.xref_links.specs.Types.{AreTypes}
use Rattle.xref_links.specs.declared.page.PageRead.{PageRead}
use Rattle.xref_links.specs.declared.types.Types.{Types}

-- a reader that stands on the same is one for the same page
pub here_kept : (old new : Stand) (page : PageRead) (here : Here) → new ≡ old → IsHere old page here
    → IsHere new page here
here_kept old new page here same is = subst (λ (stand : Stand). IsHere stand page here) (sym same) is

-- the page of a plan
pub here_made : (stand : Stand) (page : PageRead) (world : World) (own : PagePlan) (number : ℕ)
    → IsMadeFor stand.setting page.plan.now → IsPageOf page.plan.now (arc_value page.context.now) own number
    → IsHere stand page (here_of world page.plan.now own number)
here_made stand page world own number made is = record {
  key = λ text.
      ap (λ nodes. key_answer world nodes (arc_value page.context.now).page.scope text) made.nodes
      ∙ ap (λ (id : PageId). key_answer world page.plan.now.nodes id.scope text) (sym is.id);
  pages = made.pages;
  plan = refl;
  there = is.there;
  first = is.first;
  id = is.id;
  name = is.name;
}

-- the types do not depend on the documents in which an element was written
pub types_at : (body : Resolved) (place : ℕ) (node : doc.Node) (types : Types) → AreTypes (element_of [] node) types
    → AreTypes (body_element body place node) types
types_at body place node types are = record {
  any = are.any;
  topic = are.topic;
  image = are.image;
  xref = are.xref;
  link = are.link;
}
