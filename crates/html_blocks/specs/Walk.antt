-- What the siblings and the elements of a walk are, and where they stand.
use Rattle.std.specs.Prelude.{◌≡◌, ◌+◌, ℕ, Bool, true, false, List}
use Rattle.dita_doc.specs.Siblings.{doc_of_siblings}
use Rattle.dita_doc.specs.declared.content.Anchor.{Anchor}
use Rattle.dita_doc.specs.declared.fact.Html.{Html}
use Rattle.dita_doc.specs.declared.siblings.Siblings.{Siblings}
use Rattle.html_blocks.specs.Shown.{around_shown, counted}
use Rattle.html_blocks.specs.declared.context.HtmlContext.{HtmlContext}
use Rattle.html_blocks.specs.declared.element.Element.{Element}
use Rattle.html_blocks.specs.declared.mark.Marks.{Marks}
use Rattle.html_blocks.specs.declared.overlay.Overlay.{Overlay}
use Rattle.html_tables.specs.Walk.{IsContext, content_named, element_named}
use Rattle.html_tables.specs.declared.groups.Groups.{Groups}
use Rattle.map_spec.specs.Written as written
use Rattle.map_spec.specs.Written.{Written}
use Rattle.html_spec.specs.Blocks as blocks
use Rattle.html_spec.specs.Blocks.{element_shown, shown_from}

-- the names of the documents in which the nodes of a document were written
abbrev pub origins_of : Siblings → List (List ℕ)
origins_of siblings = (doc_of_siblings siblings).origins

abbrev pub content_of : Siblings → Written
content_of siblings = content_named (origins_of siblings) siblings

abbrev pub element_of : Element → written.Element
element_of element = element_named (origins_of element.inside) element.node.now

abbrev pub inside_of : Element → Written
inside_of element = content_of element.inside

abbrev pub is_empty : Written → Bool
is_empty written.End = true
is_empty (written.Chars text doc rest) = false
is_empty (written.Node element inside rest) = false

-- where an element stands, as the definition has it; a depth has 32 bits at most
pub record IsWithin (groups : Groups) (context : HtmlContext) (around : blocks.HtmlContext) : Type 0 where
  pub topic : context.topic.now ≡ around.topic
  pub depth : context.depth ≡ counted around.depth
  pub nearest : around_shown context.around ≡ around.around
  pub tables : IsContext groups context.tables around

-- anchors and marks, as the definition has them
abbrev pub overlaid : List Anchor → Marks → blocks.Overlay
overlaid anchors marks = record { anchors = anchors; marks = marks.marks.now }

abbrev pub overlay_of : Overlay → blocks.Overlay
overlay_of overlay = overlaid overlay.links.anchors.now overlay.marks

-- what an element holds, as it is shown where it stands then
abbrev pub content_shown : blocks.Overlay → Element → blocks.HtmlContext → Html
content_shown overlay element within = shown_from within overlay (element.place + 1) (inside_of element)

-- an element as it is shown with what it holds
abbrev pub whole_shown : blocks.HtmlContext → blocks.Overlay → Element → Html
whole_shown around overlay element = element_shown around overlay element.place (element_of element)
    (inside_of element) (content_shown overlay element)
