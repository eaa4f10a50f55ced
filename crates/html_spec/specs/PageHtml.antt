-- A page as a whole (own): its lines, its list of links, and its limit.
use Rattle.std.specs.Prelude.{ℕ, List, [], ◌∷◌, ◌++◌, length, nat_le, codes, if◌then◌else◌}
use Rattle.std.specs.List.{flat_map}
use Rattle.dita_doc.specs.HtmlEscapes.{escaped, escaped_value}
use Rattle.dita_doc.specs.Lines.{line}
use Rattle.dita_doc.specs.declared.content.LinkKind.{LinkKind}
use Rattle.dita_doc.specs.declared.content.LinkKind.TheVariants as links
use Rattle.dita_doc.specs.declared.content.PageLink.{PageLink}
use Rattle.dita_doc.specs.declared.fact.Html.{Html}
use Rattle.dita_doc.specs.declared.fault.Fault.{Fault}
use Rattle.dita_doc.specs.declared.fault.FaultCode.TheVariants as faults

abbrev pub kind_text : LinkKind → List ℕ
kind_text links.Previous = codes "previous"
kind_text links.Next = codes "next"
kind_text links.Sibling = codes "sibling"
kind_text links.Related = codes "related"

abbrev pub link_item : PageLink → List ℕ
link_item link =
    codes "<li class=\"" ++ kind_text link.kind ++ codes "\"><a href=\"" ++ escaped_value link.href
    ++ codes "\">" ++ escaped link.label ++ codes "</a></li>"

-- the line of the links, if there are any
abbrev pub related_line : List PageLink → List ℕ
related_line [] = []
related_line (link ∷ more) =
    line (codes "<nav class=\"related\"><ul>" ++ flat_map link_item (link ∷ more) ++ codes "</ul></nav>")

-- the lines of a page
abbrev pub page_text : (title body : List ℕ) → List PageLink → List ℕ
page_text title body related =
    line (codes "<!DOCTYPE html>")
    ++ line (codes "<html><head><meta charset=\"utf-8\"><title>" ++ escaped title ++ codes "</title></head>")
    ++ line (codes "<body>") ++ line body ++ related_line related ++ line (codes "</body></html>")

abbrev pub page_limit : ℕ
page_limit = 4194304

abbrev pub too_large : List ℕ → ℕ → Fault
too_large name line = record { name = name; line = line; code = faults.PageTooLarge; detail = [] }

-- a page that is too long has an empty body and no links, with a fault at its document's root
abbrev pub page_within : ℕ → (name : List ℕ) → (line : ℕ) → (title : List ℕ) → Html → List PageLink → Html
page_within limit name line title body related =
    let text = page_text title body.bytes related in
    if nat_le (length text) limit then record { bytes = text; faults = body.faults }
    else record { bytes = page_text title [] []; faults = body.faults ++ too_large name line ∷ [] }

abbrev pub page_html : (name : List ℕ) → (line : ℕ) → (title : List ℕ) → Html → List PageLink → Html
page_html name line title body related = page_within page_limit name line title body related
