-- In which document an href was written does not matter to what is shown.
use Rattle.std.specs.Prelude.{◌≡◌, ◌+◌, ◌++◌, ℕ, false, List, [], Option, Some, None, codes, unwrap_or, if◌then◌else◌}
use Rattle.std.proofs.Common.{refl, sym, ap, ◌∙◌}
use Rattle.std.proofs.Math.Path.{fun_ext}
use Rattle.dita_doc.specs.HtmlEscapes.{escaped}
use Rattle.dita_doc.specs.declared.content.Anchor.{Anchor}
use Rattle.dita_doc.specs.declared.content.Mark.{Mark}
use Rattle.dita_doc.specs.declared.content.Resolved.{Resolved}
use Rattle.dita_doc.specs.declared.fact.Html.{Html}
use Rattle.doc_elements.proofs.BareLaws.{bare, bare_element, text_same}
use Rattle.html_blocks.proofs.BareLaws.{columns_same}
use Rattle.map_spec.specs.Elements.{attribute, class_faults, has_types}
use Rattle.map_spec.specs.Written.{Element, Written, End, Chars, Node, size}
use Rattle.html_spec.specs.Blocks as blocks
use Rattle.html_spec.specs.Blocks.{HtmlContext, Form, Overlay, alt_of, attribute_text, body_html, class_at, columns_in, content_or_label, element_shown, form_shown, href_at, linked_at, outside, row_for, row_shown, shown, shown_beside, shown_from, shown_with, start_of, within_type}
use Rattle.html_spec.specs.Tables.{is_column_group}
use Rattle.readers.specs.Named.{AreNodesOf, named_tree, with_own_hrefs}

own_bare : (nodes : Written) → bare (with_own_hrefs nodes) ≡ bare nodes
own_bare End = refl
own_bare (Chars text doc rest) = ap (Chars text []) (own_bare rest)
own_bare (Node element inside rest) =
    ap (λ held. Node (bare_element element) held (bare (with_own_hrefs rest))) (own_bare inside)
    ∙ ap (Node (bare_element element) (bare inside)) (own_bare rest)

own_size : (nodes : Written) → size (with_own_hrefs nodes) ≡ size nodes
own_size End = refl
own_size (Chars text doc rest) = ap (λ n. 1 + n) (own_size rest)
own_size (Node element inside rest) =
    ap (λ n. 1 + (n + size (with_own_hrefs rest))) (own_size inside)
    ∙ ap (λ n. 1 + (size inside + n)) (own_size rest)

-- content, or the label in its place
own_label : (anchors : List Anchor) (place : ℕ) (inside : Written) (content : Html)
    → content_or_label anchors place (with_own_hrefs inside) content ≡ content_or_label anchors place inside content
own_label anchors place End content = refl
own_label anchors place (Chars text doc rest) content = refl
own_label anchors place (Node element inside rest) content = refl

own_columns : (element : Element) (inside : Written) (around : HtmlContext)
    → columns_in element (with_own_hrefs inside) around ≡ columns_in element inside around
own_columns element inside around =
    ap (λ names. if is_column_group element then record around { columns = names } else around)
    (columns_same (with_own_hrefs inside) inside (own_bare inside))

own_alt : (element : Element) (inside : Written) → alt_of element (with_own_hrefs inside) ≡ alt_of element inside
own_alt element inside = ap (λ text. unwrap_or (attribute (codes "alt") element) text)
    (text_same (codes "topic/alt") (with_own_hrefs inside) inside (own_bare inside))

module _ (around : HtmlContext) (overlay : Overlay) (place : ℕ) (element : Element) (inside : Written)
    (content : HtmlContext → Html) where
  held_same : (context : HtmlContext)
      → content_or_label overlay.anchors place (with_own_hrefs inside)
      (content (columns_in element (with_own_hrefs inside) context))
      ≡ content_or_label overlay.anchors place inside (content (columns_in element inside context))
  held_same context =
      own_label overlay.anchors place inside (content (columns_in element (with_own_hrefs inside) context))
      ∙ ap (λ within. content_or_label overlay.anchors place inside (content within))
      (own_columns element inside context)

  form_same : (held : Html) (form : Form)
      → form_shown around overlay place element (with_own_hrefs inside) held form
      ≡ form_shown around overlay place element inside held form
  form_same held (blocks.Tag name class) = refl
  form_same held blocks.Topic = refl
  form_same held blocks.Title = refl
  form_same held blocks.Note = refl
  form_same held blocks.Reference = refl
  form_same held blocks.Image = ap (λ alt. shown (start_of around false element (codes "img")
      (class_at overlay place [])
      (attribute_text (codes "src") (Some (unwrap_or (href_at overlay.anchors place) []))
      ++ attribute_text (codes "alt") (Some alt)))) (own_alt element inside)
  form_same held blocks.Cell = refl
  form_same held blocks.SimpleCell = refl
  form_same held blocks.Left = refl
  form_same held blocks.Foreign = refl

  row_same : (row : Option (List ℕ × Form))
      → row_shown around overlay place element (with_own_hrefs inside) content row
      ≡ row_shown around overlay place element inside content row
  row_same None = ap (linked_at overlay.anchors place) (held_same around)
  row_same (Some row) =
      form_same (content_or_label overlay.anchors place (with_own_hrefs inside)
      (content (columns_in element (with_own_hrefs inside) (within_type row.0 element around)))) row.1
      ∙ ap (λ held. form_shown around overlay place element inside held row.1)
      (held_same (within_type row.0 element around))

  inside_same : element_shown around overlay place element (with_own_hrefs inside) content
      ≡ element_shown around overlay place element inside content
  inside_same = ap (λ html. if has_types element then html else shown_with (class_faults element) (content around))
      (row_same (row_for element))

  -- nor does it to the element itself
  element_same : element_shown around overlay place (record element { href_doc = element.doc })
      (with_own_hrefs inside) content
      ≡ element_shown around overlay place element inside content
  element_same = inside_same

own_shown : (overlay : Overlay) (nodes : Written) (around : HtmlContext) (place : ℕ)
    → shown_from around overlay place (with_own_hrefs nodes) ≡ shown_from around overlay place nodes
own_shown overlay End around place = refl
own_shown overlay (Chars text doc rest) around place =
    ap (shown_beside (shown (escaped text))) (own_shown overlay rest around (place + 1))
own_shown overlay (Node element inside rest) around place =
    let own : Element = record element { href_doc = element.doc } in
    let held = with_own_hrefs inside in
    let behind = shown_from around overlay (place + 1 + size held) (with_own_hrefs rest) in
    ap (λ content. shown_beside (element_shown around overlay place own held content) behind)
    (fun_ext (λ within. own_shown overlay inside within (place + 1)))
    ∙ ap (λ html. shown_beside html behind)
    (element_same around overlay place element inside (λ within. shown_from within overlay (place + 1) inside))
    ∙ ap (λ n. shown_beside (element_shown around overlay place element inside
    (λ within. shown_from within overlay (place + 1) inside))
    (shown_from around overlay (place + 1 + n) (with_own_hrefs rest))) (own_size inside)
    ∙ ap (shown_beside (element_shown around overlay place element inside
    (λ within. shown_from within overlay (place + 1) inside)))
    (own_shown overlay rest around (place + 1 + size inside))

pub overlays : (one other : Overlay) → one.anchors ≡ other.anchors → one.marks ≡ other.marks → one ≡ other
overlays one other anchors marks =
    ap (λ (some : List Anchor). record one { anchors = some }) anchors
    ∙ ap (λ (some : List Mark). record other { marks = some }) marks

-- what is shown of a body is shown of each content that is its own
pub body_shown : (body : Resolved) (nodes : Written) (anchors : List Anchor) (marks : List Mark) (html : Html)
    → AreNodesOf body nodes
    → html ≡ shown_from outside (record { anchors = anchors; marks = marks }) 0 (named_tree body.doc)
    → html ≡ body_html anchors marks nodes
unfolding body_html
body_shown body nodes anchors marks html are is =
    let overlay : Overlay = record { anchors = anchors; marks = marks } in
    is ∙ ap (shown_from outside overlay 0) (sym are) ∙ own_shown overlay nodes outside 0
