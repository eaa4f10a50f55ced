use Rattle.std.proofs.Common.{◌∙◌, ap}
use Rattle.dita_doc.specs.Siblings.{content}
use Rattle.dita_doc.specs.declared.doc.Doc.{Doc}
use Rattle.dita_doc.proofs.PlaceLaws.{root_fits}
use Rattle.html_blocks.specs.Walk.{content_of, overlay_of}
use Rattle.html_spec.specs.Blocks.{Overlay, outside, shown_from}
use Rattle.readers.specs.Named.{under_names, named_tree}
use Rattle.html_blocks.proofs.BodyLaws.{body_shown, overlays}
use Rattle.html_blocks.proofs.WayLaws.{html_all, more_as}
use Rattle.html_blocks.proofs.body.body_html.Goals as goal

pub append_siblings-requires : goal.append_siblings-requires
append_siblings-requires c =
    let doc = c.args.body.now.doc in
    root_fits doc.nodes _ doc.tree doc.small c.of-siblings.ensures.content

pub returns : goal.returns
returns c = λ nodes are.
    let body = c.args.body.now in
    let anchors = c.args.anchors.now in
    let marks = c.args.marks.now in
    let overlay : Overlay = record { anchors = anchors; marks = marks } in
    let siblings = c.of-siblings.result in
    let same = ap (λ (home : Doc). under_names home.origins (content siblings)) c.of-siblings.ensures.document
    ∙ ap (under_names body.doc.origins) c.of-siblings.ensures.content in
    let all = shown_from outside overlay 0 (named_tree body.doc) in
    body_shown body nodes anchors marks c.in_ok-into_html.field-0 are
    (html_all c.new-page.result c.append_siblings.new.page c.in_ok-into_html.field-0 all c.new-page.ensures.text
    c.new-page.ensures.faults
    (more_as c.new-page.result c.append_siblings.new.page _ all
    (ap (λ some. shown_from outside some 0 (content_of siblings)) (overlays (overlay_of c.of-overlay.result) overlay
    (c.of-overlay.ensures.links ∙ c.as_slice.ensures) (c.of-overlay.ensures.marks ∙ c.as_slice-2.ensures))
    ∙ ap (shown_from outside overlay 0) same)
    (c.in_ok-append_siblings.ensures outside (c.outside.ensures c.new-page.result.groups)))
    c.in_ok-into_html.ensures.bytes c.in_ok-into_html.ensures.faults)
