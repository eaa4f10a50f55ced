use Rattle.std.specs.Arc.{arc_value}
use Rattle.std.proofs.Common.{◌∙◌, Bool, None, ap, sym}
use Rattle.std.specs.Prelude.{[], if◌then◌else◌}
use Rattle.xref_links.specs.Adding.{href_outside}
use Rattle.xref_links.proofs.LabelLaws.{text_as}
use Rattle.xref_links.proofs.image.image_href.Goals as goal

pub returns-then-not-shows_href : goal.returns-then-not-shows_href
returns-then-not-shows_href c =
    let href = href_outside (arc_value c.args.page.context.now).name c.args.target in
    ap (λ (b : Bool). if b then href else None) (sym c.if-not-shows_href.true ∙ c.shows_href.ensures [])

pub returns : goal.returns
returns c =
    let href = href_outside (arc_value c.args.page.context.now).name c.args.target in
    text_as c.href_outside.result href _
    (ap (λ (b : Bool). if b then href else None) (sym c.if-not-shows_href.false ∙ c.shows_href.ensures []))
    c.href_outside.ensures
