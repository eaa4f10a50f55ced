use Rattle.std.proofs.Common.{◌≡◌, ◌∙◌, ap, length, rules}
use Rattle.doc_maker.specs.Building as spec
use Rattle.doc_maker.specs.Made as made_spec
use Rattle.doc_maker.proofs.MakerLaws.{depth_seen}
use Rattle.doc_maker.proofs.maker.DocMaker.depth.Goals as goal

pub returns : goal.returns
returns c =
    let count : c.len.result ≡ length c.self.inside.opened.items = search rules in
    count ∙ depth_seen c.self.inside.origins c.self.inside.nodes.items c.self.inside.hrefs.items
    c.self.inside.opened.items
    ∙ ap (λ made. spec.depth (made_spec.building made)) c.self.view_is
