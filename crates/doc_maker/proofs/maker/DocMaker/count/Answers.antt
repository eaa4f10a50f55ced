use Rattle.std.proofs.Common.{◌≡◌, ◌∙◌, ap, length, rules}
use Rattle.doc_maker.specs.Building as spec
use Rattle.doc_maker.specs.Made as made_spec
use Rattle.doc_maker.proofs.MakerLaws.{count_seen}
use Rattle.doc_maker.proofs.maker.DocMaker.count.Goals as goal

pub returns : goal.returns
returns c =
    let count : c.len.result ≡ length c.self.inside.nodes.items = search rules in
    count ∙ count_seen c.self.inside.origins c.self.inside.nodes.items c.self.inside.hrefs.items
    c.self.inside.opened.items c.self.invariant
    ∙ ap (λ made. spec.count (made_spec.building made)) c.self.view_is
