use Rattle.std.proofs.Common.{◌∙◌, ap}
use Rattle.doc_maker.specs.Building as spec
use Rattle.doc_maker.specs.Made as made_spec
use Rattle.doc_maker.proofs.MakerLaws.{close_made, close_seen}
use Rattle.doc_maker.proofs.maker.DocMaker.close.Goals as goal

pub invariant_of-self : goal.invariant_of-self
invariant_of-self c = rw c.set_end.ensures
    (close_made c.self.inside.origins c.self.inside.nodes.items c.self.inside.hrefs.items c.self.inside.opened.items
    c.pop.new.self.items c.in-Some.place c.self.invariant c.in-Some.ensures.items)

pub returns-in-Some-clause-closed : goal.returns-in-Some-clause-closed
returns-in-Some-clause-closed c = rw c.set_end.ensures
    (close_seen c.self.inside.origins c.self.inside.nodes.items c.self.inside.hrefs.items c.self.inside.opened.items
    c.pop.new.self.items c.in-Some.place c.self.invariant c.in-Some.ensures.items
    ∙ ap (λ made. spec.closed (made_spec.building made)) c.self.view_is)
