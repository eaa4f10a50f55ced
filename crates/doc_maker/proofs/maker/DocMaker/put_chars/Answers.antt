use Rattle.std.proofs.Common.{◌≡◌, ◌+◌, ◌∙◌, ◌++◌, ◌∷◌, [], ap, length, rules}
use Rattle.dita_doc.proofs.Lists.{on_err}
use Rattle.doc_maker.specs.Building as spec
use Rattle.doc_maker.specs.Made as made_spec
use Rattle.map_spec.specs.Written as written_spec
use Rattle.doc_maker.proofs.MakerLaws.{chars_made, chars_put, chars_seen, names_made, names_still}
use Rattle.doc_maker.proofs.maker.DocMaker.put_chars.Goals as goal

pub invariant_of-self : goal.invariant_of-self
invariant_of-self c = names_made c.self.inside.origins c.place.new.self c.self.inside.nodes.items
    c.self.inside.hrefs.items c.self.inside.opened.items c.in_err-home.ensures.grows c.self.invariant

pub returns-in_err-home-clause-failed : goal.returns-in_err-home-clause-failed
returns-in_err-home-clause-failed c = on_err c.from_residual.result
    (names_still c.self.inside.origins c.place.new.self c.self.inside.nodes.items c.self.inside.hrefs.items
    c.self.inside.opened.items c.args.self.now c.in_err-home.ensures.grows c.self.invariant c.self.view_is)

pub invariant_of-self-in_err-end : goal.invariant_of-self-in_err-end
invariant_of-self-in_err-end c = names_made c.self.inside.origins c.place.new.self c.self.inside.nodes.items
    c.self.inside.hrefs.items c.self.inside.opened.items c.in_ok-home.ensures.grows c.self.invariant

pub returns-in_err-end-clause-failed : goal.returns-in_err-end-clause-failed
returns-in_err-end-clause-failed c = on_err c.from_residual-in_err-end.result
    (names_still c.self.inside.origins c.place.new.self c.self.inside.nodes.items c.self.inside.hrefs.items
    c.self.inside.opened.items c.args.self.now c.in_ok-home.ensures.grows c.self.invariant c.self.view_is)

pub invariant_of-self-in_err-put : goal.invariant_of-self-in_err-put
invariant_of-self-in_err-put c =
    rw (c.in_err-put.ensures.no_nodes, c.in_err-put.ensures.no_hrefs, c.in_err-put.ensures.none_declared)
    (names_made c.self.inside.origins c.place.new.self c.self.inside.nodes.items c.self.inside.hrefs.items
    c.self.inside.opened.items c.in_ok-home.ensures.grows c.self.invariant)

pub returns-in_err-put-clause-failed : goal.returns-in_err-put-clause-failed
returns-in_err-put-clause-failed c = on_err c.from_residual-in_err-put.result
    (rw (c.in_err-put.ensures.no_nodes, c.in_err-put.ensures.no_hrefs)
    (names_still c.self.inside.origins c.place.new.self c.self.inside.nodes.items c.self.inside.hrefs.items
    c.self.inside.opened.items c.args.self.now c.in_ok-home.ensures.grows c.self.invariant c.self.view_is))

pub invariant_of-self-2 : goal.invariant_of-self-2
invariant_of-self-2 c =
    let at : c.in_ok-end.end ≡ length c.self.inside.nodes.items + 1 = search rules in
    let put = chars_put c.self.inside.nodes.items c.put.new.nodes.items c.args.text c.new.result c.in_ok-home.home
    c.in_ok-end.end c.new.ensures c.in_ok-put.ensures.nodes in
    chars_made c.place.new.self c.self.inside.nodes.items c.put.new.nodes.items c.self.inside.hrefs.items
    c.put.new.hrefs.items c.self.inside.opened.items c.put.new.declared.items c.args.text c.args.origin.now
    c.in_ok-home.home c.in_ok-end.end
    (names_made c.self.inside.origins c.place.new.self c.self.inside.nodes.items c.self.inside.hrefs.items
    c.self.inside.opened.items c.in_ok-home.ensures.grows c.self.invariant)
    c.in_ok-home.ensures.place at c.in_ok-end.ensures.small put c.in_ok-put.ensures.hrefs
    (c.in_ok-put.ensures.declared ∙ ap (λ names. c.self.inside.declared.items ++ names ∷ []) c.new-names.ensures)

pub returns-clause-put : goal.returns-clause-put
returns-clause-put c =
    let at : c.in_ok-end.end ≡ length c.self.inside.nodes.items + 1 = search rules in
    let put = chars_put c.self.inside.nodes.items c.put.new.nodes.items c.args.text c.new.result c.in_ok-home.home
    c.in_ok-end.end c.new.ensures c.in_ok-put.ensures.nodes in
    chars_seen c.self.inside.origins c.place.new.self c.self.inside.nodes.items c.put.new.nodes.items
    c.self.inside.hrefs.items
    c.put.new.hrefs.items c.self.inside.opened.items c.args.text c.args.origin.now c.in_ok-home.home c.in_ok-end.end
    c.in_ok-home.ensures.grows c.self.invariant c.in_ok-home.ensures.place at put
    c.in_ok-put.ensures.hrefs
    ∙ ap (λ made. spec.behind (made_spec.building made)
    (written_spec.Chars c.args.text c.args.origin.now written_spec.End)) c.self.view_is
