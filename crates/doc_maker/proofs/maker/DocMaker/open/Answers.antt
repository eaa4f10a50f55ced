use Rattle.std.proofs.Common.{◌≡◌, ◌+◌, ◌-◌, ◌∙◌, ap, arith, length, rules}
use Rattle.std.specs.Vec.{vec_len}
use Rattle.dita_doc.proofs.Lists.{on_err}
use Rattle.doc_maker.specs.Building as spec
use Rattle.doc_maker.specs.Made as made_spec
use Rattle.doc_maker.proofs.MakerLaws.{names_made, names_still, open_made, open_seen, taken_again}
use Rattle.doc_maker.proofs.OriginLaws.{longer_more, stays}
use Rattle.doc_maker.proofs.maker.DocMaker.open.Goals as goal

pub invariant_of-self : goal.invariant_of-self
invariant_of-self c = names_made c.self.inside.origins c.place.new.self c.self.inside.nodes.items
    c.self.inside.hrefs.items c.self.inside.opened.items c.in_err-home.ensures.grows c.self.invariant

pub returns-in_err-home-clause-failed : goal.returns-in_err-home-clause-failed
returns-in_err-home-clause-failed c = on_err c.from_residual.result
    (names_still c.self.inside.origins c.place.new.self c.self.inside.nodes.items c.self.inside.hrefs.items
    c.self.inside.opened.items c.args.self.now c.in_err-home.ensures.grows c.self.invariant c.self.view_is)

pub invariant_of-self-in_err-end : goal.invariant_of-self-in_err-end
invariant_of-self-in_err-end c = names_made c.self.inside.origins c.place.new.self c.self.inside.nodes.items
    c.self.inside.hrefs.items c.self.inside.opened.items c.in_ok-home.ensures.grows c.self.invariant

pub returns-in_err-end-clause-failed : goal.returns-in_err-end-clause-failed
returns-in_err-end-clause-failed c = on_err c.from_residual-in_err-end.result
    (names_still c.self.inside.origins c.place.new.self c.self.inside.nodes.items c.self.inside.hrefs.items
    c.self.inside.opened.items c.args.self.now c.in_ok-home.ensures.grows c.self.invariant c.self.view_is)

pub invariant_of-self-in_err-href : goal.invariant_of-self-in_err-href
invariant_of-self-in_err-href c =
    let grown = longer_more c.self.inside.origins c.place.new.self c.href_place.new.origins c.in_ok-home.ensures.grows
    c.in_err-href.ensures.grows in
    names_made c.self.inside.origins c.href_place.new.origins c.self.inside.nodes.items c.self.inside.hrefs.items
    c.self.inside.opened.items grown c.self.invariant

pub returns-in_err-href-clause-failed : goal.returns-in_err-href-clause-failed
returns-in_err-href-clause-failed c =
    let grown = longer_more c.self.inside.origins c.place.new.self c.href_place.new.origins c.in_ok-home.ensures.grows
    c.in_err-href.ensures.grows in
    on_err c.from_residual-in_err-href.result
    (names_still c.self.inside.origins c.href_place.new.origins c.self.inside.nodes.items c.self.inside.hrefs.items
    c.self.inside.opened.items c.args.self.now grown c.self.invariant c.self.view_is)

pub invariant_of-self-in_err-push : goal.invariant_of-self-in_err-push
invariant_of-self-in_err-push c =
    let grown = longer_more c.self.inside.origins c.place.new.self c.href_place.new.origins c.in_ok-home.ensures.grows
    c.in_ok-href.ensures.grows in
    rw c.in_err-push.ensures.items
    (names_made c.self.inside.origins c.href_place.new.origins c.self.inside.nodes.items c.self.inside.hrefs.items
    c.self.inside.opened.items grown c.self.invariant)

pub returns-in_err-push-clause-failed : goal.returns-in_err-push-clause-failed
returns-in_err-push-clause-failed c =
    let grown = longer_more c.self.inside.origins c.place.new.self c.href_place.new.origins c.in_ok-home.ensures.grows
    c.in_ok-href.ensures.grows in
    on_err c.from_residual-in_err-push.result (rw c.in_err-push.ensures.items
    (names_still c.self.inside.origins c.href_place.new.origins c.self.inside.nodes.items c.self.inside.hrefs.items
    c.self.inside.opened.items c.args.self.now grown c.self.invariant c.self.view_is))

pub invariant_of-self-in-Ok : goal.invariant_of-self-in-Ok
invariant_of-self-in-Ok c =
    let grown = longer_more c.self.inside.origins c.place.new.self c.href_place.new.origins c.in_ok-home.ensures.grows
    c.in_ok-href.ensures.grows in
    let there = stays c.place.new.self c.href_place.new.origins c.in_ok-home.home c.args.origin.now
    c.in_ok-href.ensures.grows c.in_ok-home.ensures.place in
    let at : c.in_ok-end.end ≡ length c.self.inside.nodes.items + 1 = search rules in
    let here : c.in_ok-end.end - 1 ≡ length c.self.inside.nodes.items = omega (arith, at) in
    open_made c.href_place.new.origins c.self.inside.nodes.items c.put.new.nodes.items
    c.self.inside.hrefs.items c.put.new.hrefs.items
    c.self.inside.opened.items c.push.new.self.items c.put.new.declared.items c.args.declared c.args.name
    c.args.attributes c.in_ok-home.home c.args.line
    c.in_ok-end.end (c.in_ok-end.end - 1) c.in_ok-href.href c.args.origin.now
    (spec.href_written c.args.attributes c.args.origin.now c.args.href_doc.now)
    (names_made c.self.inside.origins c.href_place.new.origins c.self.inside.nodes.items c.self.inside.hrefs.items
    c.self.inside.opened.items grown c.self.invariant)
    there (c.in_ok-href.ensures.place c.args.origin.now c.in_ok-home.ensures.place) at c.in_ok-end.ensures.small here
    c.in-Ok.ensures.nodes c.in-Ok.ensures.hrefs c.in_ok-push.ensures.items c.in_ok-href.ensures.own
    c.in-Ok.ensures.declared

pub returns-in-Ok-clause-opened : goal.returns-in-Ok-clause-opened
returns-in-Ok-clause-opened c =
    let home = spec.href_written c.args.attributes c.args.origin.now c.args.href_doc.now in
    let grown = longer_more c.self.inside.origins c.place.new.self c.href_place.new.origins c.in_ok-home.ensures.grows
    c.in_ok-href.ensures.grows in
    let there = stays c.place.new.self c.href_place.new.origins c.in_ok-home.home c.args.origin.now
    c.in_ok-href.ensures.grows c.in_ok-home.ensures.place in
    let at : c.in_ok-end.end ≡ length c.self.inside.nodes.items + 1 = search rules in
    let here : c.in_ok-end.end - 1 ≡ length c.self.inside.nodes.items = omega (arith, at) in
    open_seen c.self.inside.origins c.href_place.new.origins c.self.inside.nodes.items c.put.new.nodes.items
    c.self.inside.hrefs.items c.put.new.hrefs.items
    c.self.inside.opened.items c.push.new.self.items c.args.name c.args.attributes c.in_ok-home.home c.args.line
    c.in_ok-end.end (c.in_ok-end.end - 1) c.in_ok-href.href c.args.origin.now home
    grown c.self.invariant
    there (c.in_ok-href.ensures.place c.args.origin.now c.in_ok-home.ensures.place) here c.in-Ok.ensures.nodes
    c.in-Ok.ensures.hrefs c.in_ok-push.ensures.items
    ∙ ap (λ made. spec.opened (made_spec.building made)
    (spec.element c.args.name c.args.attributes c.args.origin.now c.args.line home)) c.self.view_is

pub invariant_of-self-in-Err : goal.invariant_of-self-in-Err
invariant_of-self-in-Err c =
    let grown = longer_more c.self.inside.origins c.place.new.self c.href_place.new.origins c.in_ok-home.ensures.grows
    c.in_ok-href.ensures.grows in
    let count : vec_len c.push.new.self ≡ length c.push.new.self.items = search rules in
    let left = taken_again c.self.inside.opened.items c.push.new.self.items c.pop.new.self.items (c.in_ok-end.end - 1)
    (vec_len c.push.new.self) c.in_ok-push.ensures.items count c.pop.ensures.rest in
    rw (c.in-Err.ensures.no_nodes, c.in-Err.ensures.no_hrefs, c.in-Err.ensures.none_declared, left)
    (names_made c.self.inside.origins c.href_place.new.origins c.self.inside.nodes.items c.self.inside.hrefs.items
    c.self.inside.opened.items grown c.self.invariant)

pub returns-in-Err-clause-failed : goal.returns-in-Err-clause-failed
returns-in-Err-clause-failed c =
    let grown = longer_more c.self.inside.origins c.place.new.self c.href_place.new.origins c.in_ok-home.ensures.grows
    c.in_ok-href.ensures.grows in
    let count : vec_len c.push.new.self ≡ length c.push.new.self.items = search rules in
    let left = taken_again c.self.inside.opened.items c.push.new.self.items c.pop.new.self.items (c.in_ok-end.end - 1)
    (vec_len c.push.new.self) c.in_ok-push.ensures.items count c.pop.ensures.rest in
    rw (c.in-Err.ensures.no_nodes, c.in-Err.ensures.no_hrefs, left)
    (names_still c.self.inside.origins c.href_place.new.origins c.self.inside.nodes.items c.self.inside.hrefs.items
    c.self.inside.opened.items c.args.self.now grown c.self.invariant c.self.view_is)
