use Rattle.std.proofs.Common.{length, refl, sym}
use Rattle.std.proofs.lemmas.Option.{slice_get_read}
use Rattle.plan_nodes.proofs.HomeLaws.{whole_found}
use Rattle.plan_nodes.proofs.node_elements.whole_of.Goals as goal

pub returns : goal.returns
returns c =
    let docs = c.args.docs.now in
    let named = c.in_ok-named.named.now in
    let lookup = c.in_ok-named.ensures.lookup in
    whole_found docs c.args.home named c.deref.result.now c.element_at.result
    (sym (slice_get_read docs (length docs) c.args.home.doc named refl lookup.3.0 lookup.1)) c.deref.ensures
    c.element_at.ensures
