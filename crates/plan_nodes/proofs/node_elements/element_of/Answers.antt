use Rattle.std.proofs.Common.{length, refl, sym}
use Rattle.std.proofs.lemmas.Option.{slice_get_read}
use Rattle.plan_nodes.proofs.HomeLaws.{chars_there, element_there, nothing_there}
use Rattle.plan_nodes.proofs.node_elements.element_of.Goals as goal

pub returns-in_err-node : goal.returns-in_err-node
returns-in_err-node c =
    let docs = c.args.docs.now in
    let lookup = c.in_ok-named.ensures.lookup in
    rw c.from_residual-in_err-node.ensures (nothing_there docs c.args.home c.in_ok-named.named.now c.deref.result.now
    c.as_slice.result.now
    (sym (slice_get_read docs (length docs) c.args.home.doc c.in_ok-named.named.now refl lookup.3.0 lookup.1))
    c.deref.ensures c.as_slice.ensures c.in_err-node.ensures.lookup.3)

pub returns-in-Element : goal.returns-in-Element
returns-in-Element c =
    let docs = c.args.docs.now in
    let lookup = c.in_ok-named.ensures.lookup in
    let nodes = c.as_slice.result.now in
    let found = c.in_ok-node.ensures.lookup in
    element_there docs c.args.home c.in_ok-named.named.now c.deref.result.now nodes
    (sym (slice_get_read docs (length docs) c.args.home.doc c.in_ok-named.named.now refl lookup.3.0 lookup.1))
    c.deref.ensures c.as_slice.ensures c.in_ok-node.node.now c.in-Element.is
    (slice_get_read nodes (length nodes) c.args.home.place c.in_ok-node.node.now refl found.3.0 found.1)

pub returns-in-Chars : goal.returns-in-Chars
returns-in-Chars c =
    let docs = c.args.docs.now in
    let lookup = c.in_ok-named.ensures.lookup in
    let nodes = c.as_slice.result.now in
    let found = c.in_ok-node.ensures.lookup in
    chars_there docs c.args.home c.in_ok-named.named.now c.deref.result.now nodes
    (sym (slice_get_read docs (length docs) c.args.home.doc c.in_ok-named.named.now refl lookup.3.0 lookup.1))
    c.deref.ensures c.as_slice.ensures c.in_ok-node.node.now c.in-Chars.is
    (slice_get_read nodes (length nodes) c.args.home.place c.in_ok-node.node.now refl found.3.0 found.1)
