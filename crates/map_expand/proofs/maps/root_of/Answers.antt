use Rattle.std.proofs.Common.{◌<◌, length, ap, subst, ◌∙◌}
use Rattle.std.specs.Prelude.{get_or}
use Rattle.dita_doc.proofs.Lists.{get_read}
use Rattle.map_expand.proofs.RootLaws.{behind_chars, root_behind, root_here, texts_behind}
use Rattle.map_expand.proofs.maps.root_of.Goals as goal

pub loop-place-preserved : goal.loop-place-preserved
loop-place-preserved c =
    let nodes = c.args.doc.now.nodes in
    let node = c.index-nodes-place.result in
    let some : c.loop-place.place < length nodes = subst (λ l. c.loop-place.place < length l) c.as_slice-nodes.ensures c.loop-place-test.true in
    let here = get_read nodes c.loop-place.place node some
    (c.index-nodes-place.is ∙ ap (λ l. get_or l c.loop-place.place node) c.as_slice-nodes.ensures) in
    record {
      siblings = λ name. behind_chars name nodes c.loop-place.place node some here (c.loop-place.invariant.siblings name)
          (c.loop-place.invariant.same name) (c.loop-place.invariant.texts name) c.in-Chars.is;
      same = λ name. root_behind name nodes c.loop-place.place node some here (c.loop-place.invariant.siblings name)
          (c.loop-place.invariant.same name) (c.loop-place.invariant.texts name) c.in-Chars.is;
      texts = λ name. texts_behind name nodes c.loop-place.place node some here (c.loop-place.invariant.siblings name)
          (c.loop-place.invariant.same name) (c.loop-place.invariant.texts name) c.in-Chars.is;
    }

pub returns-in-Element : goal.returns-in-Element
returns-in-Element c = λ name.
    let nodes = c.args.doc.now.nodes in
    let node = c.index-nodes-place.result in
    let some : c.loop-place.place < length nodes = subst (λ l. c.loop-place.place < length l) c.as_slice-nodes.ensures c.loop-place-test.true in
    let here = get_read nodes c.loop-place.place node some
    (c.index-nodes-place.is ∙ ap (λ l. get_or l c.loop-place.place node) c.as_slice-nodes.ensures) in
    root_here name nodes c.loop-place.place node some here (c.loop-place.invariant.siblings name)
    (c.loop-place.invariant.same name) (c.loop-place.invariant.texts name) c.in-Element.is
