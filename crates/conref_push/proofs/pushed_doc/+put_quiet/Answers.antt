use Rattle.std.proofs.Common.{◌∙◌, ap, arith}
use Rattle.dita_doc.specs.Tree.{Content, size_of}
use Rattle.doc_elements.specs.Walk.{content_in, element_of}
use Rattle.doc_maker.specs.Building.{behind}
use Rattle.doc_maker.specs.Made.{building}
use Rattle.map_spec.specs.Written.{Chars, End, written_in}
use Rattle.map_spec.specs.Pushes.{without_acting}
use Rattle.conref_push.proofs.MakingLaws.{closed_with, quiet_acting, quiet_first, quiet_node, quiet_put, way_end, way_on}
use Rattle.conref_push.proofs.pushed_doc.+put_quiet.Goals as goal

pub returns-in-End : goal.returns-in-End
returns-in-End t c = way_end (building c.loop-node.maker) _ (without_acting (content_in c.args.name.now c.loop-node.left))
    (ap (λ (all : Content). without_acting (written_in c.args.name.now all)) c.in-End.ensures.content)
    c.loop-node.invariant.put

pub loop-node-preserved-in-Chars : goal.loop-node-preserved-in-Chars
loop-node-preserved-in-Chars t c =
    let name = c.args.name.now in
    record {
      put = way_on (building c.loop-node.maker) (building c.put_chars.new.self) _
          (without_acting (content_in name c.loop-node.left)) (Chars c.in-Chars.node.now.text name End)
          (without_acting (content_in name c.in-Chars.rest))
          (ap (λ (all : Content). without_acting (written_in name all)) c.in-Chars.ensures.content)
          (c.in_ok-put_chars-in-Chars.ensures.put
          ∙ ap (λ text. behind (building c.loop-node.maker) (Chars text name End)) c.in_ok-clone-in-Chars.ensures.cases)
          c.loop-node.invariant.put;
      size = omega (arith, ap size_of c.in-Chars.ensures.content, c.loop-node.invariant.size);
    }

pub loop-node-preserved-in_ok-put_quiet-in-Element : goal.loop-node-preserved-in_ok-put_quiet-in-Element
loop-node-preserved-in_ok-put_quiet-in-Element t c =
    let name = c.args.name.now in
    let element = element_of name c.in-Element.node.now in
    let inside = content_in name c.in-Element.inside in
    let was = building c.loop-node.maker in
    record {
      put = way_on was (building c.close.new.self) _ (without_acting (content_in name c.loop-node.left))
          (quiet_first element inside) (without_acting (content_in name c.in-Element.rest))
          (ap (λ (all : Content). without_acting (written_in name all)) c.in-Element.ensures.content
          ∙ quiet_node element inside (content_in name c.in-Element.rest))
          (quiet_put was (building c.close.new.self) element inside (c.if-not-acts.ensures name)
          (closed_with was (building c.open.new.maker) (building c.put_quiet.new.maker) (building c.close.new.self)
          element (without_acting inside) c.in_ok-open-in-Element.ensures c.in_ok-put_quiet-in-Element.ensures
          c.close.ensures.closed))
          c.loop-node.invariant.put;
      size = omega (arith, ap size_of c.in-Element.ensures.content, c.loop-node.invariant.size);
    }

pub loop-node-preserved : goal.loop-node-preserved
loop-node-preserved t c =
    let name = c.args.name.now in
    let element = element_of name c.in-Element.node.now in
    let inside = content_in name c.in-Element.inside in
    let was = building c.loop-node.maker in
    record {
      put = way_on was was _ (without_acting (content_in name c.loop-node.left))
          (quiet_first element inside) (without_acting (content_in name c.in-Element.rest))
          (ap (λ (all : Content). without_acting (written_in name all)) c.in-Element.ensures.content
          ∙ quiet_node element inside (content_in name c.in-Element.rest))
          (quiet_acting was element inside (c.if-not-acts.ensures name))
          c.loop-node.invariant.put;
      size = omega (arith, ap size_of c.in-Element.ensures.content, c.loop-node.invariant.size);
    }
