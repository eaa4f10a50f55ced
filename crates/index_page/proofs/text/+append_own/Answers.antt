use Rattle.std.proofs.Common.{◌++◌, ◌∙◌, append_assoc, ap, arith, sym}
use Rattle.dita_doc.specs.Tree.{size_of}
use Rattle.map_spec.specs.Written.{written_in}
use Rattle.doc_elements.specs.Walk.{content_in, element_of}
use Rattle.html_spec.specs.Terms.{own_characters}
use Rattle.index_page.proofs.TermLaws.{own_apart, own_inside}
use Rattle.index_page.proofs.text.+append_own.Goals as goal

pub loop-node-preserved-then-is_apart : goal.loop-node-preserved-then-is_apart
loop-node-preserved-then-is_apart t c = record {
  whole = λ name.
      ap (λ more. c.loop-node.out ++ more)
      (sym (own_apart (content_in name c.loop-node.left) (element_of name c.in-Element.node.now)
      (content_in name c.in-Element.inside) (content_in name c.in-Element.rest)
      (ap (written_in name) c.in-Element.ensures.content) (c.if-is_apart.ensures name)))
      ∙ c.loop-node.invariant.whole name;
  size = omega (arith, ap size_of c.in-Element.ensures.content);
}

pub loop-node-preserved : goal.loop-node-preserved
loop-node-preserved t c = record {
  whole = λ name.
      let inside = content_in name c.in-Element.inside in
      let rest = content_in name c.in-Element.rest in
      ap (λ out. out ++ own_characters rest) (c.in_ok-append_own-in-Element.ensures name)
      ∙ append_assoc c.loop-node.out (own_characters inside) (own_characters rest)
      ∙ ap (λ more. c.loop-node.out ++ more)
      (sym (own_inside (content_in name c.loop-node.left) (element_of name c.in-Element.node.now) inside rest
      (ap (written_in name) c.in-Element.ensures.content) (c.if-is_apart.ensures name)))
      ∙ c.loop-node.invariant.whole name;
  size = omega (arith, ap size_of c.in-Element.ensures.content);
}
