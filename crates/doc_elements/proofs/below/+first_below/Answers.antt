use Rattle.std.proofs.Common.{sym, ap, ◌∙◌, arith}
use Rattle.dita_doc.specs.Tree.{size_of}
use Rattle.map_spec.specs.Written.{written_in}
use Rattle.doc_elements.specs.Walk.{element_of, whole_of}
use Rattle.doc_elements.proofs.UnderLaws.{below_inside, below_behind}
use Rattle.doc_elements.proofs.below.+first_below.Goals as goal

pub returns-in-Some : goal.returns-in-Some
returns-in-Some t c = λ name.
    sym (
    c.loop-rest.invariant.same name
    ∙ below_inside _ (element_of name c.in-Element.node.now) _ _ (ap (written_in name) c.in-Element.ensures.content)
    c.args.token.now (whole_of name c.in-Some.found) c.if-has_type.ensures (c.in-Some.ensures name)
    )

pub loop-rest-preserved : goal.loop-rest-preserved
loop-rest-preserved t c = record {
  same = λ name.
      c.loop-rest.invariant.same name
      ∙ below_behind _ (element_of name c.in-Element.node.now) _ _ (ap (written_in name) c.in-Element.ensures.content)
      c.args.token.now c.if-has_type.ensures (c.in_default.ensures name);
  size = omega (arith, ap size_of c.in-Element.ensures.content);
}
