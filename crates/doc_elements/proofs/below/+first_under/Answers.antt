use Rattle.std.proofs.Common.{sym, ap, ◌∙◌, arith}
use Rattle.dita_doc.specs.Tree.{size_of}
use Rattle.map_spec.specs.Written.{written_in}
use Rattle.doc_elements.specs.Walk.{element_of, whole_of}
use Rattle.doc_elements.proofs.UnderLaws.{under_transparent, under_behind, under_child, under_none, under_other_type}
use Rattle.doc_elements.proofs.below.+first_under.Goals as goal

pub returns-in-Some : goal.returns-in-Some
returns-in-Some t c = λ name.
    sym (
    c.loop-rest.invariant.same name
    ∙ under_transparent _ (element_of name c.in-Element.node.now) _ _
    (ap (written_in name) c.in-Element.ensures.content)
    c.args.child.now c.args.token.now (whole_of name c.in-Some.found)
    (c.if-is_transparent.ensures name) (c.in-Some.ensures name)
    )

pub returns-in-Some-first_below : goal.returns-in-Some-first_below
returns-in-Some-first_below t c = λ name.
    sym (
    c.loop-rest.invariant.same name
    ∙ under_child _ (element_of name c.in-Element.node.now) _ _ (ap (written_in name) c.in-Element.ensures.content)
    c.args.child.now c.args.token.now (whole_of name c.in-Some-first_below.found)
    (c.if-is_transparent.ensures name) c.if-has_type.ensures (c.in-Some-first_below.ensures name)
    )

pub loop-rest-preserved-in_default : goal.loop-rest-preserved-in_default
loop-rest-preserved-in_default t c = record {
  same = λ name.
      c.loop-rest.invariant.same name
      ∙ under_behind _ (element_of name c.in-Element.node.now) _ _ (ap (written_in name) c.in-Element.ensures.content)
      c.args.child.now c.args.token.now (c.if-is_transparent.ensures name) (c.in_default.ensures name);
  size = omega (arith, ap size_of c.in-Element.ensures.content);
}

pub loop-rest-preserved-in_default-first_below : goal.loop-rest-preserved-in_default-first_below
loop-rest-preserved-in_default-first_below t c = record {
  same = λ name.
      c.loop-rest.invariant.same name
      ∙ under_none _ (element_of name c.in-Element.node.now) _ _ (ap (written_in name) c.in-Element.ensures.content)
      c.args.child.now c.args.token.now (c.if-is_transparent.ensures name) c.if-has_type.ensures
      (c.in_default-first_below.ensures name);
  size = omega (arith, ap size_of c.in-Element.ensures.content);
}

pub loop-rest-preserved : goal.loop-rest-preserved
loop-rest-preserved t c = record {
  same = λ name.
      c.loop-rest.invariant.same name
      ∙ under_other_type _ (element_of name c.in-Element.node.now) _ _
      (ap (written_in name) c.in-Element.ensures.content)
      c.args.child.now c.args.token.now (c.if-is_transparent.ensures name) c.if-has_type.ensures;
  size = omega (arith, ap size_of c.in-Element.ensures.content);
}
