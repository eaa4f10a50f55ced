use Rattle.std.proofs.Common.{sym, ap, ◌∙◌, arith}
use Rattle.dita_doc.specs.Tree.{size_of}
use Rattle.map_spec.specs.Written.{written_in}
use Rattle.doc_elements.specs.Walk.{element_of}
use Rattle.index_page.proofs.TermLaws.{held_behind, held_first, held_inside}
use Rattle.index_page.proofs.text.+holds_term.Goals as goal

pub returns-then-is_term : goal.returns-then-is_term
returns-then-is_term t c = λ name.
    held_first _ (element_of name c.in-Element.node.now) _ _ (ap (written_in name) c.in-Element.ensures.content)
    (c.if-is_term.ensures name) ∙ sym (c.loop-rest.invariant.same name)

pub returns-then-holds_term : goal.returns-then-holds_term
returns-then-holds_term t c = λ name.
    held_inside _ (element_of name c.in-Element.node.now) _ _ (ap (written_in name) c.in-Element.ensures.content)
    (c.if-is_term.ensures name) (c.if-holds_term.ensures name) ∙ sym (c.loop-rest.invariant.same name)

pub loop-rest-preserved : goal.loop-rest-preserved
loop-rest-preserved t c = record {
  same = λ name.
      c.loop-rest.invariant.same name
      ∙ held_behind _ (element_of name c.in-Element.node.now) _ _
      (ap (written_in name) c.in-Element.ensures.content)
      (c.if-is_term.ensures name) (c.if-holds_term.ensures name);
  size = omega (arith, ap size_of c.in-Element.ensures.content);
}
