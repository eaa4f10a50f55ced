use Rattle.std.proofs.Common.{arith}
use Rattle.std.proofs.lemmas.Grind.{common_steps}
use Rattle.pyx_text.proofs.OpenElements.{text-closed, steps-closed, text-opened, steps-opened}
use Rattle.pyx_text.proofs.WrittenAgain.{again_of}
use Rattle.pyx_text.proofs.write.write_pyx.Goals as goal

pub loop-open_elements-smaller-in-End : goal.loop-open_elements-smaller-in-End
loop-open_elements-smaller-in-End c = steps-closed _ _ _ _ c.in-Some.ensures.items

pub loop-open_elements-preserved-in-End : goal.loop-open_elements-preserved-in-End
loop-open_elements-preserved-in-End c =
    text-closed _ _ _ _ _ _ _ _ c.loop-open_elements.invariant c.in-End.ensures.content c.in-Some.ensures.items
    c.as_bytes.ensures.value c.in_ok-append_line-in-End.ensures

pub loop-open_elements-smaller : goal.loop-open_elements-smaller
loop-open_elements-smaller c =
    steps-opened _ _ _ _ _ c.in-Element.ensures.content c.in_ok-push-in-Element.ensures.items

pub loop-open_elements-preserved : goal.loop-open_elements-preserved
loop-open_elements-preserved c =
    text-opened _ _ _ _ _ _ _ _ _ _ _ c.loop-open_elements.invariant c.in-Element.ensures.content
    c.in_ok-push-in-Element.ensures.items c.as_bytes-in-Element.ensures.value c.as_slice.ensures
    c.in_ok-append_line-in-Element.ensures c.in_ok-append_attributes-in-Element.ensures

pub returns-in_default-clause-text : goal.returns-in_default-clause-text
returns-in_default-clause-text c = grind (arith, common_steps)

pub returns-in_default-clause-again : goal.returns-in_default-clause-again
returns-in_default-clause-again c = again_of _ _ (returns-in_default-clause-text c)
