-- What was read of a text is the text's document, or its fault.
use Rattle.std.proofs.Common.{◌≡◌, ℕ, List, Ok, Err, ap, sym, ◌∙◌}
use Rattle.dita_doc.specs.declared.doc.Node.{Node}
use Rattle.dita_doc.specs.declared.fault.PyxFault.{PyxFault}
use Rattle.dita_doc.specs.Pyx.{document_of, nodes_or_fault, reading, tree_built}
use Rattle.pyx_text.proofs.PyxLaws.{document_of_stands}
use Rattle.pyx_text.specs.Read.{AreRead}

pub nodes_read_ok : (nodes : List Node) (text : List ℕ) → AreRead nodes text
    → Ok nodes ≡ nodes_or_fault (document_of text)
nodes_read_ok nodes text r = ap Ok r.2 ∙ sym (ap nodes_or_fault (document_of_stands text r.0 r.1))

pub fault_read : (fault : PyxFault) (text : List ℕ) → reading text ≡ Err fault
    → Err fault ≡ nodes_or_fault (document_of text)
unfolding document_of
fault_read fault text r = sym (ap (λ r. nodes_or_fault (tree_built r)) r)
