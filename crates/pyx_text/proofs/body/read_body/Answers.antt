use Rattle.std.proofs.Common.{◌≡◌, ap, sym, ◌∙◌, Ok, List, ℕ, length}
use Rattle.std.specs.Arc.{arc_value}
use Rattle.dita_doc.specs.declared.doc.Doc.{Doc}
use Rattle.dita_doc.specs.Body.{nodes_read}
use Rattle.dita_doc.specs.Pyx.{document_of, nodes_or_fault}
use Rattle.pyx_text.proofs.BodyLaws.{nodes_read_ok, fault_read}
use Rattle.pyx_text.proofs.body.read_body.Goals as goal
use Rattle.pyx_text.proofs.body.read_body.Goals.{in-Ok+in_ok-new-in-Ok, in-Err-Fault}

pub invariant_of-result-clause-reading : goal.invariant_of-result-clause-reading
invariant_of-result-clause-reading c =
    let kept = sym (ap (λ (bytes : List ℕ). nodes_or_fault (document_of bytes)) c.in_ok-bytes.ensures.ok) in
    elim c.match-read_pyx.branch [
      | in-Ok+in_ok-new-in-Ok w ↦
          let read = rw c.as_slice.ensures at w.in-Ok.ensures.tree in
          ap nodes_read w.read-is
          ∙ ap (λ (doc : Doc). Ok doc.nodes) w.in_ok-new-in-Ok.ensures.ok
          ∙ nodes_read_ok w.in-Ok.doc.nodes c.args.bytes read
          ∙ kept
      | in-Err-Fault w ↦
          let read = rw (c.as_slice.ensures, w.in-Err-Fault.field-0-is) at w.in-Err-Fault.ensures.fault in
          ap nodes_read w.read-is ∙ fault_read w.in-Err-Fault.fault c.args.bytes read ∙ kept
    ]

pub invariant_of-result-clause-origin : goal.invariant_of-result-clause-origin
invariant_of-result-clause-origin c doc is =
    elim c.match-read_pyx.branch [
      | in-Ok+in_ok-new-in-Ok w ↦
          let read = w.read-is in
          let same : arc_value doc ≡ arc_value w.in_ok-new-in-Ok.field-0 = cc in
          ap (λ (doc : Doc). length doc.origins) (same ∙ w.in_ok-new-in-Ok.ensures.ok)
          ∙ ap length w.in-Ok.ensures.origin
      | in-Err-Fault w ↦ absurd (let read = w.read-is in cc)
    ]
