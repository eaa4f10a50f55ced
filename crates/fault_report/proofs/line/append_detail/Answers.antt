use Rattle.dita_doc.proofs.EscapeUtf8Laws.{utf8_escaped}
use Rattle.fault_report.proofs.line.append_detail.Goals as goal

pub append_bytes-requires : goal.append_bytes-requires
append_bytes-requires c =
    let utf8 = utf8_escaped c.args.detail.now c.as_bytes.ensures.utf8 in
    rw (c.as_slice.ensures, c.in_ok-append_pyx.ensures, c.new-escaped.ensures, c.as_bytes.ensures.value) utf8
