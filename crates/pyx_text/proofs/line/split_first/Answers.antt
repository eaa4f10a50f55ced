use Rattle.std.proofs.Common.{◌≡◌, Some, rules}
use Rattle.std.specs.List.{slice_get}
use Rattle.dita_doc.proofs.Utf8Laws.{boundary_after_first}
use Rattle.pyx_text.proofs.line.split_first.Goals as goal

pub range_from-requires : goal.range_from-requires
range_from-requires c some =
    let is : Some c.in_ok-first.field-0.now ≡ slice_get c.args.text.now 0 = search rules in
    boundary_after_first c.in_ok-first.field-0.now c.args.text.now (search rules) is c.utf8.text
