use Rattle.std.proofs.Common.{◌≡◌, ◌==◌, length, false}
use Rattle.href_text.specs.Reference.{is_external}
use Rattle.href_text.proofs.ReferenceLaws.{reference_cut}
use Rattle.href_text.proofs.reference.read_reference.Goals as goal

pub returns-in-Some : goal.returns-in-Some
returns-in-Some c =
    let within : is_external c.as_str-value.result.now ≡ false = cc in
    let some : (length c.as_str-value.result.now == 0) ≡ false = cc in
    rw (← c.as_str-value.ensures, reference_cut _ _ _ within some c.in-Some.ensures) c.reference_with.ensures
