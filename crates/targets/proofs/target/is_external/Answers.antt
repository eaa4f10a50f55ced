use Rattle.std.proofs.Common.{◌≡◌, ◌+◌, ◌==◌, ℕ, List, false, arith, sym, ◌∙◌, drop, get_or}
use Rattle.std.proofs.lemmas.Bool.Decides.{nat_tests}
use Rattle.std.proofs.lemmas.List.{at_drop_more}
use Rattle.href_text.specs.Reference.{is_external}
use Rattle.href_text.proofs.ReferenceLaws.{external_here, external_behind}
use Rattle.targets.proofs.target.is_external.Goals as goal

pub returns-in-58 : goal.returns-in-58
returns-in-58 c =
    let value : List ℕ = c.as_bytes-byte-items.result.now in
    let at : ℕ = c.loop-byte.byte-index in
    sym (c.loop-byte.invariant ∙ at_drop_more is_external value at 0 c.loop-byte-test.true
    ∙ external_here (get_or value at 0) (drop (at + 1) value) c.in-58.is)

pub loop-byte-preserved : goal.loop-byte-preserved
loop-byte-preserved c =
    let value : List ℕ = c.as_bytes-byte-items.result.now in
    let at : ℕ = c.loop-byte.byte-index in
    let colon : (get_or value at 0 == 58) ≡ false = grind (arith, nat_tests) in
    let slash : (get_or value at 0 == 47) ≡ false = grind (arith, nat_tests) in
    let sign : (get_or value at 0 == 35) ≡ false = grind (arith, nat_tests) in
    c.loop-byte.invariant ∙ at_drop_more is_external value at 0 c.loop-byte-test.true
    ∙ external_behind (get_or value at 0) (drop (at + 1) value) colon slash sign
