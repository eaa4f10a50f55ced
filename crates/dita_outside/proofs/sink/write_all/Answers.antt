use Rattle.std.proofs.Common.{◌≡◌, ◌-◌, length, take, drop, sym, arith, ◌∙◌}
use Rattle.std.proofs.KnownBytes.{Appends-trans, Appends-kept}
use Rattle.std.proofs.Math.Seq.{take-add}
use Rattle.std.proofs.lemmas.Grind.{common_steps}
use Rattle.std.proofs.lemmas.List.{take-append-drop}
use Rattle.std.proofs.lemmas.Result.{err_from_is_err_and}
use Rattle.dita_outside.proofs.sink.write_all.Goals as goal

pub returns-in_err-done-clause-err : goal.returns-in_err-done-clause-err
returns-in_err-done-clause-err g c =
    let p = err_from_is_err_and c.from_residual.result c.from_residual.ensures.1 in
    let bytes = c.args.bytes.now in
    rw p.1 (
      take c.loop-done.done bytes,
      drop c.loop-done.done bytes,
      sym (take-append-drop c.loop-done.done bytes),
      Appends-kept _ _ _ _ c.loop-done.invariant.taken c.in_err-done.ensures.bytes,
    )

pub loop-done-preserved : goal.loop-done-preserved
loop-done-preserved g c =
    let bytes = c.args.bytes.now in
    let rest : take (length bytes - c.loop-done.done) (drop c.loop-done.done bytes) ≡ drop c.loop-done.done bytes =
    grind (arith, common_steps) in
    let taken = rw rest at c.in_ok-done.ensures.bytes in
    let bound = rw rest at c.in_ok-done.ensures.bound in
    record {
      inside = grind (arith, common_steps);
      taken = rw take-add (Appends-trans _ _ _ _ _ c.loop-done.invariant.taken taken);
      counted = c.in_ok-done.ensures.cause.stays ∙ c.loop-done.invariant.counted;
    }
