use Rattle.std.proofs.Common.{◌≡◌, Err, sym, ◌∙◌, arith, rules}
use Rattle.std.proofs.lemmas.List.{length-map}
use Rattle.script_text.specs.Facts.{IsUtf8Step, HasFewStep}
use Rattle.script_text.specs.Read.{step_seen}
use Rattle.script_text.proofs.StepLaws.{script_cut}
use Rattle.script_text.proofs.ScriptLaws.{HasNumber, script_sessions, steps_fit, seen_all}
use Rattle.script_text.proofs.read_script.Goals as goal

pub returns-in_err-steps : goal.returns-in_err-steps
returns-in_err-steps c =
    let is : c.from_residual.result ≡ Err c.in_err-steps.field-0.0 = search rules in
    let cut = script_cut c.args.bytes.now c.min.result c.min.ensures in
    rw (is, ← cut) c.in_err-steps.ensures.steps

pub returns : goal.returns
returns c = sym (script_cut c.args.bytes.now c.min.result c.min.ensures) ∙ c.in_ok-steps.ensures.steps

pub invariant_of-result : goal.invariant_of-result
invariant_of-result c =
    let steps = c.in_ok-steps.steps in
    let told = sym (script_cut c.args.bytes.now c.min.result c.min.ensures) ∙ c.in_ok-steps.ensures.steps in
    let fits = steps_fit c.args.bytes.now _ told in
    record {
      few = omega (arith, fits.few, length-map steps step_seen);
      sessions = seen_all HasNumber steps (script_sessions c.args.bytes.now _ told);
      size = fits.size;
      utf8 = seen_all IsUtf8Step steps fits.utf8;
      few_edits = seen_all HasFewStep steps fits.few_edits;
      origins = c.in_ok-steps.ensures.origins;
    }
