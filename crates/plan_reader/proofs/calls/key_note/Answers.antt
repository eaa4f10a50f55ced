use Rattle.std.proofs.Common.{◌≡◌, IfOk, subst}
use Rattle.dita_doc.specs.declared.content.KeyAnswer.{KeyAnswer}
use Rattle.readers.specs.Noted.{told_of}
use Rattle.readers.specs.Setting.{Setting}
use Rattle.readers.specs.Told as told_spec
use Rattle.plan_reader.proofs.calls.key_note.Goals as goal

pub returns : goal.returns
returns c = subst (λ (answer : KeyAnswer). IfOk c.key.result (λ note. (setting : Setting) → told_of setting note
    ≡ told_spec.key setting.nodes c.args.scope c.args.key.now answer)) c.in_ok-copy_answer.ensures c.key.ensures
