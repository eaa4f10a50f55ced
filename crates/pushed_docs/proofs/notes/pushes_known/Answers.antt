use Rattle.std.proofs.Common.{◌∙◌, ap}
use Rattle.readers.specs.Told.{pushes}
use Rattle.pushed_docs.proofs.notes.pushes_known.Goals as goal

pub returns : goal.returns
returns c = λ world documents tabled setting.
    c.in_ok-note.ensures setting
    ∙ ap (pushes setting.documents c.args.name.now) (c.in_ok-answer.ensures world documents tabled)
