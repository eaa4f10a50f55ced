use Rattle.std.proofs.Common.{sym, ap, ◌∙◌}
use Rattle.std.specs.List.{before_first, after_first}
use Rattle.dita_doc.specs.Bytes.{is_space}
use Rattle.pyx_text.proofs.LineLaws.{before_space, behind_space, before_none, behind_none}
use Rattle.pyx_text.proofs.line.split_at_space.Goals as goal

pub returns-in-Some-clause-front : goal.returns-in-Some-clause-front
returns-in-Some-clause-front c =
    let parts = c.in-Some.parts in
    sym (ap (before_first is_space) c.in-Some.ensures.whole
    ∙ before_space parts.0.now parts.1.now c.in-Some.ensures.first)

pub returns-in-Some-clause-back : goal.returns-in-Some-clause-back
returns-in-Some-clause-back c =
    let parts = c.in-Some.parts in
    sym (ap (after_first is_space) c.in-Some.ensures.whole
    ∙ behind_space parts.0.now parts.1.now c.in-Some.ensures.first)

pub returns-in-None-clause-front : goal.returns-in-None-clause-front
returns-in-None-clause-front c = sym (before_none c.args.text.now c.in-None.ensures)

pub returns-in-None-clause-back : goal.returns-in-None-clause-back
returns-in-None-clause-back c = sym (behind_none c.args.text.now c.in-None.ensures)
