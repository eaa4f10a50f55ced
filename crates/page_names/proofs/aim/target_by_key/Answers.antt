use Rattle.std.proofs.Common.{sym, ◌∙◌}
use Rattle.std.specs.Option.{option_copied}
use Rattle.page_names.proofs.AimLaws.{defined_aim, undefined_aim}
use Rattle.page_names.proofs.aim.target_by_key.Goals as goal

pub returns-then-is_some-clause-aim : goal.returns-then-is_some-clause-aim
returns-then-is_some-clause-aim c = λ world around carried.
    defined_aim world c.args.node.now around c.args.key.now (option_copied c.args.href) c.args.answer
    c.args.faults.now c.append_met.new.faults c.in_ok-append_met.ensures (sym c.is_some.ensures ∙ c.if-is_some.true)

pub returns-then-is_some-clause-given : goal.returns-then-is_some-clause-given
returns-then-is_some-clause-given c = λ told given may. may

pub returns-clause-aim : goal.returns-clause-aim
returns-clause-aim c = λ world around carried.
    undefined_aim world c.args.node.now around c.args.key.now (option_copied c.args.href) c.args.answer
    c.args.faults.now c.append_met.new.faults c.in_ok-append_met.ensures c.target_undefined.result
    c.target_undefined.new.faults (sym c.is_some.ensures ∙ c.if-is_some.false)
    (c.target_undefined.ensures.aim world around carried)

pub returns-clause-given : goal.returns-clause-given
returns-clause-given c = λ told given may. c.target_undefined.ensures.given told given
