use Rattle.std.proofs.Common.{rules}
use Rattle.pyx_text.proofs.Names.{has_name-insert}
use Rattle.pyx_text.proofs.machine.insert_name.Goals as goal

pub returns-clause-names : goal.returns-clause-names
returns-clause-names c other =
    has_name-insert other c.args.name.now c.in_ok-from_str.field-0 c.args.names.now c.insert.new.self
    (search rules) c.in_ok-is_new.ensures.keys
