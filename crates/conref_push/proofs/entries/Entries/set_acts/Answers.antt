use Rattle.std.proofs.Common.{rules}
use Rattle.conref_push.specs.Table.{with_acts}
use Rattle.conref_push.proofs.TableLaws.{entry_changed}
use Rattle.conref_push.proofs.entries.Entries.set_acts.Goals as goal

pub returns : goal.returns
returns c = entry_changed c.args.self.now _ c.args.name.now with_acts (with_acts c.or_insert-entry.result.now)
    (record { each = λ other. search (rules, c.in_ok-self.ensures.update) }) (search rules)
