use Rattle.std.proofs.Common.{rules}
use Rattle.conref_push.specs.Table.{with_fault}
use Rattle.conref_push.proofs.TableLaws.{entry_changed}
use Rattle.conref_push.proofs.entries.Entries.add_fault.Goals as goal

pub returns : goal.returns
returns c =
    let found = c.or_insert-entry.result.now in
    entry_changed c.args.self.now _ c.args.name.now (with_fault c.args.fault)
    (record { pushes = found.pushes; faults = c.push.new.self; acts = found.acts })
    (record { each = λ other. search (rules, c.in_ok-self.ensures.update) }) (search rules)
