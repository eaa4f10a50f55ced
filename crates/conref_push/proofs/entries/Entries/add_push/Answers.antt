use Rattle.std.proofs.Common.{rules}
use Rattle.conref_push.specs.Table.{with_push}
use Rattle.conref_push.proofs.TableLaws.{entry_changed}
use Rattle.conref_push.proofs.entries.Entries.add_push.Goals as goal

pub returns : goal.returns
returns c =
    let found = c.or_insert-entry.result.now in
    entry_changed c.args.self.now _ c.args.name.now (with_push c.args.push)
    (record { pushes = c.push.new.self; faults = found.faults; acts = found.acts })
    (record { each = λ other. search (rules, c.in_ok-self.ensures.update) }) (search rules)
