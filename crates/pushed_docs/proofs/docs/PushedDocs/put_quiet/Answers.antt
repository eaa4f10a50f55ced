use Rattle.std.proofs.Common.{refl}
use Rattle.pushed_docs.proofs.QuietLaws.{quiet_put, quiet_there}
use Rattle.pushed_docs.proofs.docs.PushedDocs.put_quiet.Goals as goal

pub returns-clause-kept : goal.returns-clause-kept
returns-clause-kept c = λ world documents kept none. quiet_put world documents c.args.self.now
    (record { docs = c.args.self.now.docs; quiet = c.insert.new.self }) c.args.name.now c.in_ok-clone.field-0
    c.in_ok-insert.ensures.updates refl c.in_ok-clone.ensures.cases none kept

pub returns-clause-ok : goal.returns-clause-ok
returns-clause-ok c = quiet_there c.insert.new.self c.in_ok-clone.field-0 c.args.name.now
    c.in_ok-insert.ensures.updates.1 c.in_ok-clone.ensures.cases
