use Rattle.std.proofs.Common.{refl}
use Rattle.pushed_docs.proofs.KeptLaws.{kept_put}
use Rattle.pushed_docs.proofs.MadeLaws.{put_under}
use Rattle.pushed_docs.proofs.docs.PushedDocs.put.Goals as goal

pub returns-clause-kept : goal.returns-clause-kept
returns-clause-kept c = λ world documents kept is. kept_put world documents c.args.self.now
    (record { docs = c.insert.new.self; quiet = c.args.self.now.quiet }) c.args.name.now c.in_ok-clone.field-0 c.args.found
    c.in_ok-insert.ensures.updates.0 refl c.in_ok-clone.ensures.cases is kept

pub returns-clause-ok : goal.returns-clause-ok
returns-clause-ok c = put_under c.args.self.now.docs c.insert.new.self c.args.name.now c.in_ok-clone.field-0
    c.args.found c.in_ok-insert.ensures.updates.0 c.in_ok-clone.ensures.cases
