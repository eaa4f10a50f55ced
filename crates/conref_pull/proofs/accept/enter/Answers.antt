use Rattle.conref_pull.specs.State.{place_shown}
use Rattle.conref_pull.proofs.AcceptLaws.{one_behind}
use Rattle.conref_pull.proofs.accept.enter.Goals as goal

pub returns-clause-path : goal.returns-clause-path
returns-clause-path c = one_behind place_shown c.args.links c.args.path.now.items c.truncate.new.self.items
    c.push.new.self.items _ c.truncate.ensures.items c.in_ok-push.ensures.items
