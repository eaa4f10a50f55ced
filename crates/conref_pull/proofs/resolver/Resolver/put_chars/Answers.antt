use Rattle.std.proofs.Common.{sym}
use Rattle.conref_targets.proofs.OriginLaws.{origin_there}
use Rattle.conref_pull.proofs.resolver.Resolver.put_chars.Goals as goal

pub returns-in_default-clause-put : goal.returns-in_default-clause-put
returns-in_default-clause-put c = λ place here.
    absurd (origin_there c.args.doc.now place c.args.node.now here (sym c.in_default.ensures))
