use Rattle.std.proofs.Common.{subst}
use Rattle.readers.specs.Told.{Agrees}
use Rattle.conref_push.proofs.pushed_doc.pushed.Goals as goal

pub returns-clause-value : goal.returns-clause-value
returns-clause-value g c = c.pushed_doc.ensures.known (g.R.Reader.stand c.args.reader.now).world
    (subst (λ s. Agrees s.world (g.R.Reader.told c.pushed_doc.new.reader)) c.pushed_doc.ensures.stand
    (g.met.R.Reader.agrees c.pushed_doc.new.reader))

pub returns-clause-given : goal.returns-clause-given
returns-clause-given g c =
    c.pushed_doc.ensures.given (g.R.Reader.stand c.pushed_doc.new.reader).world
    (g.met.R.Reader.agrees c.pushed_doc.new.reader)
