use Rattle.std.proofs.Common.{subst}
use Rattle.readers.specs.Setting.{Stand}
use Rattle.readers.specs.Told.{Agrees}
use Rattle.whole_calls.proofs.page_links.by_rows.Goals as goal

pub returns-clause-value : goal.returns-clause-value
returns-clause-value g c = λ there. c.rows_linked.ensures.known there (g.A.Reader.stand c.args.asker.now).world
    (subst (λ (stand : Stand). Agrees stand.world (g.A.Reader.told c.rows_linked.new.asker)) c.rows_linked.ensures.stand
    (g.met.A.Reader.agrees c.rows_linked.new.asker))
