use Rattle.std.proofs.Common.{subst}
use Rattle.readers.specs.Setting.{Stand}
use Rattle.readers.specs.Told.{Agrees}
use Rattle.whole_calls.proofs.page_links.by_families.Goals as goal

pub returns-clause-value : goal.returns-clause-value
returns-clause-value g c = λ there. c.families_linked.ensures.known there (g.A.Reader.stand c.args.asker.now).world
    (subst (λ (stand : Stand). Agrees stand.world (g.A.Reader.told c.families_linked.new.asker)) c.families_linked.ensures.stand
    (g.met.A.Reader.agrees c.families_linked.new.asker))
