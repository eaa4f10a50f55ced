use Rattle.std.proofs.Common.{subst}
use Rattle.readers.specs.Setting.{Stand}
use Rattle.readers.specs.Told.{Agrees}
use Rattle.conref_targets.specs.ResolveInput.{documents_in}
use Rattle.conref_pull.proofs.calls.resolve_page.Goals as goal

pub returns-clause-known : goal.returns-clause-known
returns-clause-known g c = λ world agrees.
    c.resolve_page_with.ensures.known world agrees (c.new-tables.ensures.rules (g.A.Reader.stand c.args.asker.now).world)
    (c.new-tables.ensures.places (documents_in world (g.A.Reader.stand c.args.asker.now).setting))

pub returns-clause-value : goal.returns-clause-value
returns-clause-value g c =
    let world = (g.A.Reader.stand c.args.asker.now).world in
    c.resolve_page_with.ensures.known world
    (subst (λ (s : Stand). Agrees s.world (g.A.Reader.told c.resolve_page_with.new.asker))
    c.resolve_page_with.ensures.stand (g.met.A.Reader.agrees c.resolve_page_with.new.asker))
    (c.new-tables.ensures.rules world)
    (c.new-tables.ensures.places (documents_in world (g.A.Reader.stand c.args.asker.now).setting))

pub returns-clause-only : goal.returns-clause-only
returns-clause-only g c = c.resolve_page_with.ensures.only
