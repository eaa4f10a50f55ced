use Rattle.std.proofs.Common.{subst}
use Rattle.readers.specs.Setting.{Stand}
use Rattle.readers.specs.Told.{Agrees}
use Rattle.xref_links.specs.Here.{here_of}
use Rattle.xref_links.proofs.HereLaws.{here_made}
use Rattle.xref_links.proofs.walk.anchors.Goals as goal

pub returns-clause-known : goal.returns-clause-known
returns-clause-known g c = λ world page number agrees made is.
    c.anchors_of.ensures.known (here_of world c.args.plan.now page number) agrees
    (here_made _ _ world page number made is)

pub returns-clause-value : goal.returns-clause-value
returns-clause-value g c = λ page number made is.
    let told = g.A.Reader.told c.anchors_of.new.asker in
    let world = (g.A.Reader.stand c.args.asker.now).world in
    let agrees = subst (λ (stand : Stand). Agrees stand.world told) c.anchors_of.ensures.stand
    (g.met.A.Reader.agrees c.anchors_of.new.asker) in
    c.anchors_of.ensures.known (here_of world c.args.plan.now page number) agrees
    (here_made _ _ world page number made is)
