use Rattle.pushed_docs.proofs.QuietLaws.{quiet_found, quiet_itself}
use Rattle.reader_spec.specs.World.{world_of}
use Rattle.plan_reader.proofs.asker.PlanReaderGivesTouched.is_itself.Goals as goal

pub returns-then-is_without_conaction-clause-same : goal.returns-then-is_without_conaction-clause-same
returns-then-is_without_conaction-clause-same c = λ world documents table pushes there itself.
    let r = c.args.self.now in
    let own = world_of r.known.sources.now in
    quiet_itself own world documents c.args.name.now c.args.found.now c.requires.there there pushes
    (c.if-touches.ensures own documents table)
    (c.is_without_conaction.ensures.quiet own r.documents.now r.kept c.if-is_without_conaction.true)

pub invariant_of-self-clause-kept : goal.invariant_of-self-clause-kept
invariant_of-self-clause-kept c =
    let r = c.args.self.now in
    let own = world_of r.known.sources.now in
    c.put_quiet.ensures.kept own r.documents.now r.kept
    (quiet_found own c.args.name.now c.args.found.now c.in-Some.doc c.deref.result.now c.in-Some.is c.requires.there
    c.deref.ensures (c.if-has_conaction_in.ensures c.args.name.now))

pub returns-clause-same : goal.returns-clause-same
returns-clause-same c = λ world documents table pushes there itself.
    let own = world_of c.args.self.now.known.sources.now in
    quiet_itself own world documents c.args.name.now c.args.found.now c.requires.there there pushes
    (c.if-touches.ensures own documents table)
    (quiet_found own c.args.name.now c.args.found.now c.in-Some.doc c.deref.result.now c.in-Some.is c.requires.there
    c.deref.ensures (c.if-has_conaction_in.ensures c.args.name.now))
