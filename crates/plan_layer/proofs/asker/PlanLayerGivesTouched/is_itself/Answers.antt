use Rattle.pushed_docs.proofs.QuietLaws.{quiet_found, quiet_itself}
use Rattle.plan_layer.proofs.asker.PlanLayerGivesTouched.is_itself.Goals as goal

pub returns-then-is_without_conaction-clause-same : goal.returns-then-is_without_conaction-clause-same
returns-then-is_without_conaction-clause-same g c = λ world documents table pushes there itself.
    let layer = c.args.self.now in
    let own = (g.K.Reader.stand layer.lower.now).world in
    quiet_itself own world documents c.args.name.now c.args.found.now c.requires.there there pushes
    (c.if-touches.ensures own documents table)
    (c.is_without_conaction.ensures.quiet own layer.documents.now layer.kept c.if-is_without_conaction.true)

pub invariant_of-self-2-clause-kept : goal.invariant_of-self-2-clause-kept
invariant_of-self-2-clause-kept g c =
    let layer = c.args.self.now in
    let own = (g.K.Reader.stand layer.lower.now).world in
    c.put_quiet.ensures.kept own layer.documents.now layer.kept
    (quiet_found own c.args.name.now c.args.found.now c.in-Some.doc c.deref.result.now c.in-Some.is c.requires.there
    c.deref.ensures (c.if-has_conaction_in.ensures c.args.name.now))

pub returns-clause-same : goal.returns-clause-same
returns-clause-same g c = λ world documents table pushes there itself.
    let own = (g.K.Reader.stand c.args.self.now.lower.now).world in
    quiet_itself own world documents c.args.name.now c.args.found.now c.requires.there there pushes
    (c.if-touches.ensures own documents table)
    (quiet_found own c.args.name.now c.args.found.now c.in-Some.doc c.deref.result.now c.in-Some.is c.requires.there
    c.deref.ensures (c.if-has_conaction_in.ensures c.args.name.now))
