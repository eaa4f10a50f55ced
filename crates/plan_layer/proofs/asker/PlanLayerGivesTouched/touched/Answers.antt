use Rattle.std.proofs.Common.{ap}
use Rattle.pushed_docs.proofs.KeptLaws.{kept_made, kept_shared}
use Rattle.readers.specs.Setting.{Stand}
use Rattle.plan_layer.proofs.asker.PlanLayerGivesTouched.touched.Goals as goal

pub kept_pushed-requires : goal.kept_pushed-requires
kept_pushed-requires g c =
    let layer = c.args.self.now in
    let world = (g.K.Reader.stand layer.lower.now).world in
    record {
      kept = kept_shared world layer.documents.now c.args.name.now c.in-Some.kept.now c.in_ok-copy.copy
          c.in_ok-copy.ensures (c.in-Some.ensures.kept world layer.documents.now layer.kept);
    }

pub invariant_of-self-2-clause-kept : goal.invariant_of-self-2-clause-kept
invariant_of-self-2-clause-kept g c =
    let layer = c.with_pushes.new.asker in
    let world = (g.K.Reader.stand layer.lower.now).world in
    c.put.ensures.kept world layer.documents.now layer.kept
    (kept_made world c.args.self.now.documents.now layer.documents.now c.args.name.now c.in_ok-made.made
    c.in_ok-kept.kept (ap (λ (s : Stand). s.setting.documents) c.in_ok-made.ensures.stand) c.in_ok-kept.ensures
    (c.in_ok-made.ensures.known world (layer.carried.agrees world (g.met.K.Reader.agrees layer.lower.now))))
