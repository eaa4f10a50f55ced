use Rattle.std.proofs.Common.{ap}
use Rattle.pushed_docs.proofs.KeptLaws.{kept_made, kept_shared}
use Rattle.reader_spec.specs.World.{world_of}
use Rattle.readers.specs.Setting.{Stand}
use Rattle.plan_reader.proofs.asker.PlanReaderGivesTouched.touched.Goals as goal

pub kept_pushed-requires : goal.kept_pushed-requires
kept_pushed-requires c =
    let r = c.args.self.now in
    let world = world_of r.known.sources.now in
    record {
      kept = kept_shared world r.documents.now c.args.name.now c.in-Some.kept.now c.in_ok-copy.copy
          c.in_ok-copy.ensures (c.in-Some.ensures.kept world r.documents.now r.kept);
    }

pub invariant_of-self-clause-kept : goal.invariant_of-self-clause-kept
invariant_of-self-clause-kept c =
    let r = c.with_pushes.new.asker in
    let world = world_of r.known.sources.now in
    c.put.ensures.kept world r.documents.now r.kept
    (kept_made world c.args.self.now.documents.now r.documents.now c.args.name.now c.in_ok-made.made
    c.in_ok-kept.kept (ap (λ (s : Stand). s.setting.documents) c.in_ok-made.ensures.stand) c.in_ok-kept.ensures
    (c.in_ok-made.ensures.known world r.agreed))
