use Rattle.std.proofs.Common.{ap, refl}
use Rattle.pushed_docs.proofs.MadeLaws.{pushed_made, pushed_shared}
use Rattle.readers.specs.Setting.{Stand}
use Rattle.readers.proofs.GrowthLaws.{agrees_before}
use Rattle.readers.proofs.OnlyLaws.{only_same}
use Rattle.plan_layer.proofs.asker.PlanLayerAsker.pushed.Goals as goal

pub returns-in-Some-clause-known : goal.returns-in-Some-clause-known
returns-in-Some-clause-known g c = (pushed_shared _ _ _ c.in-Some.known.now c.in_ok-share.field-0
    c.in_ok-share.ensures (c.in-Some.ensures.made _ _ c.args.self.now.made)).known

pub returns-in-Some-clause-given : goal.returns-in-Some-clause-given
returns-in-Some-clause-given g c = (pushed_shared _ _ _ c.in-Some.known.now c.in_ok-share.field-0
    c.in_ok-share.ensures (c.in-Some.ensures.made _ _ c.args.self.now.made)).given

pub made_pushed-requires : goal.made_pushed-requires
made_pushed-requires g c =
    let layer = c.args.self.now in
    let world = (g.K.Reader.stand layer.lower.now).world in record {
      tabled = layer.tabled world (agrees_before world _ _ layer.grown (g.met.K.Reader.agrees layer.lower.now));
    }

pub invariant_of-self-2-clause-made : goal.invariant_of-self-2-clause-made
invariant_of-self-2-clause-made g c = c.put.ensures.made _ _ c.made_pushed.new.asker.made
    (pushed_made _ _ _ _ c.in_ok-made.made c.in_ok-copy.copy
    (ap (λ (s : Stand). s.setting.documents) c.in_ok-made.ensures.stand) c.in_ok-copy.ensures
    c.in_ok-made.ensures.known c.in_ok-made.ensures.given)

pub returns-in-Some-clause-only : goal.returns-in-Some-clause-only
returns-in-Some-clause-only g c = λ world agrees. only_same _ _ _ refl
