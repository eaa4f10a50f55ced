use Rattle.std.proofs.Common.{ap, refl}
use Rattle.pushed_docs.proofs.MadeLaws.{pushed_made, pushed_shared}
use Rattle.readers.specs.Setting.{Stand}
use Rattle.readers.proofs.OnlyLaws.{only_same}
use Rattle.plan_reader.proofs.asker.PlanReaderAsker.pushed.Goals as goal

pub returns-in-Some-clause-known : goal.returns-in-Some-clause-known
returns-in-Some-clause-known c = (pushed_shared _ _ _ c.in-Some.known.now c.in_ok-share.field-0
    c.in_ok-share.ensures (c.in-Some.ensures.made _ _ c.args.self.now.made)).known

pub returns-in-Some-clause-given : goal.returns-in-Some-clause-given
returns-in-Some-clause-given c = (pushed_shared _ _ _ c.in-Some.known.now c.in_ok-share.field-0
    c.in_ok-share.ensures (c.in-Some.ensures.made _ _ c.args.self.now.made)).given

pub returns-in-Some-clause-only : goal.returns-in-Some-clause-only
returns-in-Some-clause-only c = λ world agrees. only_same _ _ _ refl

pub made_pushed-requires : goal.made_pushed-requires
made_pushed-requires c = record { tabled = c.args.self.now.tabled.pushed }

pub invariant_of-self-clause-made : goal.invariant_of-self-clause-made
invariant_of-self-clause-made c = c.put.ensures.made _ _ c.made_pushed.new.asker.made
    (pushed_made _ _ _ _ c.in_ok-made.made c.in_ok-copy.copy
    (ap (λ (s : Stand). s.setting.documents) c.in_ok-made.ensures.stand) c.in_ok-copy.ensures
    c.in_ok-made.ensures.known c.in_ok-made.ensures.given)
