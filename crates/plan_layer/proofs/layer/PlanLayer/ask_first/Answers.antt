use Rattle.std.proofs.Common.{[], ◌∷◌, ap, refl}
use Rattle.plan_layer.proofs.CarryLaws as carry
use Rattle.pushed_docs.proofs.KeptLaws.{kept_still}
use Rattle.pushed_docs.proofs.MadeLaws.{memo_put}
use Rattle.plan_layer.proofs.PassLaws as pass
use Rattle.readers.specs.Told.{pending}
use Rattle.plan_layer.proofs.layer.PlanLayer.ask_first.Goals as goal

pub invariant_of-self-2-clause-made : goal.invariant_of-self-2-clause-made
invariant_of-self-2-clause-made g c = memo_put _ _ _ c.args.self.now.memo.now _ _ _
    c.in_ok-begin.ensures.ok c.args.self.now.made

pub invariant_of-self-2-clause-kept : goal.invariant_of-self-2-clause-kept
invariant_of-self-2-clause-kept g c = kept_still _ _ c.args.self.now.documents.now c.args.self.now.docs.now
    c.first.ensures.stand c.args.self.now.kept

pub invariant_of-self-2-clause-carried : goal.invariant_of-self-2-clause-carried
invariant_of-self-2-clause-carried g c = carry.note_tried _ _ _ (c.args.name.now ∷ []) _ _ _ _ c.args.self.now.carried
    (ap (λ n. pending (n ∷ [])) c.in_ok-clone.ensures.cases) c.in_ok-begin.ensures.ok c.first.ensures.grows
    c.first.ensures.founded

pub invariant_of-self-2-clause-passed : goal.invariant_of-self-2-clause-passed
invariant_of-self-2-clause-passed g c = pass.note_tried _ _ _ _ _ _ _ _ _ c.args.self.now.passed refl
    c.in_ok-begin.ensures.ok c.first.ensures.grows c.first.ensures.asks
