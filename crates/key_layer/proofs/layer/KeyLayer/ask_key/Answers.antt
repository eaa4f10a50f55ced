use Rattle.std.proofs.Common.{refl}
use Rattle.key_scopes.specs.Made.{IsTableOf}
use Rattle.readers.proofs.GrowthLaws.{grows_trans}
use Rattle.readers.proofs.LayerLaws.{note_asked}
use Rattle.key_layer.proofs.AnswerLaws.{answers_more}
use Rattle.key_layer.proofs.PassingLaws.{note_tried}
use Rattle.key_layer.proofs.ReadyLaws.{answered, stays_none}
use Rattle.plan_nodes.proofs.GivenLaws.{told_later}
use Rattle.key_layer.proofs.layer.KeyLayer.ask_key.Goals as goal

pub invariant_of-self-2-clause-answers : goal.invariant_of-self-2-clause-answers
invariant_of-self-2-clause-answers g c = answers_more _ _ _ _ c.answer_key.ensures.grows c.args.self.now.answers

pub invariant_of-self-2-clause-carried : goal.invariant_of-self-2-clause-carried
invariant_of-self-2-clause-carried g c = note_asked _ _ _ _ _ _ _ _ c.args.self.now.carried refl
    c.in_ok-begin.ensures.ok c.answer_key.ensures.grows (stays_none _ _ _ (c.answer_key.ensures.founded
    (told_later _ _ _ c.args.self.now.grown c.args.self.now.ready.given)))

pub invariant_of-self-2-clause-passed : goal.invariant_of-self-2-clause-passed
invariant_of-self-2-clause-passed g c = note_tried _ _ _ _ _ _ _ _ c.args.self.now.passed refl
    c.in_ok-begin.ensures.ok c.answer_key.ensures.grows c.answer_key.ensures.asks

pub returns-clause-is : goal.returns-clause-is
returns-clause-is g c = answered _ _ _ _ _ (λ world nodes. IsTableOf world nodes c.args.self.now.table.now) _ _ _ _
    c.as_slice-nodes.ensures c.as_str-key.ensures
    (grows_trans _ _ _ c.args.self.now.grown c.answer_key.ensures.grows) c.args.self.now.ready
    c.args.self.now.tabled c.answer_key.ensures.known (λ roots. c.answer_key.ensures.given roots
    (told_later _ _ _ c.args.self.now.grown c.args.self.now.ready.given))
