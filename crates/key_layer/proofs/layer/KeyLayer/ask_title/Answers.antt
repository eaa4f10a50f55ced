use Rattle.std.proofs.Common.{refl}
use Rattle.readers.proofs.LayerLaws.{tried_asked}
use Rattle.key_layer.proofs.AnswerLaws.{answers_more}
use Rattle.key_layer.proofs.PassingLaws.{note_tried}
use Rattle.key_layer.proofs.layer.KeyLayer.ask_title.Goals as goal

pub invariant_of-self-2-clause-answers : goal.invariant_of-self-2-clause-answers
invariant_of-self-2-clause-answers g c = answers_more _ _ _ _ c.title.ensures.grows c.args.self.now.answers

pub invariant_of-self-2-clause-carried : goal.invariant_of-self-2-clause-carried
invariant_of-self-2-clause-carried g c = tried_asked _ _ _ _ _ _ _ _ c.args.self.now.carried
    c.in_ok-clone.ensures.cases c.in_ok-begin.ensures.ok c.title.ensures.grows c.title.ensures.founded

pub invariant_of-self-2-clause-passed : goal.invariant_of-self-2-clause-passed
invariant_of-self-2-clause-passed g c = note_tried _ _ _ _ _ _ _ _ c.args.self.now.passed refl
    c.in_ok-begin.ensures.ok c.title.ensures.grows c.title.ensures.asks
