use Rattle.readers.proofs.SoughtLaws.{sought_asked}
use Rattle.key_layer.proofs.AnswerLaws.{answers_more}
use Rattle.key_layer.proofs.PassingLaws.{note_sought}
use Rattle.key_layer.proofs.layer.KeyLayer.ask_doc.Goals as goal

pub invariant_of-self-2-clause-answers : goal.invariant_of-self-2-clause-answers
invariant_of-self-2-clause-answers g c = answers_more _ _ _ _ c.doc.ensures.grows c.args.self.now.answers

pub invariant_of-self-2-clause-carried : goal.invariant_of-self-2-clause-carried
invariant_of-self-2-clause-carried g c = sought_asked _ _ _ _ _ _ _ _ c.args.self.now.carried
    c.in_ok-clone.ensures.cases c.in_ok-begin.ensures.ok c.doc.ensures.grows c.doc.ensures.founded

pub invariant_of-self-2-clause-passed : goal.invariant_of-self-2-clause-passed
invariant_of-self-2-clause-passed g c = note_sought _ _ _ _ _ _ _ _ c.args.self.now.passed
    c.in_ok-clone.ensures.cases c.in_ok-begin.ensures.ok c.doc.ensures.grows c.doc.ensures.asks
