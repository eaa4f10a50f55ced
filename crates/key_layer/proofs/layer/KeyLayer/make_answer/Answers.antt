use Rattle.key_layer.proofs.layer.KeyLayer.make_answer.Goals as goal

pub invariant_of-self-clause-answers : goal.invariant_of-self-clause-answers
invariant_of-self-clause-answers g c = c.keep.ensures.answers _ _ c.ask_key.new.self.answers c.in_ok-answer.ensures.is
