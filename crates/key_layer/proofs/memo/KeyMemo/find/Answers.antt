use Rattle.std.proofs.Common.{sym, subst}
use Rattle.key_layer.specs.Answers.{AreAnswers, IsAnswer}
use Rattle.key_layer.proofs.AnswerLaws.{answer_found, found_held}
use Rattle.key_layer.proofs.memo.KeyMemo.find.Goals as goal

pub returns : goal.returns
returns c = λ told nodes answers. found_held (IsAnswer told nodes c.args.at.now) _ _ c.get.ensures.value
    (answer_found told nodes c.args.at.now c.self.inside.answers.entries
    (subst (AreAnswers told nodes) (sym c.self.view_is) answers))
