use Rattle.std.proofs.Common.{sym, subst}
use Rattle.key_layer.specs.Answers.{AreAnswers}
use Rattle.key_layer.proofs.AnswerLaws.{answer_put}
use Rattle.key_layer.proofs.memo.KeyMemo.put.Goals as goal

pub returns-clause-answers : goal.returns-clause-answers
returns-clause-answers c = λ told nodes answers is. subst (AreAnswers told nodes) (sym c.in_ok-insert.ensures.entries)
    (answer_put told nodes c.args.at c.args.answer c.self.inside.answers.entries
    (subst (AreAnswers told nodes) (sym c.self.view_is) answers) is)
