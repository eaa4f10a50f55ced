use Rattle.std.proofs.Common.{sym, subst}
use Rattle.key_layer.specs.Answers.{IsAnswer}
use Rattle.key_layer.proofs.memo.KeyMemo.put_copy.Goals as goal

pub returns : goal.returns
returns c = λ told nodes answers is. c.put.ensures.answers told nodes answers
    (subst (IsAnswer told nodes c.args.at) (sym c.in_ok-copy.ensures) is)
